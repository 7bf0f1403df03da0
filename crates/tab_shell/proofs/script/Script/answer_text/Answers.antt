use Rattle.std.proofs.Common.{Option, sym, subst}
use Rattle.tab_text.specs.Gives.{Gives}
use Rattle.tab_lines.specs.declared.line.Line.{Line}
use Rattle.tab_shell.proofs.script.Script.answer_text.Goals as goal

pub returns-in-Some : goal.returns-in-Some
returns-in-Some g c =
    let read = c.answer_scan.ensures in
    (read.0, subst (λ (o : Option Line). Gives (λ x. x) read.0 o) (sym c.in-Some.ensures) read.1, read.2)
