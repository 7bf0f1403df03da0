use Rattle.std.proofs.Common.{List, ℕ, Err, rules, subst}
use Rattle.tab_text.specs.declared.parse_error.ParseError.TheVariants.{NoMemory}
use Rattle.tab_shell.specs.Ahead.{ReadsLine}
use Rattle.tab_shell.specs.Progress.{PrintsAnswer}
use Rattle.tab_shell.proofs.Saying.{printed_answers}
use Rattle.tab_shell.proofs.script.Script.answer_pending.Goals as goal

pub returns-in-Some : goal.returns-in-Some
returns-in-Some g c =
    let read = c.answer_text.ensures in
    (read.0, λ gone h. subst (λ (line : List ℕ). ReadsLine read.0 line) (c.in-Some.ensures gone h) read.1, read.2)

pub returns-in-None : goal.returns-in-None
returns-in-None g c =
    let prints : PrintsAnswer g.W.Output c.args.self.now (Err NoMemory) c.lacks_memory.new.self c.args.output.now c.lacks_memory.new.output c.lacks_memory.result = search rules in
    (Err NoMemory, λ gone h. tt, printed_answers g.W.Output c.args.self.now c.lacks_memory.new.self (Err NoMemory) c.args.output.now c.lacks_memory.new.output c.lacks_memory.result c.printed.result c.printed.ensures prints)
