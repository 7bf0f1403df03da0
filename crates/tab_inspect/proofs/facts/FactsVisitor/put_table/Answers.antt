use Rattle.std.proofs.Common.{ℕ, List, [], ◌∷◌, subst}
use Rattle.std.specs.Prelude.{codes}
use Rattle.tab_io.specs.Writing.{Puts}
use Rattle.tab_text.specs.Words.{word}
use Rattle.tab_text.specs.Lines.{line_text}
use Rattle.tab_lines.specs.Forms.{time_name}
use Rattle.tab_audit.specs.Words.{versions_word}
use Rattle.tab_inspect.proofs.facts.FactsVisitor.put_table.Goals as goal

pub returns : goal.returns
returns g c =
    let P : List ℕ → List ℕ → ℕ → Type 0 = λ b t n. Puts g.W.Output c.args.output.now c.put_line.new.output (line_text (codes "table" ∷ word b ∷ t ∷ versions_word n ∷ [])) c.put_line.result in
    subst (λ (n : ℕ). P c.args.head.now.name (time_name c.args.head.now.time) n) c.get.ensures.value
    (subst (λ (t : List ℕ). P c.args.head.now.name t c.get.result) c.time_word.ensures (subst (λ (b : List ℕ). P b c.time_word.result.now c.get.result) c.as_bytes.ensures.value c.put_line.ensures))
