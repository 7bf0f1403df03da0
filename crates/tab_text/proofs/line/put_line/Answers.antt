use Rattle.std.proofs.Common.{ℕ, List, subst}
use Rattle.tab_io.specs.Writing.{Puts}
use Rattle.tab_text.proofs.LineLemmas.{line_first}
use Rattle.tab_text.proofs.line.put_line.Goals as goal

pub returns : goal.returns
returns g c =
    subst (λ (t : List ℕ). Puts g.W.Output c.args.output.now c.put_words.new.output t c.put_words.result)
    (line_first c.args.words.now c.split_at.result.1.now _ c.if-is_empty.ensures c.split_at.ensures.back) c.put_words.ensures
