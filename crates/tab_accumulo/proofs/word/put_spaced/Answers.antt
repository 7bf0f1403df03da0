use Rattle.std.proofs.Common.{ℕ, List, subst}
use Rattle.tab_io.specs.Writing.{Puts}
use Rattle.tab_text.proofs.LineLemmas.{after_spaces_each}
use Rattle.tab_accumulo.specs.Words.{shell_word}
use Rattle.tab_accumulo.proofs.word.put_spaced.Goals as goal

pub returns : goal.returns
returns g c =
    subst (λ (t : List ℕ). Puts g.W.Output c.args.output.now c.put_each.new.output t c.put_each.result)
    (after_spaces_each shell_word c.args.words.now) c.put_each.ensures
