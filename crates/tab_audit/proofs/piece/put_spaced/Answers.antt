use Rattle.std.proofs.Common.{ℕ, List, subst}
use Rattle.tab_io.specs.Writing.{Puts}
use Rattle.tab_text.proofs.LineLemmas.{after_spaces_each}
use Rattle.tab_audit.specs.Pieces.{piece_text}
use Rattle.tab_audit.proofs.piece.put_spaced.Goals as goal

pub returns : goal.returns
returns g c =
    subst (λ (t : List ℕ). Puts g.W.Output c.args.output.now c.put_each.new.output t c.put_each.result)
    (after_spaces_each piece_text c.args.words.now) c.put_each.ensures
