use Rattle.std.proofs.Common.{ℕ, List, length, ap, ◌∙◌, subst}
use Rattle.std.specs.List.{flat_map}
use Rattle.tab_io.specs.Writing.{Puts}
use Rattle.tab_wire.specs.Replies.{u32}
use Rattle.tab_wire.specs.Values.{value_bytes}
use Rattle.tab_codec.proofs.Lengths.{low_bytes}
use Rattle.tab_wire.proofs.Lengths.{joined_each}
use Rattle.tab_wire.proofs.value.put_total.Goals as goal

pub returns : goal.returns
returns g c =
    subst (λ (t : List ℕ). Puts g.W.Output c.args.output.now c.put_number.new.output t c.put_number.result)
    (ap u32 c.total.ensures ∙ low_bytes (length (flat_map value_bytes c.args.values.now)) ∙ ap (λ t. u32 (length t)) (joined_each value_bytes c.args.values.now)) c.put_number.ensures
