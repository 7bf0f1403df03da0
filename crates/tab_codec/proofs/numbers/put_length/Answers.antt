use Rattle.std.proofs.Common.{ℕ, List, ap, ◌∙◌, subst}
use Rattle.tab_io.specs.Writing.{Puts}
use Rattle.tab_codec.specs.Spelling.{u32}
use Rattle.tab_codec.proofs.Lengths.{low_bytes}
use Rattle.tab_codec.proofs.numbers.put_length.Goals as goal

pub returns : goal.returns
returns g c =
    subst (λ (t : List ℕ). Puts g.W.Output c.args.output.now c.put_number.new.output t c.put_number.result) (ap u32 c.low.ensures ∙ low_bytes c.args.length) c.put_number.ensures
