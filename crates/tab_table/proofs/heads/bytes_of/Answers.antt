-- The four bytes of the number.
use Rattle.tab_key.specs.Encoding.{four_bytes}
use Rattle.tab_table.proofs.heads.bytes_of.Goals as goal

pub returns : goal.returns
unfolding four_bytes
returns c = c.to_be_bytes.ensures
