use Rattle.std.proofs.Common.{◌∙◌, ap}
use Rattle.std.specs.Int.{from_be_bytes, w128}
use Rattle.tab_key.proofs.RowPrefix.{bytes_padded}
use Rattle.tab_key.proofs.prefix.row_prefix.Goals as goal

pub returns : goal.returns
returns c = record {
  value = c.from_be_bytes.ensures ∙ ap (from_be_bytes w128) c.padded.ensures;
  bytes = bytes_padded 16 c.args.row.now (λ i. (c.type_inv.row i).fits);
}
