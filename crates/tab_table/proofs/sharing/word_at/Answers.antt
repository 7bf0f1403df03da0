use Rattle.std.proofs.Common.{◌≡◌, ◌+◌, rules}
use Rattle.std.specs.Int.{w64, from_be_bytes}
use Rattle.std.specs.List.{slice_range}
use Rattle.tab_table.proofs.Shares.{word_bytes}
use Rattle.tab_table.proofs.sharing.word_at.Goals as goal

pub returns : goal.returns
returns c =
    let bytes = c.args.bytes.now in
    let place = c.args.place in
    let is : c.get_u64.result ≡ from_be_bytes w64 (slice_range bytes place (place + 8)) = search rules in
    word_bytes bytes place c.get_u64.result c.requires (λ i. (c.type_inv.bytes i).fits) is
