use Rattle.std.proofs.Common.{◌≡◌, ◌<◌, length, arith, ap}
use Rattle.tab_mutation.specs.Mutations.{Update}
use Rattle.std.specs.List.{slice_index_or}
use Rattle.tab_mutation.proofs.Shapes.{shaped_labels}
use Rattle.tab_core.proofs.labels.malformed.Goals as goal

pub unknown_malformed_at-requires : goal.unknown_malformed_at-requires
unknown_malformed_at-requires c =
    let within : c.loop-index.index < length c.args.mutation.now.updates = omega (arith, c.len-index-end.ensures, c.loop-index-test.true) in
    let short = shaped_labels c.args.mutation.now c.loop-index.index c.update-update.result c.keeps.ensures within in
    let is : c.update-update.result ≡ slice_index_or c.args.mutation.now.updates c.loop-index.index c.update-update.result = c.update-update.ensures in
    let same = ap (λ (u : Update). length u.label) is in
    omega (arith, short, same)
