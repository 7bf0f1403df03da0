use Rattle.std.proofs.Common.{rules, ◌≡◌, ◌≤◌, ◌∙◌, sym, ap, length}
use Rattle.tab_key.specs.Encoding.{record_at}
use Rattle.tab_key.specs.Records.{Record}
use Rattle.tab_mem.proofs.SameRow.{same_row}
use Rattle.tab_mem.proofs.sorting.grouping.has_row.Goals as goal

pub returns-then-row-le-MOST_BYTES : goal.returns-then-row-le-MOST_BYTES
returns-then-row-le-MOST_BYTES c =
    let own = c.row_piece-own.result in
    let row = c.args.row.now in
    let there : own ≡ (record_at c.args.body.now c.args.place).key.row = c.row_piece-own.ensures ∙ ap (λ (r : Record). r.key.row) c.at.ensures in
    let number : c.prefix_in.result ≡ c.args.prefix = search rules in
    let long : length own ≡ length row = search rules in
    let few : length row ≤ 16 = search rules in
    λ t. sym there ∙ same_row own row c.prefix_in.result c.args.prefix c.prefix_in.ensures c.requires.prefix number long few
