use Rattle.std.proofs.Common.{◌≡◌, ◌<◌, not, true, false, ap, sym, length}
use Rattle.std.specs.List.{list_all}
use Rattle.std.specs.Char.{is_ascii_alphanumeric}
use Rattle.tab_mutation.proofs.Shapes.{shaped_some}
use Rattle.tab_rules.proofs.FirstIndex.{first_index-never, first_index-always}
use Rattle.tab_rules.proofs.verdict.first_by_row.Goals as goal

pub returns-then-is_all_alphanumeric : goal.returns-then-is_all_alphanumeric
returns-then-is_all_alphanumeric c =
    let passes : list_all is_ascii_alphanumeric c.args.mutation.now.row ≡ true = cc in
    sym (first_index-never (not (list_all is_ascii_alphanumeric c.args.mutation.now.row)) c.args.mutation.now.updates (ap not passes))

pub returns-else-is_all_alphanumeric : goal.returns-else-is_all_alphanumeric
returns-else-is_all_alphanumeric c =
    let fails : list_all is_ascii_alphanumeric c.args.mutation.now.row ≡ false = cc in
    let some : 0 < length c.args.mutation.now.updates = shaped_some c.args.mutation.now c.keeps.ensures in
    sym (first_index-always (not (list_all is_ascii_alphanumeric c.args.mutation.now.row)) c.args.mutation.now.updates (ap not fails) some)
