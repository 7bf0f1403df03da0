use Rattle.std.proofs.Common.{◌≡◌, take}
use Rattle.std.specs.List.{fold}
use Rattle.tab_policy.specs.State.{readings}
use Rattle.tab_loading.specs.Policies.{with_table}
use Rattle.tab_loading.proofs.rights.put_tables.Given as goal

abbrev pub invariant-loop-table : goal.invariant-loop-table
invariant-loop-table l = readings l.policy ≡ fold with_table (readings l.initial.policy) (take l.table-index l.tables)
