use Rattle.std.proofs.Common.{◌≡◌, ◌++◌, List, sym, subst}
use Rattle.std.specs.Prelude.{OnOk}
use Rattle.tab_key.specs.Records.{Record}
use Rattle.tab_key.specs.Sorted.{sorted, IsDistinct}
use Rattle.tab_key.proofs.Rising.{distinct_filter}
use Rattle.tab_mem.specs.Parting.{row_below}
use Rattle.tab_mem.proofs.partitions.draining.put_groups_before.Goals as goal

pub put_groups-requires-clause-distinct : goal.put_groups-requires-clause-distinct
put_groups-requires-clause-distinct c = subst IsDistinct (sym c.in_ok-groups.ensures.records) (distinct_filter (λ u. row_below u c.args.bound.now) c.args.written.now c.requires)

pub returns-clause-ok : goal.returns-clause-ok
returns-clause-ok c = subst (λ (us : List Record). OnOk c.put_groups.result (c.put_groups.new.records ≡ c.args.records.now ++ sorted us)) c.in_ok-groups.ensures.records c.put_groups.ensures.ok
