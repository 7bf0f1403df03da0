use Rattle.std.proofs.Common.{◌≡◌, ◌++◌, List, sym, subst}
use Rattle.std.specs.Prelude.{OnOk}
use Rattle.tab_key.specs.Records.{Record}
use Rattle.tab_key.specs.Sorted.{sorted, IsDistinct}
use Rattle.tab_mem.proofs.partitions.draining.put_all_groups.Goals as goal

pub put_groups-requires-clause-distinct : goal.put_groups-requires-clause-distinct
put_groups-requires-clause-distinct c = subst IsDistinct (sym c.in_ok-groups.ensures.records) c.requires

pub returns-clause-ok : goal.returns-clause-ok
returns-clause-ok c = subst (λ (us : List Record). OnOk c.put_groups.result (c.put_groups.new.records ≡ c.args.records.now ++ sorted us)) c.in_ok-groups.ensures.records c.put_groups.ensures.ok
