use Rattle.tab_version.proofs.frozen_records.SortedTableFrozenRecords.same_at.Goals as goal

pub returns : goal.returns
returns c = λ u. c.same_at.ensures u u
