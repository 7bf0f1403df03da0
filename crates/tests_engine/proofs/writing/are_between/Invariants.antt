use Rattle.std.proofs.Common.{◌≤◌, ◌<◌, All, take}
use Rattle.tests_engine.proofs.writing.are_between.Given as goal

abbrev pub invariant-loop-record : goal.invariant-loop-record
invariant-loop-record l = All (λ u. (l.from ≤ u.seq) × (u.seq < l.to)) (take l.record-index l.records)
