-- The records so far are the same.
use Rattle.std.proofs.Common.{◌≡◌, drop}
use Rattle.tab_version.specs.Sources.{same_record, same_lists}
use Rattle.tab_version.proofs.clip.ClipOf.same_records.Given as goal

abbrev pub invariant-loop-index : goal.invariant-loop-index
invariant-loop-index g l = same_lists same_record l.self l.other ≡ same_lists same_record (drop l.index l.self) (drop l.index l.other)
