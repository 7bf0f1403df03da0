-- The timestamps read so far are those of 64 bits.
use Rattle.std.proofs.Common.{◌≡◌, ℕ, ◌<◌, true}
use Rattle.std.specs.Prelude.{int_le, slice_index_or}
use Rattle.tab_key.specs.Records.{Record}
use Rattle.tab_iter.specs.Lists.{latest}
use Rattle.tab_iter.proofs.list_source.read_timestamps.Given as goal

abbrev pub invariant-loop-record : goal.invariant-loop-record
invariant-loop-record l = (k : ℕ) → k < l.record-index → (u : Record) → slice_index_or l.records k u ≡ u → int_le u.key.timestamp latest ≡ true
