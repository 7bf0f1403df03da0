use Rattle.std.proofs.Common.{◌≡◌, ◌≤◌, ◌-◌, ◌^◌, true, List}
use Rattle.tab_journal.specs.Journals.{Batch}
use Rattle.tab_journal.specs.Readers.{HasRead, taken_of}
use Rattle.tab_recovery.proofs.Leaving.{bodies, HasDone}
use Rattle.tab_recovery.proofs.left.replay_left.Given as goal

abbrev pub invariant-batches : goal.invariant-batches
invariant-batches g l =
    (g.D.Device.is_usable l.device ≡ true)
    × (l.count ≤ taken_of l.reader)
    × ((bs : List Batch) × HasRead (g.D.Device.seen l.device) l.reader bs × HasDone l.initial.core (bodies bs) l.count l.core)

abbrev pub decreases-batches : goal.decreases-batches
decreases-batches g l = 2 ^ 64 - taken_of l.reader
