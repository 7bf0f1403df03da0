use Rattle.std.proofs.Common.{◌≡◌, ◌-◌, ◌^◌, true, List}
use Rattle.tab_journal.specs.Journals.{Batch}
use Rattle.tab_journal.specs.Readers.{HasRead, taken_of}
use Rattle.tab_recovery.specs.Calls.{seen_behind, is_usable_behind}
use Rattle.tab_folder.specs.Files.{calls_of}
use Rattle.tab_folder.proofs.taking_up.read_out.Given as goal

abbrev pub invariant-batches : goal.invariant-batches
invariant-batches l = (is_usable_behind (calls_of l.device) ≡ true) × ((bs : List Batch) × HasRead (seen_behind (calls_of l.device)) l.reader bs)

abbrev pub decreases-batches : goal.decreases-batches
decreases-batches l = 2 ^ 64 - taken_of l.reader
