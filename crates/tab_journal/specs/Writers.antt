-- For proofs. What a writer stands for.
use Rattle.std.specs.Prelude.{ℕ, ◌≡◌, ◌≤◌, ◌<◌, ◌^◌, ◌+◌, Bool, true, List, length}
use Rattle.std.specs.declared.io.Error.{Error}
use Rattle.tab_journal.specs.declared.device.Device.{Ghosts}
use Rattle.tab_journal.specs.declared.device.DeviceError.TheVariants.{Failed}
use Rattle.tab_journal.specs.declared.write_error.WriteError.{WriteError}
use Rattle.tab_journal.specs.declared.write_error.WriteError.TheVariants.{NoMemory, TooLong, Full, Stopped, Device as OfDevice}
use Rattle.tab_journal.specs.declared.writer.Writer.{Writer}
use Rattle.tab_journal.specs.declared.seal.Seal.{Seal}
use Rattle.tab_journal.specs.Journals.{Header, Batch}
use Rattle.tab_journal.specs.Writing.{around, IsWritten}

-- the seal and the last sum; how many bytes are written, and how many of them are on the disk; and whether a call has failed
pub record Place : Type 0 where
  pub seal : Seal
  pub sum : ℕ
  pub written : ℕ
  pub settled : ℕ
  pub has_failed : Bool

module _ {D : Type 0} {g : Ghosts D} where
  abbrev pub device_of : Writer D g → D
  device_of w = w.device

  abbrev pub place_of : Writer D g → Place
  place_of w = record { seal = w.seal; sum = w.sum; written = w.written; settled = w.settled; has_failed = w.has_failed }

  -- what it has written is this header and these batches, of which the first k are on the disk
  abbrev pub Writes : (D → List ℕ) → Writer D g → Header → List Batch → ℕ → Type 0
  Writes seen w = IsWritten (seen w.device) w.seal w.sum w.settled

  -- why these bytes aren't put, and what stands afterwards
  abbrev pub Refuses : (D → ℕ) → Writer D g → Writer D g → List ℕ → WriteError → Type 0
  Refuses faults old new body NoMemory = new ≡ old
  Refuses faults old new body TooLong = (2 ^ 32 ≤ length body) × (new ≡ old)
  Refuses faults old new body Full = (2 ^ 64 ≤ old.written + (around old.seal.form + length body)) × (new ≡ old)
  Refuses faults old new body Stopped = (old.has_failed ≡ true) × (new ≡ old)
  Refuses faults old new body (OfDevice reason) = (new.has_failed ≡ true) × ((e : Error) → reason ≡ Failed e → faults old.device < faults new.device)

  -- why what was put isn't known to be on the disk, and what stands afterwards
  abbrev pub Withholds : (D → ℕ) → Writer D g → Writer D g → WriteError → Type 0
  Withholds faults old new NoMemory = ⊥
  Withholds faults old new TooLong = ⊥
  Withholds faults old new Full = ⊥
  Withholds faults old new Stopped = (old.has_failed ≡ true) × (new ≡ old)
  Withholds faults old new (OfDevice reason) = (new.has_failed ≡ true) × ((e : Error) → reason ≡ Failed e → faults old.device < faults new.device)
