-- To be believed by whoever relies on it. What is left where a journal is taken up that a crash left, and what another crash leaves of that.
use Rattle.std.specs.Prelude.{ℕ, ◌≡◌, ◌⊎◌, ◌<◌, ◌≤◌, List, [], length, take, Option, Some, None, option_map, unwrap_or}
use Rattle.std.specs.declared.io.Error.{Error}
use Rattle.tab_codec.specs.Parts.{IsBytes}
use Rattle.tab_journal.specs.Crashes.{HasFirst, NoneByChance, IsReadFrom}
use Rattle.tab_journal.specs.Damage.{IsDamaged, read_of, NoneLaterByChance}
use Rattle.tab_journal.specs.declared.seal.Seal.{Seal}
use Rattle.tab_journal.specs.Journals.{Header, Batch}
use Rattle.tab_journal.specs.Reading.{Journal, journal_of}
use Rattle.tab_journal.specs.Writing.{IsWritten}
use Rattle.tab_journal.specs.declared.device.DeviceError.TheVariants.{Failed}
use Rattle.tab_recovery.specs.declared.take_up_fault.TakeUpFault.{TakeUpFault}
use Rattle.tab_recovery.specs.declared.take_up_fault.TakeUpFault.TheVariants.{Damaged, Device as OfDevice}

-- how many bytes are read: those of the header and of the whole batches, or none, where there is no header
abbrev pub end_of : List ℕ → ℕ
end_of bytes = unwrap_or (option_map (read_of bytes) (journal_of bytes)) 0

-- what is read, without what is left behind it
abbrev pub without_left : Journal → Journal
without_left j = record j { left = [] }

abbrev pub whole_in : List ℕ → Option Journal
whole_in bytes = option_map without_left (journal_of bytes)

-- These bytes are damaged behind the first n: more are there than a header has, and no header; or what is left behind the batches is damaged.
abbrev pub IsDamagedAt : List ℕ → ℕ → Type 0
IsDamagedAt bytes n =
    ((journal_of bytes ≡ None) × (48 < length bytes) × (n ≡ 0))
    ⊎ ((j : Journal) × (journal_of bytes ≡ Some j) × (n ≡ read_of bytes j) × IsDamaged j.header.seal n bytes)

-- they aren't damaged, wherever
abbrev pub IsSound : List ℕ → Type 0
IsSound bytes = (n : ℕ) → IsDamagedAt bytes n → ⊥

-- a beginning of these bytes, of which the same header and the same batches are read, and which isn't damaged where they aren't
pub record KeepsAll (bytes c : List ℕ) : Type 0 where
  pub front : c ≡ take (length c) bytes
  pub same : whole_in c ≡ whole_in bytes
  pub sound : IsSound bytes → IsSound c

-- why bytes aren't taken up, and what stands then: nothing has changed, or the device has failed
abbrev pub Refuses : {D : Type 0} → (D → ℕ) → D → D → List ℕ → TakeUpFault → Type 0
Refuses faults old new bytes (Damaged n) = IsDamagedAt bytes n × (new ≡ old)
Refuses faults old new bytes (OfDevice reason) = (e : Error) → reason ≡ Failed e → faults old < faults new

-- ---- The law: each beginning that has all that is read of some bytes says the same. So whatever a crash leaves while they are cut is taken up as they
-- are.
abbrev pub CutsKeepAll : Type 0
CutsKeepAll = (bytes : List ℕ) (m : ℕ) → IsBytes bytes → end_of bytes ≤ m → KeepsAll bytes (take m bytes)

-- ---- The law: a journal was written, a crash left c of it, and another one, while that was taken up, left d. Then d is sound, and what is read of it is
-- a beginning of what was put, with all that was on the disk before the first crash; unless bytes that this one left look by chance like a batch.
abbrev pub CrashesAreTakenUp : Type 0
CrashesAreTakenUp =
    (bytes c d : List ℕ) (seal : Seal) (sum n k : ℕ) (header : Header) (bs : List Batch) → IsBytes c → IsWritten bytes seal sum n header bs k → HasFirst n bytes c
    → NoneByChance header bs c → NoneLaterByChance seal n bs c → KeepsAll c d → IsSound d × IsReadFrom k header bs d
