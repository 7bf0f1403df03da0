-- For proofs. Why a journal isn't begun.
use Rattle.std.specs.Prelude.{⊤, ℕ, ◌≡◌, ◌<◌}
use Rattle.std.specs.declared.io.Error.{Error}
use Rattle.tab_journal.specs.declared.device.DeviceError.TheVariants.{Failed}
use Rattle.tab_journal.specs.declared.write_error.WriteError.{WriteError}
use Rattle.tab_journal.specs.declared.write_error.WriteError.TheVariants.{NoMemory, TooLong, Full, Stopped, Device as OfDevice}

-- there was no memory, or the device failed, and then the disk has failed more often than before
abbrev pub HasReason : ℕ → ℕ → WriteError → Type 0
HasReason before now NoMemory = ⊤
HasReason before now TooLong = ⊥
HasReason before now Full = ⊥
HasReason before now Stopped = ⊥
HasReason before now (OfDevice reason) = (e : Error) → reason ≡ Failed e → before < now
