-- To be believed by whoever relies on it. When what stands behind the batches that were read of a journal is damaged, and when it is torn.
use Rattle.std.specs.Prelude.{ℕ, ◌≡◌, ◌≢◌, ◌≤◌, ◌<◌, ◌+◌, ◌-◌, List, [], ◌∷◌, ◌++◌, length, take, drop, Some}
use Rattle.std.specs.List.{Contains}
use Rattle.tab_codec.specs.Parts.{IsBytes, IsU64}
use Rattle.tab_journal.specs.declared.seal.Form.{Form}
use Rattle.tab_journal.specs.declared.seal.Seal.{Seal}
use Rattle.tab_journal.specs.Journals.{Header, Batch, IsBatch}
use Rattle.tab_journal.specs.Reading.{Journal, journal_of}
use Rattle.tab_journal.specs.Crashes.{HasFirst, NoneByChance}
use Rattle.tab_journal.specs.Writing.{around, IsWritten}

-- behind the first p bytes stands a whole batch, whose sum goes on from the sum that stands before it
pub record StandsAt (seal : Seal) (p : ℕ) (bytes : List ℕ) (b : Batch) : Type 0 where
  pub ahead : List ℕ
  pub sum : List ℕ
  pub text : List ℕ
  pub behind : List ℕ
  pub before : ℕ
  pub spelled : bytes ≡ ahead ++ (sum ++ (text ++ behind))
  pub place : p ≡ length ahead + length sum
  pub summed : IsU64 sum before
  pub whole : IsBatch seal before text b

-- such a batch was written when more than the first n bytes were on the disk, and no more than stand before it
abbrev pub IsLaterAt : Seal → ℕ → List ℕ → ℕ → Type 0
IsLaterAt seal n bytes p = (b : Batch) × StandsAt seal p bytes b × (n < b.settled) × (b.settled ≤ p)

-- what stands behind the first n bytes, which were read, is damaged: a batch that was written later still stands there
abbrev pub IsDamaged : Seal → ℕ → List ℕ → Type 0
IsDamaged seal n bytes = (p : ℕ) × IsLaterAt seal n bytes p

-- IsLaterAt by a window alone: the eight bytes that end those that were read, n in all, and what stands behind them.
abbrev pub IsLaterIn : Seal → ℕ → List ℕ → ℕ → Type 0
IsLaterIn seal n window q = (b : Batch) × StandsAt seal q window b × (n < b.settled) × (b.settled + 8 ≤ n + q)

abbrev pub IsDamagedIn : Seal → ℕ → List ℕ → Type 0
IsDamagedIn seal n window = (q : ℕ) × IsLaterIn seal n window q

-- otherwise it is torn
abbrev pub IsTorn : Seal → ℕ → List ℕ → Type 0
IsTorn seal n bytes = IsDamaged seal n bytes → ⊥

-- how many of these bytes were read as this journal
abbrev pub read_of : List ℕ → Journal → ℕ
read_of bytes j = length bytes - length j.left

-- a journal with this header is read, the first n bytes are among those that are read, and what stands behind these is torn
abbrev pub EndsTorn : ℕ → Header → List ℕ → Type 0
EndsTorn n header c = (j : Journal) × (journal_of c ≡ Some j) × (j.header ≡ header) × (n ≤ read_of c j) × IsTorn header.seal (read_of c j) c

-- No bytes have by chance the form and the sum of a batch that was written later: wherever a batch stands that says that more than the first n bytes
-- were on the disk, it is one of those that were put.
abbrev pub NoneLaterByChance : Seal → ℕ → List Batch → List ℕ → Type 0
NoneLaterByChance seal n bs c = (p : ℕ) (b : Batch) → StandsAt seal p c b → n < b.settled → b.settled ≤ p → Contains bs b

-- ---- The law: where a crash leaves the beginning of a journal's bytes that was on the disk, what stands behind that is torn, and never damaged;
-- unless bytes that the crash left look by chance like a batch that was written later.
abbrev pub CrashesLeaveTornEnds : Type 0
CrashesLeaveTornEnds =
    (bytes c : List ℕ) (seal : Seal) (sum n k : ℕ) (header : Header) (bs : List Batch) → IsWritten bytes seal sum n header bs k → HasFirst n bytes c → NoneLaterByChance seal n bs c → EndsTorn n header c

-- ---- The law: so each cut of a journal that leaves what was on the disk is torn; unless bytes of the journal look so by chance.
abbrev pub CutsAreTorn : Type 0
CutsAreTorn =
    (bytes : List ℕ) (seal : Seal) (sum n k m : ℕ) (header : Header) (bs : List Batch) → IsWritten bytes seal sum n header bs k → n ≤ m → n ≤ length bytes → NoneLaterByChance seal n bs bytes
    → EndsTorn n header (take m bytes)

-- behind how many bytes stands the batch that comes after these, where the first of these stands behind so many
abbrev pub place_behind : Form → ℕ → List Batch → ℕ
place_behind form at [] = at
place_behind form at (b ∷ bs) = place_behind form (at + (around form + length b.body)) bs

-- so many bytes behind the first p - 8 are the same
abbrev pub AreSame : ℕ → ℕ → List ℕ → List ℕ → Type 0
AreSame p n bytes c = take n (drop (p - 8) c) ≡ take n (drop (p - 8) bytes)

-- the batch behind these, and the sum before it, stand in c as they were put
abbrev pub StillStands : Form → List ℕ → List ℕ → List Batch → Batch → Type 0
StillStands form bytes c bs b = AreSame (place_behind form 48 bs) (8 + (around form + length b.body)) bytes c

-- a journal with this header is read, and what stands behind it is damaged
abbrev pub EndsDamaged : Header → List ℕ → Type 0
EndsDamaged header c = (j : Journal) × (journal_of c ≡ Some j) × (j.header ≡ header) × IsDamaged header.seal (read_of c j) c

-- ---- The law: bytes of a journal are called damaged where something is changed in them that was on the disk when a batch was written that still
-- stands there; unless bytes look by chance like a batch that wasn't put there.
abbrev pub DamageIsTold : Type 0
DamageIsTold =
    (bytes c : List ℕ) (seal : Seal) (sum n k : ℕ) (header : Header) (bs more : List Batch) (b : Batch) → IsBytes c → IsWritten bytes seal sum n header (bs ++ b ∷ more) k
    → HasFirst 48 bytes c → NoneByChance header (bs ++ b ∷ more) c → StillStands header.seal.form bytes c bs b → take b.settled c ≢ take b.settled bytes → EndsDamaged header c
