-- To be believed by whoever relies on it. How what is to be kept lies in the bytes of a journal, as relations. They say nothing of how bytes are read.
use Rattle.std.specs.Prelude.{ℕ, ℤ, ◌≡◌, List, [], ◌∷◌, ◌++◌, codes}
use Rattle.std.specs.Hash.DefaultHasher.{initial, write, finish}
use Rattle.tab_history.specs.declared.event.Event.{Event}
use Rattle.tab_codec.specs.Parts.{IsBytes, IsU64, IsI64, IsField, IsNameField, AreParts}
use Rattle.tab_wire.specs.Forms.{IsRequest}
use Rattle.tab_wire.specs.Replies.{u64, i64, field}
use Rattle.tab_wire.specs.declared.request.Request.TheVariants as asks
use Rattle.tab_journal.specs.declared.format.Format.{Format}
use Rattle.tab_journal.specs.declared.format.Format.TheVariants.{Lines, Events}
use Rattle.tab_journal.specs.declared.seal.Form.{Form}
use Rattle.tab_journal.specs.declared.seal.Form.TheVariants.{Plain, Tagged}
use Rattle.tab_journal.specs.declared.seal.Seal.{Seal}

-- ---- sums
-- the sum of some bytes: SipHash-1-3 with both keys 0
unfoldable pub sum_of : List ℕ → ℕ
sum_of bytes = finish (write initial bytes)

-- ---- the header
-- what its batches keep; which journal it is; the number of the next mutation, and the clock, of the core that it goes on from; and by what its batches
-- are told from other bytes: whether they have tags, and a salt
pub record Header : Type 0 where
  pub format : Format
  pub generation : ℕ
  pub next : ℕ
  pub clock : ℤ
  pub seal : Seal
  pub sum : ℕ

-- the version of the form of a journal goes by what its batches keep, and by whether they have tags
abbrev pub version_of : Format → Form → ℕ
version_of Lines Plain = 1
version_of Events Plain = 2
version_of Lines Tagged = 3
version_of Events Tagged = 4

-- what a journal begins with: six bytes and the version
abbrev pub mark : Format → Form → List ℕ
mark format form = codes "TABJRN" ++ 0 ∷ version_of format form ∷ []

-- what the sum of a header is taken of
unfoldable pub header_summed : Format → ℕ → ℕ → ℤ → Seal → List ℕ
header_summed format generation next clock seal = mark format seal.form ++ (u64 generation ++ (u64 next ++ (i64 clock ++ u64 seal.salt)))

-- 48 bytes: the mark, three numbers, the salt, and the sum
pub record IsHeader (bytes : List ℕ) (f : Header) : Type 0 where
  pub g : List ℕ
  pub n : List ℕ
  pub c : List ℕ
  pub s : List ℕ
  pub m : List ℕ
  pub spelled : bytes ≡ mark f.format f.seal.form ++ (g ++ (n ++ (c ++ (s ++ m))))
  pub generation : IsU64 g f.generation
  pub next : IsU64 n f.next
  pub clock : IsI64 c f.clock
  pub salt : IsU64 s f.seal.salt
  pub sum : IsU64 m f.sum
  pub fits : f.sum ≡ sum_of (header_summed f.format f.generation f.next f.clock f.seal)

-- ---- batches
-- how many bytes of the journal were on the disk when it was written, the bytes that it keeps, and its sum
pub record Batch : Type 0 where
  pub settled : ℕ
  pub body : List ℕ
  pub sum : ℕ

-- what the sum of a batch is taken of, where the journal has this salt and the sum before it is this one
unfoldable pub batch_summed : ℕ → ℕ → ℕ → List ℕ → List ℕ
batch_summed salt before settled body = u64 salt ++ (u64 before ++ (u64 settled ++ field body))

-- a number, a field, and the sum
pub record IsSummed (salt before : ℕ) (bytes : List ℕ) (b : Batch) : Type 0 where
  pub s : List ℕ
  pub f : List ℕ
  pub m : List ℕ
  pub spelled : bytes ≡ s ++ (f ++ m)
  pub settled : IsU64 s b.settled
  pub body : IsField f b.body
  pub sum : IsU64 m b.sum
  pub fits : b.sum ≡ sum_of (batch_summed salt before b.settled b.body)

-- what a batch begins with: nothing, or the salt
abbrev pub IsTagOf : Form → ℕ → List ℕ → Type 0
IsTagOf Plain salt bytes = bytes ≡ []
IsTagOf Tagged salt bytes = IsU64 bytes salt

abbrev pub IsTag : Seal → List ℕ → Type 0
IsTag seal bytes = IsTagOf seal.form seal.salt bytes

-- the tag, and what has the sum
pub record IsBatch (seal : Seal) (before : ℕ) (bytes : List ℕ) (b : Batch) : Type 0 where
  pub t : List ℕ
  pub r : List ℕ
  pub whole : bytes ≡ t ++ r
  pub tag : IsTag seal t
  pub summed : IsSummed seal.salt before r b

-- one batch behind another, each with the sum of the one before it
abbrev pub AreBatches : Seal → ℕ → List ℕ → List Batch → Type 0
AreBatches seal before bytes [] = bytes ≡ []
AreBatches seal before bytes (b ∷ bs) = (first : List ℕ) × (others : List ℕ) × (bytes ≡ first ++ others) × IsBatch seal before first b × AreBatches seal b.sum others bs

-- ---- journals
-- a header, and batches behind it, of which the first one has the header's sum before it
abbrev pub IsJournal : List ℕ → Header → List Batch → Type 0
IsJournal bytes header bs = (first : List ℕ) × (others : List ℕ) × (bytes ≡ first ++ others) × IsHeader first header × AreBatches header.seal header.sum others bs

-- ---- entries, of which the bytes of a batch may be
-- a field of bytes
abbrev pub IsText : List ℕ → List ℕ → Type 0
IsText bytes text = IsField bytes text × IsBytes text

-- an event that was done: its moment, which is the clock that it met, its user, and the body of a frame that asks its act
pub record IsEntry (bytes : List ℕ) (e : Event) : Type 0 where
  pub c : List ℕ
  pub u : List ℕ
  pub f : List ℕ
  pub body : List ℕ
  pub spelled : bytes ≡ c ++ (u ++ f)
  pub moment : IsI64 c e.moment
  pub user : IsNameField u e.user
  pub text : IsText f body
  pub act : IsRequest body (asks.Act e.act)

-- these bytes are these entries, the oldest first, one behind the other
abbrev pub AreEntries : List ℕ → List Event → Type 0
AreEntries = AreParts IsEntry
