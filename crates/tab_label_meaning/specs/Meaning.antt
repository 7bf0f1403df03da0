-- To be believed by whoever relies on it. What labels mean, by the grammar: which texts are labels, when one holds, and which update of a mutation is malformed.
use Rattle.std.specs.Prelude.{◌≡◌, ◌<◌, ◌↔◌, ℕ, true, List, Option, Some, None, IsOk, slice_get, take}
use Rattle.std.specs.List.{All, AllByRecursion}
use Rattle.tab_label.specs.Grammar.{Label, Reads, IsNoLabel, IsOffset}
use Rattle.tab_label.specs.Holding.{Holds, label_holds}
use Rattle.tab_label.specs.Reading.{label_of}
use Rattle.tab_mutation.specs.Mutations.{Update, Mutation}
use Rattle.tab_history.specs.Checks.{malformed}
use Rattle.tab_history.specs.declared.reply.Refusal.{Refusal}
use Rattle.tab_history.specs.declared.reply.Refusal.TheVariants.{MalformedVisibility}

-- ---- what is read
-- each number of the text is a byte
abbrev pub IsOfBytes : List ℕ → Type 0
IsOfBytes = All (λ b. b < 256)

-- the text is a label
abbrev pub IsLabel : List ℕ → Type 0
IsLabel text = (m : Label) × Reads text m

-- The law: just such a text of bytes is read as one.
abbrev pub LabelsAreRead : Type 0
LabelsAreRead = (text : List ℕ) → IsOfBytes text → IsOk (label_of text) ↔ IsLabel text

-- ---- what holds
-- the text is a label, and it holds under the authorizations
abbrev pub IsHeldBy : List ℕ → List (List ℕ) → Type 0
IsHeldBy text auths = (m : Label) × Reads text m × Holds m auths

-- The law: the test of a text of bytes is true just there.
abbrev pub LabelsHold : Type 0
LabelsHold = (text : List ℕ) (auths : List (List ℕ)) → IsOfBytes text → (label_holds text auths ≡ true) ↔ IsHeldBy text auths

-- ---- what is malformed
-- The update at place i has a label that is none, at the offset n, and each update before it has one that is.
pub record IsFirstMalformed (us : List Update) (i n : ℕ) : Type 0 where
  pub update : Update
  pub there : slice_get us i ≡ Some update
  pub is_none : IsNoLabel update.label
  pub offset : IsOffset update.label n
  pub earlier : AllByRecursion (λ u. IsLabel u.label) (take i us)

-- Why updates are refused for their labels: not at all, where each is one; else for the first that is none.
abbrev pub IsVerdict : List Update → Option Refusal → Type 0
IsVerdict us None = AllByRecursion (λ u. IsLabel u.label) us
IsVerdict us (Some (MalformedVisibility i n)) = IsFirstMalformed us i n
IsVerdict us (Some refusal) = ⊥

-- The law: that is what is made of a mutation whose labels are bytes.
abbrev pub MalformedIsTheFirst : Type 0
MalformedIsTheFirst = (m : Mutation) → AllByRecursion (λ u. IsOfBytes u.label) m.updates → (verdict : Option Refusal) → (malformed m ≡ verdict) ↔ IsVerdict m.updates verdict
