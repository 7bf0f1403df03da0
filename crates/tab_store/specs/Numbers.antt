-- To be believed by whoever relies on it. A tablet's number identifies it: no two tablets of a core have the same one, as long as there are numbers.
use Rattle.std.specs.Prelude.{◌≡◌, ◌<◌, ℕ, List, [], ◌∷◌, Bool, true, false, ◌==◌, Option}
use Rattle.std.specs.List.{list_any}
use Rattle.tab_tablets.specs.Tablets.{Tablet}
use Rattle.tab_tablets.specs.Parts.{TabletMerge}
use Rattle.tab_history.specs.Answers.{Told}
use Rattle.tab_history.specs.declared.event.Event.{Event}
use Rattle.tab_store.specs.Stores.{CoreContents, tablets_in, IsNewStore}
use Rattle.tab_store.specs.Stepping.{LaysExactly, now_at, plain_answer}

-- whether one of the tablets has this number
abbrev pub has_number : ℕ → List Tablet → Bool
has_number k ts = list_any (λ (t : Tablet). t.number == k) ts

-- none has the number of another one
abbrev pub NumbersDiffer : List Tablet → Type 0
NumbersDiffer [] = Unit {0}
NumbersDiffer (t ∷ ts) = (has_number t.number ts ≡ false) × NumbersDiffer ts

-- No two tablets of tables by name have the same number, be they of one table or of two, and each number is below the next one.
pub record AreNumbered (tables : List ℕ → List Tablet) (next : ℕ) : Type 0 where
  pub once : (q : List ℕ) → NumbersDiffer (tables q)
  pub apart : (q r : List ℕ) (k : ℕ) → has_number k (tables q) ≡ true → has_number k (tables r) ≡ true → q ≡ r
  pub below : (q : List ℕ) (k : ℕ) → has_number k (tables q) ≡ true → k < next

-- The tablets of a core are so as long as there are numbers: the greatest one of eight bytes would be given again and again.
abbrev pub IsNumbered : CoreContents → Type 0
IsNumbered h = h.tablet < 18446744073709551615 → AreNumbered (tablets_in h) h.tablet

-- ---- The laws: a new core is so, and each exact step leaves it so.
abbrev pub NewStoresAreNumbered : Type 0
NewStoresAreNumbered = (h : CoreContents) → IsNewStore h → IsNumbered h

abbrev pub NumbersStay : Type 0
NumbersStay = (old new : CoreContents) (given job : Option TabletMerge) (event : Event) (told : Told) → IsNumbered old → LaysExactly old (now_at old event) given event.act (plain_answer old event) told job new → IsNumbered new
