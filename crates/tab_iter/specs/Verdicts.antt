-- For proofs. Verdicts on labels that were judged.
use Rattle.std.specs.Prelude.{◌≡◌, ◌+◌, ◌*◌, ◌≤◌, ℕ, Bool, cond, List, [], ◌∷◌, ⊤, length}
use Rattle.std.specs.List.{AllByRecursion, slice_range}
use Rattle.tab_key.specs.Words.{IsWord}
use Rattle.tab_label.specs.Holding.{label_holds}
use Rattle.tab_iter.specs.declared.verdicts.Verdict.{Verdict}
use Rattle.tab_iter.specs.declared.verdicts.Verdicts.{Verdicts}

-- the label of a verdict
abbrev pub label_in : List ℕ → Verdict → List ℕ
label_in body v = slice_range body v.start v.end

-- it lies in the body
pub record IsIn (body : List ℕ) (v : Verdict) : Type 0 where
  pub order : v.start ≤ v.end
  pub within : v.end ≤ length body

-- each says of its label, which lies in the body, whether it holds under these authorizations
abbrev pub AreSound : List (List ℕ) → List ℕ → List Verdict → Type 0
AreSound auths body [] = ⊤
AreSound auths body (v ∷ vs) = (IsIn body v × (v.holds ≡ label_holds (label_in body v) auths)) × AreSound auths body vs

-- twice the number of a label, and one more where it holds
abbrev pub told_number : ℕ → Bool → ℕ
told_number word holds = 2 * word + cond holds 1 0

-- what such a number tells of a label is whether it holds under these authorizations; the number that is none's tells nothing
abbrev pub Tells : List (List ℕ) → ℕ → Type 0
Tells auths number = (holds : Bool) (word : ℕ) (label : List ℕ) → number ≡ told_number word holds → IsWord word label → holds ≡ label_holds label auths

-- each of the numbers tells it
abbrev pub AreTold : List (List ℕ) → List ℕ → Type 0
AreTold auths numbers = AllByRecursion (Tells auths) numbers

-- what is kept is right under these authorizations
abbrev pub IsSound : List (List ℕ) → Verdicts → Type 0
IsSound auths v = AreSound auths v.body.items v.kept.items × AreTold auths v.numbers.items
