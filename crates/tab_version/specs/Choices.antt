-- For proofs. Inputs that each choose an equal source of their own, and the sources that none of them chose.
use Rattle.std.specs.Prelude.{◌≡◌, ℕ, zero, suc, List, [], ◌∷◌, Bool, false, ◌||◌, ◌==◌, cond, MatchOption}
use Rattle.tab_version.specs.Sources.{Sorted, Sources, left_by}

-- the list has a member at this place, counted from 0, of which P holds
abbrev pub HasAt : {X : Type 0} → (X → Type 0) → ℕ → List X → Type 0
HasAt P k [] = ⊥
HasAt P zero (x ∷ xs) = P x
HasAt P (suc k) (x ∷ xs) = HasAt P k xs

abbrev pub is_among : ℕ → List ℕ → Bool
is_among n [] = false
is_among n (k ∷ ks) = n == k || is_among n ks

-- the members whose places aren't chosen, in their order
abbrev pub unchosen : {X : Type 0} → (ℕ → Bool) → List X → List X
unchosen chosen [] = []
unchosen chosen (x ∷ xs) = cond (chosen zero) (unchosen (λ k. chosen (suc k)) xs) (x ∷ unchosen (λ k. chosen (suc k)) xs)

-- One place for each input, in the order of the inputs: a source stands there that equals the input, and no other input has the place.
abbrev pub IsChoice : {X : Type 0} → (X → X → Type 0) → List X → List X → List ℕ → Type 0
IsChoice equals sources [] [] = Unit {0}
IsChoice equals sources [] (k ∷ ks) = ⊥
IsChoice equals sources (x ∷ xs) [] = ⊥
IsChoice equals sources (x ∷ xs) (k ∷ ks) = HasAt (equals x) k sources × (is_among k ks ≡ false) × IsChoice equals sources xs ks

-- the inputs can choose so that just these sources are left, in their order
abbrev pub Leave : {X : Type 0} → (X → X → Type 0) → List X → List X → List X → Type 0
Leave equals inputs sources left = (places : List ℕ) × IsChoice equals sources inputs places × (left ≡ unchosen (λ k. is_among k places) sources)

-- Runs choose runs of the same records, and tables choose tables of the same records.
pub record ChooseAllBut (inputs s left : Sources) : Type 0 where
  pub runs : Leave (λ x y. x ≡ y) inputs.runs s.runs left.runs
  pub tables : Leave (λ (x y : Sorted). x.records ≡ y.records) inputs.tables s.tables left.tables

-- The law: what is left is what some choice of the inputs leaves; and where nothing is, they have no choice.
abbrev pub LeftByChoice : Type 0
LeftByChoice = (inputs s : Sources) → MatchOption (left_by inputs s) ((left : Sources) → ChooseAllBut inputs s left → ⊥) (λ left. ChooseAllBut inputs s left)
