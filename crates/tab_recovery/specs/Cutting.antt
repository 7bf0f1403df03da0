-- For proofs. What a cut of a file leaves, and what a crash leaves of that.
use Rattle.std.specs.Prelude.{ℕ, ◌≡◌, List, length, take}

-- after a cut to n bytes, which a crash may undo in part: a beginning of what was there, with its first n bytes
pub record Cut (n : ℕ) (old new : List ℕ) : Type 0 where
  pub first : take n new ≡ take n old
  pub front : new ≡ take (length new) old

-- a beginning of one of these
abbrev pub IsBeginning : (List ℕ → Type 0) → List ℕ → Type 0
IsBeginning outcomes c = (d : List ℕ) × outcomes d × (c ≡ take (length c) d)
