-- For proofs. The law of a codec: reading undoes writing, and nothing else is read.
use Rattle.std.specs.Prelude.{ℕ, ◌≡◌, ◌≢◌, List, [], ◌++◌, Some, None}
use Rattle.tab_codec.specs.Parts.{IsBytes}
use Rattle.tab_codec.specs.Reading.{Reader}

-- ---- The law, of a reader, of the spelling of a value, and of which values have one.
pub record Codes {A : Type 0} (reads : Reader A) (spell : A → List ℕ) (Fits : A → Type 0) : Type 0 where
  -- what was written is read, whatever follows it
  pub again : (x : A) (rest : List ℕ) → Fits x → reads (spell x ++ rest) ≡ Some (x, rest)
  -- what is read is the only spelling
  pub only : (bytes : List ℕ) (x : A) (rest : List ℕ) → IsBytes bytes → reads bytes ≡ Some (x, rest) → (bytes ≡ spell x ++ rest) × Fits x
  -- nothing is read of a text that was cut off
  pub cut : (x : A) (front back : List ℕ) → Fits x → IsBytes front → spell x ≡ front ++ back → back ≢ [] → reads front ≡ None
  -- no two values have one spelling
  pub apart : (x y : A) → Fits x → Fits y → spell x ≡ spell y → x ≡ y
