-- To be believed by whoever relies on it. How each part is written, and what it means that bytes are the spelling of a value.
use Rattle.std.specs.Prelude.{ℕ, ℤ, ◌≡◌, List, [], ◌∷◌, ◌++◌, length, Option, Some, None}
use Rattle.std.specs.List.{flat_map}
use Rattle.std.specs.Int.{w16, w32, w64, to_be_bytes, cast_unsigned}
use Rattle.tab_key.specs.declared.range.Bound.{Bound}
use Rattle.tab_key.specs.declared.range.Bound.TheVariants.{Unbounded, Inclusive, Exclusive}
use Rattle.tab_key.specs.declared.range.Bounds.{Bounds}

-- the bytes are the spelling of the value, which fits
abbrev pub Spells : {A : Type 0} → (A → List ℕ) → (A → Type 0) → List ℕ → A → Type 0
Spells spell Fits bytes x = (bytes ≡ spell x) × Fits x

-- ---- numbers and fields
abbrev pub u8 : ℕ → List ℕ
u8 n = n ∷ []

unfoldable pub u16 : ℕ → List ℕ
u16 n = to_be_bytes w16 n

unfoldable pub u32 : ℕ → List ℕ
u32 n = to_be_bytes w32 n

unfoldable pub u64 : ℕ → List ℕ
u64 n = to_be_bytes w64 n

unfoldable pub i64 : ℤ → List ℕ
i64 z = to_be_bytes w64 (cast_unsigned w64 z)

abbrev pub field : List ℕ → List ℕ
field text = u32 (length text) ++ text

-- ---- lists, what may be missing, and ends of ranges
-- a count of four bytes, and each
abbrev pub counted : {A : Type 0} → (A → List ℕ) → List A → List ℕ
counted part xs = u32 (length xs) ++ flat_map part xs

abbrev pub list : List (List ℕ) → List ℕ
list = counted field

-- 0, or 1 and a part
abbrev pub optional : {A : Type 0} → (A → List ℕ) → Option A → List ℕ
optional part None = 0 ∷ []
optional part (Some x) = 1 ∷ part x

-- it fits where it is missing, and else as the part does
abbrev pub FitsOptional : {A : Type 0} → (A → Type 0) → Option A → Type 0
FitsOptional Fits None = Unit {0}
FitsOptional Fits (Some x) = Fits x

abbrev pub bound_bytes : Bound → List ℕ
bound_bytes Unbounded = 0 ∷ []
bound_bytes (Inclusive row) = 1 ∷ field row
bound_bytes (Exclusive row) = 2 ∷ field row

abbrev pub bounds_bytes : Bounds → List ℕ
bounds_bytes bounds = bound_bytes bounds.low ++ bound_bytes bounds.high
