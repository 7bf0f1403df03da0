-- To be believed. Sets of byte strings, such as authorizations, as strictly rising lists.
use Rattle.std.specs.Prelude.{◌≡◌, ℕ, false, Bool, not, List, [], ◌∷◌, map, Option, find, fold, bytes_eq, Vec, nat_lt, length}
use Rattle.std.specs.declared.alloc.Global.{Global}
use Rattle.std.specs.declared.cmp.Ordering.{Ordering}
use Rattle.std.specs.declared.cmp.Ordering.TheVariants.{Less, Equal, Greater}
use Rattle.std.specs.Ordering.{is_lt}
use Rattle.std.specs.List.{Contains, list_any}
use Rattle.std.specs.List.Sorted.{IsStrictlySortedBy}
use Rattle.tab_key.specs.Bytes.{bytes_cmp}

-- each byte string is below the next
abbrev pub IsRising : List (List ℕ) → Type 0
IsRising = IsStrictlySortedBy bytes_cmp

-- whether the set has the member
abbrev pub has : List (List ℕ) → List ℕ → Bool
has set term = list_any (bytes_eq term) set

-- the least member of the first set that the other lacks
abbrev pub first_missing : List (List ℕ) → List (List ℕ) → Option (List ℕ)
first_missing set other = find (λ term. not (has other term)) set

-- the same as a fact: term is the least of xs that isn't in ys
pub record IsFirstMissing (xs ys : List (List ℕ)) (term : List ℕ) : Type 0 where
  pub held : Contains xs term
  pub missing : Contains ys term → ⊥
  pub least : (other : List ℕ) → Contains xs other → (Contains ys other → ⊥) → is_lt (bytes_cmp other term) ≡ false

-- whether some member is longer than this many bytes
abbrev pub has_longer : List (List ℕ) → ℕ → Bool
has_longer set limit = list_any (λ term. nat_lt limit (length term)) set

-- the first, the middle or the last of three, as a comparison says
abbrev pub by_order : {X : Type 0} → Ordering → X → X → X → X
by_order Less a b c = a
by_order Equal a b c = b
by_order Greater a b c = c

-- the set with one more member
abbrev pub with_member : List (List ℕ) → List ℕ → List (List ℕ)
with_member [] term = term ∷ []
with_member (x ∷ xs) term = by_order (bytes_cmp term x) (term ∷ x ∷ xs) (x ∷ xs) (x ∷ with_member xs term)

-- the members of both sets
abbrev pub union : List (List ℕ) → List (List ℕ) → List (List ℕ)
union set other = fold with_member set other

-- the set of these byte strings, given in any order and perhaps repeated
abbrev pub set_of : List (List ℕ) → List (List ℕ)
set_of terms = fold with_member [] terms

-- the bytes of each vector
abbrev pub byte_lists : List (Vec ℕ Global) → List (List ℕ)
byte_lists = map (λ v. v.items)
