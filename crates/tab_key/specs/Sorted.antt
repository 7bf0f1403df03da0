-- To be believed. Records in their order.
use Rattle.std.specs.Prelude.{List, [], ◌∷◌, Bool, true, cond, filter, Contains, ◌≡◌, ◌≢◌, ◌⊎◌, ◌↔◌}
use Rattle.std.specs.List.{AllByRecursion}
use Rattle.std.specs.List.Sorted.{IsStrictlySortedBy}
use Rattle.std.specs.declared.cmp.Ordering.TheVariants.{Equal}
use Rattle.tab_key.specs.Records.{Record}
use Rattle.tab_key.specs.Order.{record_cmp, stands_before}

-- put before the first record that it stands before
abbrev pub inserted : Record → List Record → List Record
inserted r [] = r ∷ []
inserted r (s ∷ ss) = cond (stands_before r s) (r ∷ s ∷ ss) (s ∷ inserted r ss)

-- the records in their order
abbrev pub sorted : List Record → List Record
sorted [] = []
sorted (r ∷ rs) = inserted r (sorted rs)

-- no two stand at one place
abbrev pub IsDistinct : List Record → Type 0
IsDistinct [] = Unit {0}
IsDistinct (r ∷ rs) = AllByRecursion (λ s. record_cmp r s ≢ Equal) rs × IsDistinct rs

-- the record is one of the list
abbrev pub IsIn : List Record → Record → Type 0
IsIn [] u = ⊥
IsIn (x ∷ xs) u = (x ≡ u) ⊎ IsIn xs u

-- ---- The same, said without computing it.
-- a strictly rising list whose members are exactly the records that pass the test
pub record IsRisingList (passes : Record → Bool) (us xs : List Record) : Type 0 where
  pub rising : IsStrictlySortedBy record_cmp xs
  pub sound : (u : Record) → Contains xs u → Contains us u × (passes u ≡ true)
  pub complete : (u : Record) → Contains us u → passes u ≡ true → Contains xs u

-- of records at places of their own there is one such list, and sorting what passes makes it
abbrev pub SortsOnce : Type 0
SortsOnce = (passes : Record → Bool) (us xs : List Record) → IsDistinct us → IsRisingList passes us xs ↔ (xs ≡ sorted (filter passes us))
