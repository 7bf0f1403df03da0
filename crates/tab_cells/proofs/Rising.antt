-- Rising lists of records: no two stand at one place, and sorting leaves them as they are.
use Rattle.std.proofs.Common.{◌≡◌, ◌≢◌, List, [], ◌∷◌, ◌++◌, cond, refl, ◌∙◌, ap}
use Rattle.std.specs.Prelude.{Contains}
use Rattle.std.specs.List.{AllByRecursion}
use Rattle.std.specs.List.Sorted.{IsStrictlySortedBy}
use Rattle.std.specs.Ordering.{is_lt}
use Rattle.std.specs.declared.cmp.Ordering.{Ordering}
use Rattle.std.specs.declared.cmp.Ordering.TheVariants.{Less, Equal}
use Rattle.tab_key.specs.Records.{Record}
use Rattle.tab_key.specs.Order.{record_cmp}
use Rattle.tab_key.specs.Sorted.{inserted, sorted, IsDistinct}
use Rattle.tab_key.proofs.Rising.{in_from, in_to, sorted_in}
use Rattle.tab_key.proofs.Each.{each_map}
use Rattle.tab_cells.proofs.Lists.{in_left}

Less-not_Equal : (o : Ordering) → o ≡ Less → o ≢ Equal
Less-not_Equal o e f = absurd (cc)

pub rising_distinct : (xs : List Record) → IsStrictlySortedBy record_cmp xs → IsDistinct xs
unfolding IsStrictlySortedBy
rising_distinct [] r = tt
rising_distinct (x ∷ xs) r = (each_map (λ y. record_cmp x y ≡ Less) (λ y. record_cmp x y ≢ Equal) (λ y e. Less-not_Equal (record_cmp x y) e) xs r.0, rising_distinct xs r.1)

inserted_first : (x : Record) (xs : List Record) → AllByRecursion (λ y. record_cmp x y ≡ Less) xs → inserted x xs ≡ x ∷ xs
inserted_first x [] a = refl
inserted_first x (y ∷ ys) a = ap (λ v. cond v (x ∷ y ∷ ys) (y ∷ inserted x ys)) (ap is_lt a.0)

-- a rising list is in its order
pub sorted_rising : (xs : List Record) → IsStrictlySortedBy record_cmp xs → sorted xs ≡ xs
unfolding IsStrictlySortedBy
sorted_rising [] r = refl
sorted_rising (x ∷ xs) r = ap (inserted x) (sorted_rising xs r.1) ∙ inserted_first x xs r.0

-- ---- sorting changes no member
pub sorted_contains : (xs : List Record) (u : Record) → Contains xs u → Contains (sorted xs) u
sorted_contains xs u c = in_to (sorted xs) u (sorted_in xs u (in_from xs u c))

pub contains_first : (xs ys : List Record) (u : Record) → Contains xs u → Contains (sorted (xs ++ ys)) u
contains_first xs ys u c = in_to (sorted (xs ++ ys)) u (sorted_in (xs ++ ys) u (in_left xs ys u (in_from xs u c)))
