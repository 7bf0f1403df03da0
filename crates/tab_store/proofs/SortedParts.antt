-- Records in parts: how each part is sorted decides how the whole is, also where some tie.
use Rattle.std.proofs.Common.{◌≡◌, ℕ, zero, suc, ◌+◌, ◌<◌, List, [], ◌∷◌, ◌++◌, Bool, true, false, cond, refl, sym, ◌∙◌, ap, length, take, arith, append-nil, append_assoc}
use Rattle.std.specs.List.{AllByRecursion}
use Rattle.std.specs.Ordering.{is_lt}
use mathlib.Core.Bool.{true≢false}
use Rattle.tab_key.specs.Order.{record_cmp, stands_before}
use Rattle.tab_key.specs.Records.{Record}
use Rattle.tab_key.specs.Sorted.{inserted, sorted}
use Rattle.tab_key.proofs.Order.{record_cmp_total}
use Rattle.tab_key.proofs.Rising.{all_inserted, is_less}
use Rattle.tab_key.proofs.Sorting.{before_order}
use Rattle.tab_cells.proofs.Lists.{by_bool}
use Rattle.tab_iter.specs.Bags.{flat}
use Rattle.tab_tablets.specs.ByRow.{records_of_all}
use Rattle.tab_tablets.specs.Places.{tablet_at}
use Rattle.tab_tablets.specs.Tablets.{Tablet, records_in}

-- ---- one record, put in
put_first : (x y : Record) (ys : List Record) → stands_before x y ≡ true → inserted x (y ∷ ys) ≡ x ∷ y ∷ ys
put_first x y ys e = ap (λ v. cond v (x ∷ y ∷ ys) (y ∷ inserted x ys)) e

put_later : (x y : Record) (ys : List Record) → stands_before x y ≡ false → inserted x (y ∷ ys) ≡ y ∷ inserted x ys
put_later x y ys e = ap (λ v. cond v (x ∷ y ∷ ys) (y ∷ inserted x ys)) e

-- what one record stands before, one that stands before it does too
before_both : (x y z : Record) → stands_before x y ≡ true → stands_before y z ≡ true → stands_before x z ≡ true
before_both x y z e f = ap is_lt (record_cmp_total.trans x y z (is_less (record_cmp x y) e) (is_less (record_cmp y z) f))

-- two records are put in in either order
pub put_either : (x y : Record) → stands_before x y ≡ true → (zs : List Record) → inserted x (inserted y zs) ≡ inserted y (inserted x zs)
put_either x y e [] = put_first x y [] e ∙ sym (put_later y x [] (before_order.one_way x y e))
put_either x y e (z ∷ zs) = by_bool (stands_before y z) first (later (put_either x y e zs))
  where
    back : stands_before y x ≡ false
    back = before_order.one_way x y e

    first : stands_before y z ≡ true → inserted x (inserted y (z ∷ zs)) ≡ inserted y (inserted x (z ∷ zs))
    first f =
        ap (inserted x) (put_first y z zs f)
        ∙ put_first x y (z ∷ zs) e
        ∙ ap (λ l. x ∷ l) (sym (put_first y z zs f))
        ∙ sym (put_later y x (z ∷ zs) back)
        ∙ ap (inserted y) (sym (put_first x z zs (before_both x y z e f)))

    later : inserted x (inserted y zs) ≡ inserted y (inserted x zs) → stands_before y z ≡ false → inserted x (inserted y (z ∷ zs)) ≡ inserted y (inserted x (z ∷ zs))
    later ih f = by_bool (stands_before x z)
        (λ t. ap (inserted x) (put_later y z zs f)
        ∙ put_first x z (inserted y zs) t
        ∙ ap (λ l. x ∷ l) (sym (put_later y z zs f))
        ∙ sym (put_later y x (z ∷ zs) back)
        ∙ ap (inserted y) (sym (put_first x z zs t)))
        (λ t. ap (inserted x) (put_later y z zs f)
        ∙ put_later x z (inserted y zs) t
        ∙ ap (λ l. z ∷ l) ih
        ∙ sym (put_later y z (inserted x zs) f)
        ∙ ap (inserted y) (sym (put_later x z zs t)))

-- ---- many records, put in one by one, the first one first
abbrev put_in : List Record → List Record → List Record
put_in [] zs = zs
put_in (x ∷ xs) zs = put_in xs (inserted x zs)

abbrev IsBeforeAll : Record → List Record → Type 0
IsBeforeAll x ys = AllByRecursion (λ y. stands_before x y ≡ true) ys

-- one that stands before all of them may come last
put_last : (x : Record) (ys zs : List Record) → IsBeforeAll x ys → put_in ys (inserted x zs) ≡ inserted x (put_in ys zs)
put_last x [] zs a = refl
put_last x (y ∷ ys) zs a = ap (put_in ys) (sym (put_either x y a.0 zs)) ∙ put_last x ys (inserted y zs) a.1

-- ---- lists of which no record stands before an earlier one
abbrev IsBehindAll : Record → List Record → Type 0
IsBehindAll x ys = AllByRecursion (λ y. stands_before y x ≡ false) ys

abbrev Rises : List Record → Type 0
Rises [] = Unit {0}
Rises (x ∷ xs) = IsBehindAll x xs × Rises xs

-- what stands before a record stands before all behind it
not_before : (x y z : Record) → stands_before x y ≡ true → stands_before z y ≡ false → stands_before x z ≡ true
not_before x y z e f = by_bool (stands_before x z) (λ t. t) (λ t. absurd (true≢false (sym e ∙ before_order.chain x z y t f)))

before_all : (x y : Record) (ys : List Record) → stands_before x y ≡ true → IsBehindAll y ys → IsBeforeAll x ys
before_all x y [] e a = tt
before_all x y (z ∷ zs) e a = (not_before x y z e a.0, before_all x y zs e a.1)

behind_all : (x : Record) (ys : List Record) → IsBeforeAll x ys → IsBehindAll x ys
behind_all x [] a = tt
behind_all x (y ∷ ys) a = (before_order.one_way x y a.0, behind_all x ys a.1)

rises_inserted : (x : Record) (xs : List Record) → Rises xs → Rises (inserted x xs)
rises_inserted x [] r = (tt, tt)
rises_inserted x (y ∷ ys) r = go (stands_before x y) refl (rises_inserted x ys r.1)
  where
    go : (v : Bool) → stands_before x y ≡ v → Rises (inserted x ys) → Rises (cond v (x ∷ y ∷ ys) (y ∷ inserted x ys))
    go true e ih = (behind_all x (y ∷ ys) (e, before_all x y ys e r.0), r)
    go false e ih = (all_inserted (λ z. stands_before z y ≡ false) x ys e r.0, ih)

rises_sorted : (xs : List Record) → Rises (sorted xs)
rises_sorted [] = tt
rises_sorted (x ∷ xs) = rises_inserted x (sorted xs) (rises_sorted xs)

-- ---- one part behind the other
-- to put one in among them and then all is to put it in last
put_among : (x : Record) (ys zs : List Record) → Rises ys → put_in (inserted x ys) zs ≡ inserted x (put_in ys zs)
put_among x [] zs r = refl
put_among x (y ∷ ys) zs r = by_bool (stands_before x y)
    (λ e. ap (λ l. put_in l zs) (put_first x y ys e) ∙ put_last x (y ∷ ys) zs (e, before_all x y ys e r.0))
    (λ e. ap (λ l. put_in l zs) (put_later x y ys e) ∙ put_among x ys (inserted y zs) r.1)

both_sorted : (xs ys : List Record) → sorted (xs ++ ys) ≡ put_in (sorted xs) (sorted ys)
both_sorted [] ys = refl
both_sorted (x ∷ xs) ys = ap (inserted x) (both_sorted xs ys) ∙ sym (put_among x (sorted xs) (sorted ys) (rises_sorted xs))

-- parts that are sorted alike make wholes that are
pub sorted_alike : (xs ys us vs : List Record) → sorted xs ≡ sorted us → sorted ys ≡ sorted vs → sorted (xs ++ ys) ≡ sorted (us ++ vs)
sorted_alike xs ys us vs e f = both_sorted xs ys ∙ (λ i. put_in (e i) (f i)) ∙ sym (both_sorted us vs)

-- ---- tablets, one behind the other
flat_more : (xss : List (List Record)) (xs : List Record) → flat (xss ++ xs ∷ []) ≡ flat xss ++ xs
flat_more [] xs = append-nil xs
flat_more (ys ∷ yss) xs = ap (λ l. ys ++ l) (flat_more yss xs) ∙ sym (append_assoc ys (flat yss) xs)

held_more : (ts : List Tablet) (place : ℕ) → place < length ts → records_of_all (take (place + 1) ts) ≡ records_of_all (take place ts) ++ records_in (tablet_at ts place)
held_more [] place lt = absurd (omega (arith, lt))
held_more (t ∷ ts) zero lt = append-nil (records_in t)
held_more (t ∷ ts) (suc place) lt =
    let same : suc place + 1 ≡ suc (place + 1) = omega arith in
    ap (λ k. records_of_all (take k (t ∷ ts))) same
    ∙ ap (λ l. records_in t ++ l) (held_more ts place (omega arith))
    ∙ sym (append_assoc (records_in t) (records_of_all (take place ts)) (records_in (tablet_at ts place)))

-- what sorts as the tablets up to a place do, with one list more that sorts as the tablet there
pub one_tablet_more : (ts : List Tablet) (place : ℕ) (old new : List (List Record)) (v : List Record) → place < length ts → new ≡ old ++ v ∷ [] → sorted v ≡ sorted (records_in (tablet_at ts place))
    → sorted (flat old) ≡ sorted (records_of_all (take place ts)) → sorted (flat new) ≡ sorted (records_of_all (take (place + 1) ts))
one_tablet_more ts place old new v lt is e before =
    ap (λ xss. sorted (flat xss)) is
    ∙ ap sorted (flat_more old v)
    ∙ sorted_alike (flat old) v (records_of_all (take place ts)) (records_in (tablet_at ts place)) before e
    ∙ ap sorted (sym (held_more ts place lt))
