-- Records in the order of writing.
use Rattle.std.proofs.Common.{◌≡◌, ◌≢◌, ◌⊎◌, inl, inr, ℕ, ◌+◌, ◌<◌, ◌≤◌, List, [], ◌∷◌, ◌++◌, Bool, true, false, cond, refl, sym, ◌∙◌, ap, subst, length, length-append, arith, append_assoc}
use Rattle.std.specs.Prelude.{⊤, Contains, Option, Result, Ok, Err, IfSome, IfOk, OnOk, OnErr}
use Rattle.std.specs.Cmp.{IsTotalOrder, then_total, on_total, back_total, nat_cmp_total, eq_by_cmp_equiv}
use Rattle.std.specs.List.{AllByRecursion, IsDistinct}
use Rattle.std.specs.List.Sorted.{IsStrictlySortedBy, IsPermutation}
use Rattle.std.specs.Ordering.{is_lt, is_eq, ordering_reverse, eq_by_cmp}
use Rattle.std.specs.declared.cmp.Ordering.{Ordering}
use Rattle.std.specs.declared.cmp.Ordering.TheVariants.{Less, Equal, Greater}
use Rattle.std.proofs.lemmas.Bool.Decides.{nat_tests}
use Rattle.std.proofs.lemmas.List.{nil_from_length}
use Rattle.std.proofs.lemmas.Option.{IfSome_then}
use Rattle.std.proofs.lemmas.Result.{IfOk-weaker}
use Rattle.std.proofs.lemmas.List.Sorted.{IsPermutation-refl, IsPermutation-sym, IsPermutation-trans, IsPermutation-cons, IsPermutation-middle, IsPermutation-append_left, IsPermutation-append_right, IsPermutation-append_comm, Contains-permutation, length_permutation}
use Rattle.std.proofs.lemmas.Map.Keys.{IsDistinct-from_sorted, IsDistinct-IsPermutation}
use mathlib.Core.Bool.{true≢false}
use Rattle.tab_key.specs.Order.{record_cmp, stands_before}
use Rattle.tab_key.specs.Records.{Record}
use Rattle.tab_key.specs.Sorted as key
use Rattle.tab_key.specs.Sorted.{inserted, sorted, IsIn}
use Rattle.tab_key.proofs.Each.{each_append, each_map}
use Rattle.tab_key.proofs.Rising.{in_from, in_to, all_in, is_less, same_rising, in_sorted, sorted_in, rising_sorted}
use Rattle.tab_key.proofs.Sorting.{distinct_permuted}
use Rattle.tab_key.proofs.Ties.{tied_parts}
use Rattle.tab_cells.specs.Written.{TimedUpdate, record_of, records_of}
use Rattle.tab_cells.proofs.Written.{records_seq}
use Rattle.tab_iter.specs.Lists.{IsRising, HasI64Timestamps}
use Rattle.tab_mem.specs.Lists.{IsRun}
use Rattle.tab_mem.specs.Writing.{written_cmp, put_in, as_written, IsHeld}
use Rattle.tab_mem.proofs.Written.{timestamps_both}

-- ---- the order
pub written_cmp_total : IsTotalOrder written_cmp
unfolding written_cmp
written_cmp_total = then_total (on_total (λ (r : Record). r.seq) nat_cmp_total) (back_total (on_total (λ (r : Record). r.idx) nat_cmp_total))

written_tied : (x y : Record) → x.seq ≡ y.seq → x.idx ≡ y.idx → written_cmp x y ≡ Equal
unfolding written_cmp
written_tied x y e f = grind (arith, nat_tests)

earlier_number : (x y : Record) → x.seq < y.seq → written_cmp x y ≡ Less
unfolding written_cmp
earlier_number x y lt = grind (arith, nat_tests)

later_place : (x y : Record) → x.seq ≡ y.seq → y.idx < x.idx → written_cmp x y ≡ Less
unfolding written_cmp
later_place x y e lt = grind (arith, nat_tests)

both_less : (x y : Record) → written_cmp x y ≡ Less → written_cmp y x ≡ Less → ⊥
both_less x y p q = let bad : Greater ≡ Less = sym (ap ordering_reverse q) ∙ sym (written_cmp_total.antisymm x y) ∙ p in cc

itself_less : (x y : Record) → x ≡ y → written_cmp x y ≡ Less → ⊥
itself_less x y e p = both_less x y p (subst (λ z. written_cmp z x ≡ Less) e (subst (λ z. written_cmp x z ≡ Less) (sym e) p))

-- ---- lists in that order with the same records are one
same_order : (xs ys : List Record) → IsStrictlySortedBy written_cmp xs → IsStrictlySortedBy written_cmp ys → ((u : Record) → IsIn xs u → IsIn ys u) → ((u : Record) → IsIn ys u → IsIn xs u) → xs ≡ ys
unfolding IsStrictlySortedBy
same_order [] [] r s f g = refl
same_order [] (y ∷ ys) r s f g = absurd (g y (inl refl))
same_order (x ∷ xs) [] r s f g = absurd (f x (inl refl))
same_order (x ∷ xs) (y ∷ ys) r s f g = λ i. heads i ∷ same_order xs ys r.1 s.1 down up i
  where
    first : (y ≡ x) ⊎ IsIn ys x → (x ≡ y) ⊎ IsIn xs y → x ≡ y
    first (inl e) k = sym e
    first (inr h) (inl e) = e
    first (inr h) (inr k) = absurd (both_less x y (all_in (λ z. written_cmp x z ≡ Less) xs r.0 y k) (all_in (λ z. written_cmp y z ≡ Less) ys s.0 x h))

    heads : x ≡ y
    heads = first (f x (inl refl)) (g y (inl refl))

    below : (u : Record) → IsIn xs u → (y ≡ u) ⊎ IsIn ys u → IsIn ys u
    below u h (inl e) = absurd (itself_less x u (heads ∙ e) (all_in (λ z. written_cmp x z ≡ Less) xs r.0 u h))
    below u h (inr k) = k

    down : (u : Record) → IsIn xs u → IsIn ys u
    down u h = below u h (f u (inr h))

    above : (u : Record) → IsIn ys u → (x ≡ u) ⊎ IsIn xs u → IsIn xs u
    above u h (inl e) = absurd (itself_less y u (sym heads ∙ e) (all_in (λ z. written_cmp y z ≡ Less) ys s.0 u h))
    above u h (inr k) = k

    up : (u : Record) → IsIn ys u → IsIn xs u
    up u h = above u h (g u (inr h))

in_moved : (xs ys : List Record) → IsPermutation xs ys → (u : Record) → IsIn xs u → IsIn ys u
in_moved xs ys p u h = in_from ys u (Contains-permutation xs ys u p (in_to xs u h))

moved_order : (xs ys : List Record) → IsStrictlySortedBy written_cmp xs → IsStrictlySortedBy written_cmp ys → IsPermutation xs ys → xs ≡ ys
moved_order xs ys r s p = same_order xs ys r s (in_moved xs ys p) (in_moved ys xs (IsPermutation-sym xs ys p))

-- ---- sorting only moves records
swapped : (x y : Record) (xs ys : List Record) → IsPermutation (x ∷ xs) ys → IsPermutation (x ∷ y ∷ xs) (y ∷ ys)
swapped x y xs ys p = IsPermutation-trans (x ∷ y ∷ xs) (y ∷ x ∷ xs) (y ∷ ys) (IsPermutation-middle (x ∷ []) y xs) (IsPermutation-cons y (x ∷ xs) ys p)

put_moves : (x : Record) (xs : List Record) → IsPermutation (x ∷ xs) (put_in x xs)
put_moves x [] = IsPermutation-refl (x ∷ [])
put_moves x (y ∷ ys) = go (is_lt (written_cmp x y)) (put_moves x ys)
  where
    go : (v : Bool) → IsPermutation (x ∷ ys) (put_in x ys) → IsPermutation (x ∷ y ∷ ys) (cond v (x ∷ y ∷ ys) (y ∷ put_in x ys))
    go true ih = IsPermutation-refl (x ∷ y ∷ ys)
    go false ih = swapped x y ys (put_in x ys) ih

pub written_moves : (xs : List Record) → IsPermutation xs (as_written xs)
written_moves [] = IsPermutation-refl []
written_moves (x ∷ xs) = IsPermutation-trans (x ∷ xs) (x ∷ as_written xs) (put_in x (as_written xs)) (IsPermutation-cons x xs (as_written xs) (written_moves xs)) (put_moves x (as_written xs))

inserted_moves : (x : Record) (xs : List Record) → IsPermutation (x ∷ xs) (inserted x xs)
inserted_moves x [] = IsPermutation-refl (x ∷ [])
inserted_moves x (y ∷ ys) = go (stands_before x y) (inserted_moves x ys)
  where
    go : (v : Bool) → IsPermutation (x ∷ ys) (inserted x ys) → IsPermutation (x ∷ y ∷ ys) (cond v (x ∷ y ∷ ys) (y ∷ inserted x ys))
    go true ih = IsPermutation-refl (x ∷ y ∷ ys)
    go false ih = swapped x y ys (inserted x ys) ih

pub sorted_moves : (xs : List Record) → IsPermutation xs (sorted xs)
sorted_moves [] = IsPermutation-refl []
sorted_moves (x ∷ xs) = IsPermutation-trans (x ∷ xs) (x ∷ sorted xs) (inserted x (sorted xs)) (IsPermutation-cons x xs (sorted xs) (sorted_moves xs)) (inserted_moves x (sorted xs))

-- ---- what is apart is put in order
all_put : (P : Record → Type 0) (x : Record) (xs : List Record) → P x → AllByRecursion P xs → AllByRecursion P (put_in x xs)
all_put P x [] p a = (p, tt)
all_put P x (y ∷ ys) p a = go (is_lt (written_cmp x y)) (all_put P x ys p a.1)
  where
    go : (v : Bool) → AllByRecursion P (put_in x ys) → AllByRecursion P (cond v (x ∷ y ∷ ys) (y ∷ put_in x ys))
    go true ih = (p, a)
    go false ih = (a.0, ih)

all_written : (P : Record → Type 0) (xs : List Record) → AllByRecursion P xs → AllByRecursion P (as_written xs)
all_written P [] a = tt
all_written P (x ∷ xs) a = all_put P x (as_written xs) a.0 (all_written P xs a.1)

other_less : (o : Ordering) → is_lt o ≡ false → is_eq o ≡ false → ordering_reverse o ≡ Less
other_less Less f n = absurd (true≢false f)
other_less Equal f n = absurd (true≢false n)
other_less Greater f n = refl

rising_put : (x : Record) (xs : List Record) → AllByRecursion (λ y. eq_by_cmp written_cmp x y ≡ false) xs → IsStrictlySortedBy written_cmp xs → IsStrictlySortedBy written_cmp (put_in x xs)
unfolding IsStrictlySortedBy
rising_put x [] d r = (tt, tt)
rising_put x (y ∷ ys) d r = go (is_lt (written_cmp x y)) refl (rising_put x ys d.1 r.1)
  where
    go : (v : Bool) → is_lt (written_cmp x y) ≡ v → IsStrictlySortedBy written_cmp (put_in x ys) → IsStrictlySortedBy written_cmp (cond v (x ∷ y ∷ ys) (y ∷ put_in x ys))
    go true e ih =
        let less : written_cmp x y ≡ Less = is_less (written_cmp x y) e in
        ((less, each_map (λ z. written_cmp y z ≡ Less) (λ z. written_cmp x z ≡ Less) (λ z k. written_cmp_total.trans x y z less k) ys r.0), r)
    go false e ih =
        let more : written_cmp y x ≡ Less = written_cmp_total.antisymm y x ∙ other_less (written_cmp x y) e d.0 in
        (all_put (λ z. written_cmp y z ≡ Less) x ys more r.0, ih)

rising_written : (xs : List Record) → IsDistinct (eq_by_cmp written_cmp) xs → IsStrictlySortedBy written_cmp (as_written xs)
unfolding IsStrictlySortedBy IsDistinct
rising_written [] d = tt
rising_written (x ∷ xs) d = rising_put x (as_written xs) (all_written (λ y. eq_by_cmp written_cmp x y ≡ false) xs d.0) (rising_written xs d.1)

-- ---- records that are held, wherever they lie
apart_moved : (xs ys : List Record) → IsPermutation xs ys → IsDistinct (eq_by_cmp written_cmp) xs → IsDistinct (eq_by_cmp written_cmp) ys
apart_moved = IsDistinct-IsPermutation (eq_by_cmp written_cmp) (eq_by_cmp_equiv written_cmp_total).symm

pub held_moved : (xs ys : List Record) → IsPermutation xs ys → IsHeld xs → IsHeld ys
held_moved xs ys p h = record {
  apart = apart_moved xs ys p h.apart;
  timestamps = λ u k. h.timestamps u (in_moved ys xs (IsPermutation-sym xs ys p) u k);
}

pub written_same : (xs ys : List Record) → IsPermutation xs ys → IsHeld xs → as_written ys ≡ as_written xs
written_same xs ys p h =
    moved_order (as_written ys) (as_written xs) (rising_written ys (apart_moved xs ys p h.apart)) (rising_written xs h.apart)
    (IsPermutation-trans (as_written ys) ys (as_written xs) (IsPermutation-sym ys (as_written ys) (written_moves ys)) (IsPermutation-trans ys xs (as_written xs) (IsPermutation-sym xs ys p) (written_moves xs)))

-- how many they are, in two places
pub written_count : (ws ks : List Record) → length ws + length ks ≡ length (as_written (ws ++ ks))
written_count ws ks = omega (arith, length_permutation (ws ++ ks) (as_written (ws ++ ks)) (written_moves (ws ++ ks)), length-append ws ks)

-- ---- their order at a freeze
apart_distinct : (xs : List Record) → IsDistinct (eq_by_cmp written_cmp) xs → key.IsDistinct xs
unfolding IsDistinct
apart_distinct [] d = tt
apart_distinct (x ∷ xs) d = (each_map (λ y. eq_by_cmp written_cmp x y ≡ false) (λ y. record_cmp x y ≢ Equal) other xs d.0, apart_distinct xs d.1)
  where
    other : (y : Record) → eq_by_cmp written_cmp x y ≡ false → record_cmp x y ≢ Equal
    other y f e = let t = tied_parts x y e in true≢false (sym (ap is_eq (written_tied x y t.2 t.3)) ∙ f)

pub held_distinct : (xs : List Record) → IsHeld xs → key.IsDistinct xs
held_distinct xs h = apart_distinct xs h.apart

pub written_distinct : (xs : List Record) → IsHeld xs → key.IsDistinct (as_written xs)
written_distinct xs h = held_distinct (as_written xs) (held_moved xs (as_written xs) (written_moves xs) h)

pub sorted_same : (xs ys : List Record) → key.IsDistinct xs → IsPermutation xs ys → sorted ys ≡ sorted xs
sorted_same xs ys d p =
    same_rising (sorted ys) (sorted xs) (rising_sorted ys (distinct_permuted xs ys p d)) (rising_sorted xs d)
    (λ u h. sorted_in xs u (in_moved ys xs (IsPermutation-sym xs ys p) u (in_sorted ys u h)))
    (λ u h. sorted_in ys u (in_moved xs ys p u (in_sorted xs u h)))

pub written_sorted : (xs : List Record) → IsHeld xs → sorted (as_written xs) ≡ sorted xs
written_sorted xs h = sorted_same xs (as_written xs) (held_distinct xs h) (written_moves xs)

-- ---- a write
rising_both : (xs ys : List Record) → IsStrictlySortedBy written_cmp xs → IsStrictlySortedBy written_cmp ys → ((x y : Record) → IsIn xs x → IsIn ys y → written_cmp x y ≡ Less) → IsStrictlySortedBy written_cmp (xs ++ ys)
unfolding IsStrictlySortedBy
rising_both [] ys r s f = s
rising_both (x ∷ xs) ys r s f = (each_append (λ y. written_cmp x y ≡ Less) xs ys r.0 (each_of ys (λ y h. f x y (inl refl) h)), rising_both xs ys r.1 s (λ z y h k. f z y (inr h) k))
  where
    each_of : (zs : List Record) → ((y : Record) → IsIn zs y → written_cmp x y ≡ Less) → AllByRecursion (λ y. written_cmp x y ≡ Less) zs
    each_of [] g = tt
    each_of (z ∷ zs) g = (g z (inl refl), each_of zs (λ y h. g y (inr h)))

before_places : (seq k : ℕ) (row : List ℕ) (p : TimedUpdate) (ps : List TimedUpdate) → length ps ≤ k → AllByRecursion (λ y. written_cmp (record_of seq row k p) y ≡ Less) (records_of seq row ps)
unfolding records_of
before_places seq k row p [] le = tt
before_places seq k row p (q ∷ qs) le = (later_place (record_of seq row k p) (record_of seq row (length qs) q) refl (omega (arith, le)), before_places seq k row p qs (omega (arith, le)))

rising_mutation : (seq : ℕ) (row : List ℕ) (ps : List TimedUpdate) → IsStrictlySortedBy written_cmp (records_of seq row ps)
unfolding IsStrictlySortedBy records_of
rising_mutation seq row [] = tt
rising_mutation seq row (p ∷ ps) = (before_places seq (length ps) row p ps (omega arith), rising_mutation seq row ps)

-- the records of a mutation with a greater number are put behind some of those that are held
module _ (seq : ℕ) (row : List ℕ) (ps : List TimedUpdate) (front back : List Record) (h : IsHeld (front ++ back)) (below : (u : Record) → Contains (as_written (front ++ back)) u → u.seq < seq) where
  abbrev old : List Record
  old = front ++ back

  abbrev new : List Record
  new = records_of seq row ps

  rises : IsStrictlySortedBy written_cmp (as_written old ++ new)
  rises = rising_both (as_written old) new (rising_written old h.apart) (rising_mutation seq row ps)
      (λ x y k l. let e : y.seq ≡ seq = records_seq seq row ps y (in_to new y l) in let b : x.seq < seq = below x (in_to (as_written old) x k) in earlier_number x y (omega (arith, b, e)))

  moved : IsPermutation (old ++ new) ((front ++ new) ++ back)
  moved =
      subst (λ (l : List Record). IsPermutation l ((front ++ new) ++ back)) (sym (append_assoc front back new))
      (subst (λ (l : List Record). IsPermutation (front ++ (back ++ new)) l) (sym (append_assoc front new back))
      (IsPermutation-append_right front (back ++ new) (new ++ back) (IsPermutation-append_comm back new)))

  sorted_moved : IsPermutation (as_written old ++ new) ((front ++ new) ++ back)
  sorted_moved = IsPermutation-trans (as_written old ++ new) (old ++ new) ((front ++ new) ++ back) (IsPermutation-append_left new (as_written old) old (IsPermutation-sym old (as_written old) (written_moves old))) moved

  apart_more : IsDistinct (eq_by_cmp written_cmp) ((front ++ new) ++ back)
  apart_more = apart_moved (as_written old ++ new) ((front ++ new) ++ back) sorted_moved (IsDistinct-from_sorted written_cmp (as_written old ++ new) rises)

  pub held_more : HasI64Timestamps new → IsHeld ((front ++ new) ++ back)
  held_more t = record {
    apart = apart_more;
    timestamps = λ u k. timestamps_both old new h.timestamps t u (in_moved ((front ++ new) ++ back) (old ++ new) (IsPermutation-sym (old ++ new) ((front ++ new) ++ back) moved) u k);
  }

  pub written_more : as_written ((front ++ new) ++ back) ≡ as_written old ++ new
  written_more = sym (moved_order (as_written old ++ new) (as_written ((front ++ new) ++ back)) rises (rising_written ((front ++ new) ++ back) apart_more)
      (IsPermutation-trans (as_written old ++ new) ((front ++ new) ++ back) (as_written ((front ++ new) ++ back)) sorted_moved (written_moves ((front ++ new) ++ back))))

-- .. whether it went in or not
module _ {E : Type 0} (seq : ℕ) (row : List ℕ) (ps : List TimedUpdate) (front back now : List Record) (h : IsHeld (front ++ back)) (below : (u : Record) → Contains (as_written (front ++ back)) u → u.seq < seq) where
  pub held_after : (r : Result ⊤ E) → OnOk r (IsPermutation (front ++ records_of seq row ps) now) → OnOk r (HasI64Timestamps (records_of seq row ps)) → OnErr r (now ≡ front) → IsHeld (now ++ back)
  held_after (Ok x) ok t err = held_moved ((front ++ records_of seq row ps) ++ back) (now ++ back) (IsPermutation-append_left back (front ++ records_of seq row ps) now ok) (held_more seq row ps front back h below t)
  held_after (Err e) ok t err = subst (λ (l : List Record). IsHeld (l ++ back)) (sym err) h

  pub written_after : (r : Result ⊤ E) → OnOk r (IsPermutation (front ++ records_of seq row ps) now) → OnOk r (HasI64Timestamps (records_of seq row ps)) → OnOk r (as_written (now ++ back) ≡ as_written (front ++ back) ++ records_of seq row ps)
  written_after (Ok x) ok t = written_same ((front ++ records_of seq row ps) ++ back) (now ++ back) (IsPermutation-append_left back (front ++ records_of seq row ps) now ok) (held_more seq row ps front back h below t) ∙ written_more seq row ps front back h below
  written_after (Err e) ok t = tt

pub written_refused : {E : Type 0} (front back now : List Record) (r : Result ⊤ E) → OnErr r (now ≡ front) → OnErr r (as_written (now ++ back) ≡ as_written (front ++ back))
written_refused front back now (Ok x) err = tt
written_refused front back now (Err e) err = ap (λ l. as_written (l ++ back)) err

-- ---- a freeze
-- what lies in two places, lent one behind the other
pub lent_both : (ws ks first second : List Record) → first ≡ ws → second ≡ first ++ ks → second ≡ ws ++ ks
lent_both ws ks first second e f = f ∙ ap (λ l. l ++ ks) e

-- the records in their order make a run
pub held_run : (us : List Record) → IsHeld us → IsRun (sorted us)
held_run us h = record { rising = rising_sorted us (held_distinct us h); timestamps = λ u k. h.timestamps u (in_sorted us u k) }

-- what was sorted, and the rest
pub parts_moved : (all ws ks : List Record) → ks ++ sorted ws ≡ sorted all → IsPermutation all (ws ++ ks)
parts_moved all ws ks e = IsPermutation-trans all (ks ++ ws) (ws ++ ks) back (IsPermutation-append_comm ks ws)
  where
    back : IsPermutation all (ks ++ ws)
    back = IsPermutation-sym (ks ++ ws) all (IsPermutation-trans (ks ++ ws) (ks ++ sorted ws) all (IsPermutation-append_right ks ws (sorted ws) (sorted_moves ws))
        (subst (λ (l : List Record). IsPermutation l all) (sym e) (IsPermutation-sym all (sorted all) (sorted_moves all))))

-- what is sorted and all
pub run_moved : (all ws ks : List Record) → ws ≡ [] → ks ≡ sorted all → IsPermutation all (ws ++ ks)
run_moved all ws ks none e = subst (λ (l : List Record). IsPermutation all (l ++ ks)) (sym none) (subst (IsPermutation all) (sym e) (sorted_moves all))

-- what stays where it was
pub same_moved : (ws ks left kept : List Record) → left ≡ ws → kept ≡ ks → IsPermutation (ws ++ ks) (left ++ kept)
same_moved ws ks left kept e f = subst (IsPermutation (ws ++ ks)) (λ i. sym e i ++ sym f i) (IsPermutation-refl (ws ++ ks))

-- a run that holds all of them
rising_distinct : (xs : List Record) → IsStrictlySortedBy record_cmp xs → key.IsDistinct xs
unfolding IsStrictlySortedBy
rising_distinct [] s = tt
rising_distinct (x ∷ xs) s = (each_map (λ y. record_cmp x y ≡ Less) (λ y. record_cmp x y ≢ Equal) differ xs s.0, rising_distinct xs s.1)
  where
    differ : (y : Record) → record_cmp x y ≡ Less → record_cmp x y ≢ Equal
    differ y l e = let bad : Less ≡ Equal = sym l ∙ e in cc

pub rising_alone : (rs : List Record) → IsStrictlySortedBy record_cmp rs → sorted rs ≡ rs
rising_alone rs r = sym (same_rising rs (sorted rs) r (rising_sorted rs (rising_distinct rs r)) (sorted_in rs) (in_sorted rs))

pub run_alone : (ws ks : List Record) → ws ≡ [] → IsHeld (ws ++ ks) → IsStrictlySortedBy record_cmp ks → ks ≡ sorted (as_written (ws ++ ks))
run_alone ws ks none h r = sym (written_sorted (ws ++ ks) h ∙ ap (λ l. sorted (l ++ ks)) none ∙ rising_alone ks r)

-- .. and is shared
pub shared_alone : {R E : Type 0} (r : Result (Option R) E) (value : R → List Record) (ws ks all : List Record) → length ws ≡ 0 → IsHeld (ws ++ ks) → as_written (ws ++ ks) ≡ all → IfOk r (λ o. IfSome o (λ s. (value s ≡ ks) × IsRising ks)) → IfOk r (λ o. IfSome o (λ s. value s ≡ sorted all))
shared_alone r value ws ks all none h is k =
    IfOk-weaker r (λ o. IfSome o (λ s. (value s ≡ ks) × IsRising ks)) (λ o. IfSome o (λ s. value s ≡ sorted all))
    (λ o q. IfSome_then o q (λ s m. m.0 ∙ run_alone ws ks (nil_from_length ws none) h m.1 ∙ ap sorted is)) k

-- ---- none
pub none_held : IsHeld []
unfolding IsDistinct
none_held = record { apart = tt; timestamps = λ u h. absurd h }

-- ---- what was written, as one run
run_moves : (xs run : List Record) → run ≡ sorted (as_written xs) → IsPermutation xs run
run_moves xs run e = subst (IsPermutation xs) (sym e) (IsPermutation-trans xs (as_written xs) (sorted (as_written xs)) (written_moves xs) (sorted_moves (as_written xs)))

pub run_held : (xs run : List Record) → run ≡ sorted (as_written xs) → IsHeld xs → IsHeld run
run_held xs run e h = held_moved xs run (run_moves xs run e) h

pub run_written : (xs run : List Record) → run ≡ sorted (as_written xs) → IsHeld xs → as_written run ≡ as_written xs
run_written xs run e h = written_same xs run (run_moves xs run e) h
