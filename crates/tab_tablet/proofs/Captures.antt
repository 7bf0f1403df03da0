-- The inputs of a whole compaction are found among the sources, and what they leave.
use Rattle.std.proofs.Common.{◌≡◌, ℕ, zero, suc, ◌+◌, ◌*◌, ◌≤◌, List, [], ◌∷◌, ◌++◌, Bool, true, false, cond, not, ◌&&◌, ◌==◌, refl, sym, ◌∙◌, ap, subst, length, take, drop, max, arith, append-nil}
use Rattle.std.specs.Prelude.{ℤ, filter, nat_le, nat_lt, sum, Option, Some, None, option_map, option_and_then}
use Rattle.std.specs.List.{AllByRecursion}
use Rattle.std.specs.Cmp.Lexicographic.{bytes_decides}
use Rattle.std.specs.Cmp.{first_so, second_so}
use Rattle.std.proofs.lemmas.Bool.Decides.{Decides-int_eq, nat_tests}
use Rattle.std.proofs.lemmas.List.{take-append-drop, length-append, length-map, length-take-le}
use Rattle.std.proofs.lemmas.List.Sums.{sum_by-append, sum_by-cons}
use Rattle.std.proofs.lemmas.List.Elements.{filter-append}
use mathlib.Core.Bool.{true≢false}
use Rattle.tab_key.specs.Records.{Record}
use Rattle.tab_key.specs.Order.{kind_rank}
use Rattle.tab_key.specs.Same.{same_record}
use Rattle.tab_key.proofs.Each.{each_map}
use Rattle.tab_cells.specs.declared.compaction.Compaction.{Compaction}
use Rattle.tab_cells.specs.declared.compaction.Compaction.TheVariants.{Minor, Partial, Full}
use Rattle.tab_cells.proofs.Lists.{by_bool}
use Rattle.tab_iter.proofs.ColumnLaws.{same_itself}
use Rattle.tab_version.specs.Sources.{Sorted, same_lists, same_contents, same_table, without, or_else, without_runs, without_tables, left_by, count_of}
use Rattle.tab_compact.specs.Plans.{largest, fits, IsPlan}
use Rattle.tab_compact.specs.Merges.{Merge, put_by_size, by_size, sizes_of, taken, inputs_of}
use Rattle.tab_compact.proofs.Plans.{plan_is_greatest}
use Rattle.tab_tablet.specs.Tablets.{Tablet, frozen, capture}
use Rattle.tab_tablet.specs.Spared.{plan_of, limit_of, larger_than, spared, InputsLeave}
use Rattle.tab_tablet.proofs.Parted.{nat_same, some_is, contents_same}

-- ---- each source is like itself
nat_itself : (n : ℕ) → (n == n) ≡ true
nat_itself n = grind (arith, nat_tests)

record_itself : (r : Record) → same_record r r ≡ true
unfolding same_record
record_itself r = rw (same_itself r.key, (Decides-int_eq r.key.timestamp r.key.timestamp).1 refl, nat_itself (kind_rank r.kind), (bytes_decides r.value r.value).1 refl, nat_itself r.seq, nat_itself r.idx) refl

list_itself : {X : Type 0} (same : X → X → Bool) → ((x : X) → same x x ≡ true) → (xs : List X) → same_lists same xs xs ≡ true
list_itself same f [] = refl
list_itself same f (x ∷ xs) = rw (f x) (list_itself same f xs)

contents_itself : (xs : List Record) → same_contents xs xs ≡ true
unfolding same_contents
contents_itself xs = list_itself same_record record_itself xs

-- all runs are there
runs_there : (runs : List (List Record)) → without_runs runs runs ≡ Some []
runs_there [] = refl
runs_there (x ∷ xs) = rw (contents_itself x) (runs_there xs)

-- ---- tables: as many of each as there are
-- the same records and the same size
abbrev exact : Sorted → Sorted → Bool
exact x y = same_table x y && x.size == y.size

exact_itself : (x : Sorted) → exact x x ≡ true
exact_itself x = rw (contents_itself x.records, nat_itself x.size) refl

exact_same : (x y : Sorted) → exact x y ≡ true → x ≡ y
exact_same x y e = λ i. record { records = contents_same x.records y.records (first_so (same_table x y) (x.size == y.size) e) i; size = nat_same x.size y.size (second_so (same_table x y) (x.size == y.size) e) i }

abbrev one_if : Bool → ℕ → ℕ
one_if v n = cond v (n + 1) n

-- how many of the tables are this one
abbrev many : Sorted → List Sorted → ℕ
many y [] = 0
many y (t ∷ ts) = one_if (exact y t) (many y ts)

turn : (a b : Bool) (n : ℕ) → one_if a (one_if b n) ≡ one_if b (one_if a n)
turn true true n = refl
turn true false n = refl
turn false true n = refl
turn false false n = refl

-- what has one more has one to be taken out, and then the others
taken_one : (x : Sorted) (ts : List Sorted) → 1 ≤ many x ts → (ys : List Sorted) × (without (exact x) ts ≡ Some ys) × ((y : Sorted) → many y ts ≡ one_if (exact y x) (many y ys))
taken_one x [] le = absurd (omega (arith, le))
taken_one x (t ∷ ts) le = go (exact x t) refl le (taken_one x ts)
  where
    go : (v : Bool) → exact x t ≡ v → 1 ≤ one_if v (many x ts) → (1 ≤ many x ts → (ys : List Sorted) × (without (exact x) ts ≡ Some ys) × ((y : Sorted) → many y ts ≡ one_if (exact y x) (many y ys)))
        → (ys : List Sorted) × (cond v (Some ts) (option_map (λ zs. t ∷ zs) (without (exact x) ts)) ≡ Some ys) × ((y : Sorted) → one_if (exact y t) (many y ts) ≡ one_if (exact y x) (many y ys))
    go true e le ih = (ts, refl, λ y. ap (λ z. one_if (exact y z) (many y ts)) (sym (exact_same x t e)))
    go false e le ih = let r = ih le in (t ∷ r.0, ap (option_map (λ zs. t ∷ zs)) r.1, λ y. ap (one_if (exact y t)) (r.2 y) ∙ turn (exact y t) (exact y x) (many y r.0))

-- the others that pass a test which it doesn't pass are those that passed it before
others_pass : (x : Sorted) (q : Sorted → Bool) → q x ≡ false → (ts ys : List Sorted) → without (exact x) ts ≡ Some ys → filter q ts ≡ filter q ys
others_pass x q n [] ys e = absurd (cc)
others_pass x q n (t ∷ ts) ys e = go (exact x t) refl e (others_pass x q n ts)
  where
    kept : (zs : List Sorted) → filter q ts ≡ filter q zs → filter q (t ∷ ts) ≡ filter q (t ∷ zs)
    kept zs same = ap (λ l. cond (q t) (t ∷ l) l) same

    later : (o : Option (List Sorted)) → without (exact x) ts ≡ o → option_map (λ zs. t ∷ zs) o ≡ Some ys → ((zs : List Sorted) → without (exact x) ts ≡ Some zs → filter q ts ≡ filter q zs) → filter q (t ∷ ts) ≡ filter q ys
    later None w e ih = absurd (cc)
    later (Some zs) w e ih = kept zs (ih zs w) ∙ ap (filter q) (some_is (t ∷ zs) ys e)

    go : (v : Bool) → exact x t ≡ v → cond v (Some ts) (option_map (λ zs. t ∷ zs) (without (exact x) ts)) ≡ Some ys → ((zs : List Sorted) → without (exact x) ts ≡ Some zs → filter q ts ≡ filter q zs) → filter q (t ∷ ts) ≡ filter q ys
    go true w e ih = rw (ap q (sym (exact_same x t w)) ∙ n) (ap (filter q) (some_is ts ys e))
    go false w e ih = later (without (exact x) ts) refl e ih

filter_all : (p : Sorted → Bool) (ts : List Sorted) → AllByRecursion (λ t. p t ≡ true) ts → filter p ts ≡ ts
filter_all p [] a = refl
filter_all p (t ∷ ts) a = rw a.0 (ap (λ l. t ∷ l) (filter_all p ts a.1))

filter_none : (p : Sorted → Bool) (ts : List Sorted) → AllByRecursion (λ t. p t ≡ false) ts → filter p ts ≡ []
filter_none p [] a = refl
filter_none p (t ∷ ts) a = rw a.0 (filter_none p ts a.1)

-- Inputs that are, of each table that passes a test, as many as there are, and of no other: what they leave are those that don't pass.
module _ (p : Sorted → Bool) where
  abbrev rest : Sorted → Bool
  rest t = not (p t)

  -- how many of the tables are this one, and pass
  abbrev passing : Sorted → List Sorted → ℕ
  passing y ts = cond (p y) (many y ts) 0

  none_passes : (all ts : List Sorted) → ((y : Sorted) → many y ts ≤ many y all) → ((y : Sorted) → 0 ≡ passing y all) → AllByRecursion (λ t. rest t ≡ true) ts
  none_passes all [] f g = tt
  none_passes all (t ∷ ts) f g = (go (p t) refl (g t), none_passes all ts (λ y. fewer (exact y t) (many y ts) (many y all) (f y)) g)
    where
      fewer : (v : Bool) (a c : ℕ) → one_if v a ≤ c → a ≤ c
      fewer true a c le = omega (arith, le)
      fewer false a c le = le

      some : (v : Bool) (a c : ℕ) → v ≡ true → one_if v a ≤ c → 1 ≤ c
      some true a c e le = omega (arith, le)
      some false a c e le = absurd (true≢false (sym e))

      go : (v : Bool) → p t ≡ v → 0 ≡ cond v (many t all) 0 → not v ≡ true
      go true e z = absurd (omega (arith, z, some (exact t t) (many t ts) (many t all) (exact_itself t) (f t)))
      go false e z = refl

  exactly_left : (inputs ts : List Sorted) → ((y : Sorted) → many y inputs ≡ passing y ts) → without_tables inputs ts ≡ Some (filter rest ts)
  exactly_left [] ts f = ap Some (sym (filter_all rest ts (none_passes ts ts (λ y. omega arith) f)))
  exactly_left (x ∷ xs) ts f =
      ap (λ o. option_and_then (without_tables xs) (or_else o (without (same_table x) ts))) r.1
      ∙ exactly_left xs r.0 (λ y. still y (exact y x) refl (f y ∙ ap (λ n. cond (p y) n 0) (r.2 y)))
      ∙ ap Some (sym (others_pass x rest (ap not passes) ts r.0 r.1))
    where
      there : (v w : Bool) (a c : ℕ) → v ≡ true → one_if v a ≡ cond w c 0 → (w ≡ true) × (1 ≤ c)
      there true true a c e q = (refl, omega (arith, q))
      there true false a c e q = absurd (omega (arith, q))
      there false w a c e q = absurd (true≢false (sym e))

      passes : p x ≡ true
      passes = (there (exact x x) (p x) (many x xs) (many x ts) (exact_itself x) (f x)).0

      r : (ys : List Sorted) × (without (exact x) ts ≡ Some ys) × ((y : Sorted) → many y ts ≡ one_if (exact y x) (many y ys))
      r = taken_one x ts (there (exact x x) (p x) (many x xs) (many x ts) (exact_itself x) (f x)).1

      one_less : (w : Bool) (a c : ℕ) → w ≡ true → a + 1 ≡ cond w (c + 1) 0 → a ≡ cond w c 0
      one_less true a c e q = omega (arith, q)
      one_less false a c e q = absurd (true≢false (sym e))

      still : (y : Sorted) (v : Bool) → exact y x ≡ v → one_if v (many y xs) ≡ cond (p y) (one_if v (many y r.0)) 0 → many y xs ≡ passing y r.0
      still y true e q = one_less (p y) (many y xs) (many y r.0) (ap p (exact_same y x e) ∙ passes) q
      still y false e q = q

-- ---- tables by size
many_put : (y t : Sorted) (ts : List Sorted) → many y (put_by_size t ts) ≡ one_if (exact y t) (many y ts)
many_put y t [] = refl
many_put y t (s ∷ ss) = go (nat_lt s.size t.size) (many_put y t ss)
  where
    go : (v : Bool) → many y (put_by_size t ss) ≡ one_if (exact y t) (many y ss) → many y (cond v (s ∷ put_by_size t ss) (t ∷ s ∷ ss)) ≡ one_if (exact y t) (one_if (exact y s) (many y ss))
    go true ih = ap (one_if (exact y s)) ih ∙ turn (exact y s) (exact y t) (many y ss)
    go false ih = refl

many_sorted : (y : Sorted) (ts : List Sorted) → many y (by_size ts) ≡ many y ts
many_sorted y [] = refl
many_sorted y (t ∷ ts) = many_put y t (by_size ts) ∙ ap (one_if (exact y t)) (many_sorted y ts)

-- sizes rise
abbrev pub Rises : List Sorted → Type 0
Rises [] = Unit {0}
Rises (t ∷ ts) = AllByRecursion (λ (u : Sorted). t.size ≤ u.size) ts × Rises ts

all_put : (n : ℕ) (t : Sorted) (ts : List Sorted) → n ≤ t.size → AllByRecursion (λ (u : Sorted). n ≤ u.size) ts → AllByRecursion (λ (u : Sorted). n ≤ u.size) (put_by_size t ts)
all_put n t [] le a = (le, tt)
all_put n t (s ∷ ss) le a = go (nat_lt s.size t.size) (all_put n t ss le a.1)
  where
    go : (v : Bool) → AllByRecursion (λ (u : Sorted). n ≤ u.size) (put_by_size t ss) → AllByRecursion (λ (u : Sorted). n ≤ u.size) (cond v (s ∷ put_by_size t ss) (t ∷ s ∷ ss))
    go true ih = (a.0, ih)
    go false ih = (le, a)

under : (a c : ℕ) → nat_lt a c ≡ true → a ≤ c
under a c e = grind (arith, nat_tests)

over : (a c : ℕ) → nat_lt a c ≡ false → c ≤ a
over a c e = grind (arith, nat_tests)

put_rises : (t : Sorted) (ts : List Sorted) → Rises ts → Rises (put_by_size t ts)
put_rises t [] r = (tt, tt)
put_rises t (s ∷ ss) r = go (nat_lt s.size t.size) refl (put_rises t ss r.1)
  where
    go : (v : Bool) → nat_lt s.size t.size ≡ v → Rises (put_by_size t ss) → Rises (cond v (s ∷ put_by_size t ss) (t ∷ s ∷ ss))
    go true e ih = (all_put s.size t ss (under s.size t.size e) r.0, ih)
    go false e ih = let le : t.size ≤ s.size = over s.size t.size e in ((le, each_map (λ (u : Sorted). s.size ≤ u.size) (λ (u : Sorted). t.size ≤ u.size) (λ u k. omega (arith, le, k)) ss r.0), r)

pub rises_by_size : (ts : List Sorted) → Rises (by_size ts)
rises_by_size [] = tt
rises_by_size (t ∷ ts) = put_rises t (by_size ts) (rises_by_size ts)

-- ---- what is planned: the smallest, up to a limit that no other table keeps to
below_largest : (ts : List Sorted) → AllByRecursion (λ (t : Sorted). t.size ≤ largest (sizes_of ts)) ts
below_largest [] = tt
below_largest (t ∷ ts) = (omega arith, each_map (λ (u : Sorted). u.size ≤ largest (sizes_of ts)) (λ (u : Sorted). u.size ≤ max t.size (largest (sizes_of ts))) (λ u le. omega (arith, le)) ts (below_largest ts))

pub largest_more : (xs : List ℕ) (y : ℕ) → largest (xs ++ y ∷ []) ≡ max (largest xs) y
largest_more [] y = omega arith
largest_more (x ∷ xs) y = omega (arith, largest_more xs y)

sum_more : (xs : List ℕ) (y : ℕ) → sum (xs ++ y ∷ []) ≡ sum xs + y
sum_more xs y = omega (arith, sum_by-append (λ x. x) xs (y ∷ []), sum_by-cons (λ x. x) y [])

taken_front : (small bs : List Sorted) → take (length small) (sizes_of (small ++ bs)) ≡ sizes_of small
taken_front [] bs = refl
taken_front (x ∷ small) bs = ap (λ l. x.size ∷ l) (taken_front small bs)

taken_next : (small : List Sorted) (d : Sorted) (ds : List Sorted) → take (suc (length small)) (sizes_of (small ++ d ∷ ds)) ≡ sizes_of small ++ d.size ∷ []
taken_next [] d ds = refl
taken_next (x ∷ small) d ds = ap (λ l. x.size ∷ l) (taken_next small d ds)

-- where the first sizes fit, and with the next one they don't, the next one is larger than they
next_larger : (small : List Sorted) (d : Sorted) (ds : List Sorted) → fits (sizes_of (small ++ d ∷ ds)) (length small) ≡ true → fits (sizes_of (small ++ d ∷ ds)) (suc (length small)) ≡ false → nat_le d.size (largest (sizes_of small)) ≡ false
next_larger small d ds yes_first no_next = by_bool (nat_le d.size (largest (sizes_of small))) (λ le. absurd (true≢false (sym (more le) ∙ no_next))) (λ f. f)
  where
    first : nat_le (3 * largest (sizes_of small)) (sum (sizes_of small)) ≡ true
    first = ap (λ l. nat_le (3 * largest l) (sum l)) (sym (taken_front small (d ∷ ds))) ∙ yes_first

    grows : (l s n : ℕ) → nat_le n l ≡ true → nat_le (3 * l) s ≡ true → nat_le (3 * max l n) (s + n) ≡ true
    grows l s n p q = grind (arith, nat_tests)

    more : nat_le d.size (largest (sizes_of small)) ≡ true → fits (sizes_of (small ++ d ∷ ds)) (suc (length small)) ≡ true
    more le =
        ap (λ l. nat_le (3 * largest l) (sum l)) (taken_next small d ds)
        ∙ (λ i. nat_le (3 * largest_more (sizes_of small) d.size i) (sum_more (sizes_of small) d.size i))
        ∙ grows (largest (sizes_of small)) (sum (sizes_of small)) d.size le first

-- so of tables whose sizes rise just the first that are planned keep to their limit
module _ (small : List Sorted) where
  -- whether a table is no larger than they
  abbrev keeps : Sorted → Bool
  keeps t = nat_le t.size (largest (sizes_of small))

  all_small : AllByRecursion (λ t. keeps t ≡ true) small
  all_small = each_map (λ (t : Sorted). t.size ≤ largest (sizes_of small)) (λ t. keeps t ≡ true) (λ t le. within t.size (largest (sizes_of small)) le) small (below_largest small)
    where
      within : (n l : ℕ) → n ≤ l → nat_le n l ≡ true
      within n l le = grind (arith, nat_tests)

  large : (bs : List Sorted) → Rises bs → fits (sizes_of (small ++ bs)) (length small) ≡ true → ((k : ℕ) → suc (length small) ≤ k → k ≤ length (small ++ bs) → fits (sizes_of (small ++ bs)) k ≡ false) → AllByRecursion (λ t. keeps t ≡ false) bs
  large [] up fit most = tt
  large (d ∷ ds) up fit most = (first, each_map (λ (u : Sorted). d.size ≤ u.size) (λ t. keeps t ≡ false) (λ u le. beyond d.size u.size (largest (sizes_of small)) first le) ds up.0)
    where
      first : keeps d ≡ false
      first = next_larger small d ds fit (most (suc (length small)) (omega arith) (omega (arith, length-append small (d ∷ ds))))

      beyond : (n m l : ℕ) → nat_le n l ≡ false → n ≤ m → nat_le m l ≡ false
      beyond n m l e le = grind (arith, nat_tests)

  planned : (bs : List Sorted) → Rises bs → fits (sizes_of (small ++ bs)) (length small) ≡ true → ((k : ℕ) → suc (length small) ≤ k → k ≤ length (small ++ bs) → fits (sizes_of (small ++ bs)) k ≡ false) → filter keeps (small ++ bs) ≡ small
  planned bs up fit most = filter-append keeps small bs ∙ (λ i. filter_all keeps small all_small i ++ filter_none keeps bs (large bs up fit most) i) ∙ append-nil small

rises_drop : (k : ℕ) (ts : List Sorted) → Rises ts → Rises (drop k ts)
rises_drop zero ts r = r
rises_drop (suc k) [] r = tt
rises_drop (suc k) (t ∷ ts) r = rises_drop k ts r.1

-- what is taken of the tables by size are those that keep to the limit
taken_keeps : (ts : List Sorted) (k : ℕ) → plan_of ts ≡ Some k → filter (λ (t : Sorted). nat_le t.size (limit_of k ts)) (by_size ts) ≡ take k (by_size ts)
taken_keeps ts k e = rw limit (subst (λ l. filter (keeps small) l ≡ small) whole (planned small bs (rises_drop k (by_size ts) (rises_by_size ts)) fit most))
  where
    is : IsPlan (sizes_of (by_size ts)) (Some k)
    is = subst (IsPlan (sizes_of (by_size ts))) e (plan_is_greatest (sizes_of (by_size ts)))

    small : List Sorted
    small = take k (by_size ts)

    bs : List Sorted
    bs = drop k (by_size ts)

    whole : small ++ bs ≡ by_size ts
    whole = take-append-drop k (by_size ts)

    count : length small ≡ k
    count = length-take-le k (by_size ts) (omega (arith, is.1, length-map (by_size ts) (λ (t : Sorted). t.size)))

    limit : limit_of k ts ≡ largest (sizes_of small)
    limit = ap largest ((λ i. take (sym count i) (sizes_of (sym whole i))) ∙ taken_front small bs)

    fit : fits (sizes_of (small ++ bs)) (length small) ≡ true
    fit = (λ i. fits (sizes_of (whole i)) (count i)) ∙ is.2

    most : (j : ℕ) → suc (length small) ≤ j → j ≤ length (small ++ bs) → fits (sizes_of (small ++ bs)) j ≡ false
    most j lo hi = ap (λ l. fits (sizes_of l) j) whole ∙ is.3 j (omega (arith, lo, count)) (omega (arith, hi, ap length whole, length-map (by_size ts) (λ (t : Sorted). t.size)))

many_filter : (p : Sorted → Bool) (y : Sorted) (ts : List Sorted) → many y (filter p ts) ≡ cond (p y) (many y ts) 0
many_filter p y [] = none (p y) 0
  where
    none : (v : Bool) (n : ℕ) → n ≡ cond v n n
    none true n = refl
    none false n = refl
many_filter p y (t ∷ ts) = go (exact y t) refl (p t) refl (many_filter p y ts)
  where
    like : (v w : Bool) (a c : ℕ) → v ≡ w → a ≡ cond v c 0 → cond w (a + 1) a ≡ cond v (c + 1) 0
    like true true a c e q = ap (λ n. n + 1) q
    like true false a c e q = absurd (true≢false e)
    like false true a c e q = absurd (true≢false (sym e))
    like false false a c e q = q

    both : (w : Bool) (a : ℕ) → cond w a a ≡ a
    both true a = refl
    both false a = refl

    counted : (v w : Bool) (l : List Sorted) → exact y t ≡ v → many y (cond w (t ∷ l) l) ≡ cond w (one_if v (many y l)) (many y l)
    counted v true l e = ap (λ z. one_if z (many y l)) e
    counted v false l e = refl

    go : (v : Bool) → exact y t ≡ v → (w : Bool) → p t ≡ w → many y (filter p ts) ≡ cond (p y) (many y ts) 0 → many y (cond w (t ∷ filter p ts) (filter p ts)) ≡ cond (p y) (one_if v (many y ts)) 0
    go true e w q ih = counted true w (filter p ts) e ∙ like (p y) w (many y (filter p ts)) (many y ts) (ap p (exact_same y t e) ∙ q) ih
    go false e w q ih = counted false w (filter p ts) e ∙ both w (many y (filter p ts)) ∙ ih

-- ---- what the inputs leave
tables_all : (ts : List Sorted) → without_tables ts ts ≡ Some []
tables_all [] = refl
tables_all (t ∷ ts) = rw (exact_itself t) (tables_all ts)

pub inputs_leave : InputsLeave
inputs_leave Minor s = rw (runs_there s.runs) refl
inputs_leave Full s = rw (runs_there s.runs) (ap (option_map (λ tables. record { runs = []; tables = tables })) (tables_all s.tables))
inputs_leave Partial s = ap (option_map (λ tables. record { runs = s.runs; tables = tables })) (go (plan_of s.tables) refl)
  where
    counts : (k : ℕ) → plan_of s.tables ≡ Some k → (y : Sorted) → many y (take k (by_size s.tables)) ≡ cond (nat_le y.size (limit_of k s.tables)) (many y s.tables) 0
    counts k e y =
        ap (many y) (sym (taken_keeps s.tables k e))
        ∙ many_filter (λ (t : Sorted). nat_le t.size (limit_of k s.tables)) y (by_size s.tables)
        ∙ ap (λ n. cond (nat_le y.size (limit_of k s.tables)) n 0) (many_sorted y s.tables)

    go : (o : Option ℕ) → plan_of s.tables ≡ o → without_tables (taken o (by_size s.tables)) s.tables ≡ Some (larger_than o s.tables)
    go None e = refl
    go (Some k) e = exactly_left (λ (t : Sorted). nat_le t.size (limit_of k s.tables)) (take k (by_size s.tables)) s.tables (counts k e)

-- what is captured is found
pub captures_leave : (number : ℕ) (kind : Compaction) (floor : ℤ) (n : ℕ) (t : Tablet) (m : Merge) → capture number kind floor n t ≡ Some m → left_by m.inputs (frozen t).sources ≡ Some (spared kind (frozen t).sources)
captures_leave number kind floor n t m e = go (count_of (inputs_of kind (frozen t).sources) == 0) e
  where
    go : (v : Bool) → cond v None (Some (record { tablet = t.number; number = number; kind = kind; inputs = inputs_of kind (frozen t).sources; floor = floor; versions = n })) ≡ Some m → left_by m.inputs (frozen t).sources ≡ Some (spared kind (frozen t).sources)
    go true q = absurd (cc)
    go false q = subst (λ (x : Merge). left_by x.inputs (frozen t).sources ≡ Some (spared kind (frozen t).sources)) (some_is _ m q) (inputs_leave kind (frozen t).sources)
