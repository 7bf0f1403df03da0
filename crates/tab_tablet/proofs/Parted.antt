-- What is left of sources when inputs are taken out by their contents: together they are what there was.
use Rattle.std.proofs.Common.{◌≡◌, ℕ, List, [], ◌∷◌, ◌++◌, Bool, true, false, cond, ◌&&◌, refl, sym, ◌∙◌, ap, subst, append_assoc, arith}
use Rattle.std.specs.Prelude.{ℤ, map, Option, Some, None, option_map, option_and_then, unwrap_or, bytes_eq, ◌==◌}
use Rattle.std.specs.List.Sorted.{IsPermutation}
use Rattle.std.specs.Cmp.{first_so, second_so}
use Rattle.std.specs.Cmp.Lexicographic.{bytes_decides}
use Rattle.std.specs.Ordering.{int_cmp, int_eq}
use Rattle.std.specs.declared.cmp.Ordering.TheVariants.{Equal}
use Rattle.std.proofs.lemmas.Bool.Decides.{nat_tests}
use Rattle.std.proofs.lemmas.Int.{ints}
use Rattle.std.proofs.lemmas.List.Sorted.{IsPermutation-refl, IsPermutation-trans, IsPermutation-append, IsPermutation-append_comm, IsPermutation-append_left, IsPermutation-append_right}
use Rattle.std.proofs.lemmas.List.{map-id}
use mathlib.Core.Bool.{true≢false}
use Rattle.tab_key.specs.Records.{Key, Record}
use Rattle.tab_key.specs.Order.{kind_rank, key_cmp}
use Rattle.tab_key.specs.Same.{same_record}
use Rattle.tab_key.specs.Kept.{same_column}
use Rattle.tab_key.proofs.Ties.{kinds_tied, keys_tied}
use Rattle.tab_iter.specs.Bags.{flat}
use Rattle.tab_iter.proofs.ColumnLaws.{same_equal}
use Rattle.tab_version.specs.Sources.{Sorted, Sources, records_of, same_lists, same_contents, same_table, without, or_else, without_runs, without_tables, left_by}

-- ---- equal contents are equal
pub nat_same : (a b : ℕ) → (a == b) ≡ true → a ≡ b
nat_same a b e = grind (arith, nat_tests)

int_tied : (x y : ℤ) → int_eq x y ≡ true → int_cmp y x ≡ Equal
int_tied x y e = grind (arith, ints)

-- one column and one timestamp are one key
keys_same : (a b : Key) → same_column a b ≡ true → int_eq a.timestamp b.timestamp ≡ true → a ≡ b
unfolding key_cmp
keys_same a b c e = keys_tied a b (rw (same_equal a b c) (int_tied a.timestamp b.timestamp e))

pub record_same : (a b : Record) → same_record a b ≡ true → a ≡ b
unfolding same_record
record_same a b e =
    let e1 = first_so _ (a.idx == b.idx) e in
    let e2 = first_so _ (a.seq == b.seq) e1 in
    let e3 = first_so _ (bytes_eq a.value b.value) e2 in
    let e4 = first_so _ (kind_rank a.kind == kind_rank b.kind) e3 in
    let idx : a.idx ≡ b.idx = nat_same a.idx b.idx (second_so _ (a.idx == b.idx) e) in
    let seq : a.seq ≡ b.seq = nat_same a.seq b.seq (second_so _ (a.seq == b.seq) e1) in
    let value : a.value ≡ b.value = (bytes_decides a.value b.value).0 (second_so _ (bytes_eq a.value b.value) e2) in
    let kind : a.kind ≡ b.kind = kinds_tied a.kind b.kind (nat_same _ _ (second_so _ (kind_rank a.kind == kind_rank b.kind) e3)) in
    let key : a.key ≡ b.key = keys_same a.key b.key (first_so (same_column a.key b.key) (int_eq a.key.timestamp b.key.timestamp) e4) (second_so (same_column a.key b.key) (int_eq a.key.timestamp b.key.timestamp) e4) in
    λ i. record { key = key i; kind = kind i; value = value i; seq = seq i; idx = idx i }

lists_same : {X : Type 0} (same : X → X → Bool) → ((x y : X) → same x y ≡ true → x ≡ y) → (xs ys : List X) → same_lists same xs ys ≡ true → xs ≡ ys
lists_same same f [] [] e = refl
lists_same same f [] (y ∷ ys) e = absurd (true≢false (sym e))
lists_same same f (x ∷ xs) [] e = absurd (true≢false (sym e))
lists_same same f (x ∷ xs) (y ∷ ys) e = λ i. f x y (first_so (same x y) (same_lists same xs ys) e) i ∷ lists_same same f xs ys (second_so (same x y) (same_lists same xs ys) e) i

pub contents_same : (xs ys : List Record) → same_contents xs ys ≡ true → xs ≡ ys
unfolding same_contents
contents_same xs ys e = lists_same same_record record_same xs ys e

pub runs_same : (xs ys : List (List Record)) → same_lists same_contents xs ys ≡ true → xs ≡ ys
runs_same xs ys e = lists_same same_contents contents_same xs ys e

-- the records of tables
abbrev pub held_of : Sorted → List Record
held_of t = t.records

pub tables_same : (xs ys : List Sorted) → same_lists same_table xs ys ≡ true → map held_of xs ≡ map held_of ys
tables_same [] [] e = refl
tables_same [] (y ∷ ys) e = absurd (true≢false (sym e))
tables_same (x ∷ xs) [] e = absurd (true≢false (sym e))
tables_same (x ∷ xs) (y ∷ ys) e = λ i. contents_same x.records y.records (first_so (same_table x y) (same_lists same_table xs ys) e) i ∷ tables_same xs ys (second_so (same_table x y) (same_lists same_table xs ys) e) i

-- ---- one source taken out
pub some_is : {X : Type 0} (x y : X) → Some x ≡ Some y → x ≡ y
some_is x y e = ap (λ o. unwrap_or o x) e

-- ---- permutations
pub swapped : (a b c : List Record) → IsPermutation (a ++ (b ++ c)) (b ++ (a ++ c))
swapped a b c = subst (λ l. IsPermutation l (b ++ (a ++ c))) (append_assoc a b c) (subst (λ l. IsPermutation ((a ++ b) ++ c) l) (append_assoc b a c) (IsPermutation-append_left c (a ++ b) (b ++ a) (IsPermutation-append_comm a b)))

pub crossed : (a b c d : List Record) → IsPermutation ((a ++ b) ++ (c ++ d)) ((a ++ c) ++ (b ++ d))
crossed a b c d = subst (λ l. IsPermutation l ((a ++ c) ++ (b ++ d))) (sym (append_assoc a b (c ++ d))) (subst (λ l. IsPermutation (a ++ (b ++ (c ++ d))) l) (sym (append_assoc a c (b ++ d))) (IsPermutation-append_right a (b ++ (c ++ d)) (c ++ (b ++ d)) (swapped b c d)))

-- what is taken out and what is left are what there was
taken_out : {X : Type 0} (f : X → List Record) (p : X → Bool) (r : List Record) → ((x : X) → p x ≡ true → f x ≡ r) → (xs ys : List X) → without p xs ≡ Some ys → IsPermutation (flat (map f xs)) (r ++ flat (map f ys))
taken_out f p r is [] ys e = absurd (cc)
taken_out f p r is (x ∷ xs) ys e = go (p x) refl e (taken_out f p r is xs)
  where
    later : (o : Option (List _)) → without p xs ≡ o → option_map (λ zs. x ∷ zs) o ≡ Some ys → ((zs : List _) → without p xs ≡ Some zs → IsPermutation (flat (map f xs)) (r ++ flat (map f zs))) → IsPermutation (f x ++ flat (map f xs)) (r ++ flat (map f ys))
    later None q e ih = absurd (cc)
    later (Some zs) q e ih = subst (λ l. IsPermutation (f x ++ flat (map f xs)) (r ++ flat (map f l))) (some_is (x ∷ zs) ys e)
        (IsPermutation-trans (f x ++ flat (map f xs)) (f x ++ (r ++ flat (map f zs))) (r ++ (f x ++ flat (map f zs)))
        (IsPermutation-append_right (f x) (flat (map f xs)) (r ++ flat (map f zs)) (ih zs q))
        (swapped (f x) r (flat (map f zs))))

    go : (v : Bool) → p x ≡ v → cond v (Some xs) (option_map (λ zs. x ∷ zs) (without p xs)) ≡ Some ys → ((zs : List _) → without p xs ≡ Some zs → IsPermutation (flat (map f xs)) (r ++ flat (map f zs))) → IsPermutation (f x ++ flat (map f xs)) (r ++ flat (map f ys))
    go true t e ih = subst (λ l. IsPermutation (f x ++ flat (map f xs)) (r ++ flat (map f l))) (some_is xs ys e) (subst (λ h. IsPermutation (f x ++ flat (map f xs)) (h ++ flat (map f xs))) (is x t) (IsPermutation-refl (f x ++ flat (map f xs))))
    go false t e ih = later (without p xs) refl e ih

run_out : (x : List Record) (xs ys : List (List Record)) → without (same_contents x) xs ≡ Some ys → IsPermutation (flat xs) (x ++ flat ys)
run_out x xs ys e = subst (λ l. IsPermutation (flat l) (x ++ flat ys)) (map-id xs) (subst (λ l. IsPermutation (flat (map (λ z. z) xs)) (x ++ flat l)) (map-id ys) (taken_out (λ z. z) (same_contents x) x (λ z t. sym (contents_same x z t)) xs ys e))

table_out : (x : Sorted) (p : Sorted → Bool) → ((y : Sorted) → p y ≡ true → same_table x y ≡ true) → (xs ys : List Sorted) → without p xs ≡ Some ys → IsPermutation (flat (map held_of xs)) (x.records ++ flat (map held_of ys))
table_out x p f xs ys e = taken_out held_of p x.records (λ y t. sym (contents_same x.records y.records (f y t))) xs ys e

either_out : (x : Sorted) (xs ys : List Sorted) → or_else (without (λ y. same_table x y && x.size == y.size) xs) (without (same_table x) xs) ≡ Some ys → IsPermutation (flat (map held_of xs)) (x.records ++ flat (map held_of ys))
either_out x xs ys e = go (without (λ y. same_table x y && x.size == y.size) xs) refl e
  where
    go : (o : Option (List Sorted)) → without (λ y. same_table x y && x.size == y.size) xs ≡ o → or_else o (without (same_table x) xs) ≡ Some ys → IsPermutation (flat (map held_of xs)) (x.records ++ flat (map held_of ys))
    go (Some zs) q e = table_out x (λ y. same_table x y && x.size == y.size) (λ y t. first_so (same_table x y) (x.size == y.size) t) xs ys (q ∙ e)
    go None q e = table_out x (same_table x) (λ y t. t) xs ys e

-- ---- all of them
runs_out : (inputs runs left : List (List Record)) → without_runs inputs runs ≡ Some left → IsPermutation (flat runs) (flat inputs ++ flat left)
runs_out [] runs left e = subst (λ l. IsPermutation (flat runs) (flat l)) (some_is runs left e) (IsPermutation-refl (flat runs))
runs_out (x ∷ xs) runs left e = go (without (same_contents x) runs) refl e (λ ys. runs_out xs ys left)
  where
    go : (o : Option (List (List Record))) → without (same_contents x) runs ≡ o → option_and_then (without_runs xs) o ≡ Some left → ((ys : List (List Record)) → without_runs xs ys ≡ Some left → IsPermutation (flat ys) (flat xs ++ flat left)) → IsPermutation (flat runs) ((x ++ flat xs) ++ flat left)
    go None q e ih = absurd (cc)
    go (Some ys) q e ih = IsPermutation-trans (flat runs) (x ++ flat ys) ((x ++ flat xs) ++ flat left) (run_out x runs ys q)
        (subst (λ l. IsPermutation (x ++ flat ys) l) (sym (append_assoc x (flat xs) (flat left))) (IsPermutation-append_right x (flat ys) (flat xs ++ flat left) (ih ys e)))

tables_out : (inputs tables left : List Sorted) → without_tables inputs tables ≡ Some left → IsPermutation (flat (map held_of tables)) (flat (map held_of inputs) ++ flat (map held_of left))
tables_out [] tables left e = subst (λ l. IsPermutation (flat (map held_of tables)) (flat (map held_of l))) (some_is tables left e) (IsPermutation-refl (flat (map held_of tables)))
tables_out (x ∷ xs) tables left e = go (or_else (without (λ y. same_table x y && x.size == y.size) tables) (without (same_table x) tables)) refl e (λ ys. tables_out xs ys left)
  where
    go : (o : Option (List Sorted)) → or_else (without (λ y. same_table x y && x.size == y.size) tables) (without (same_table x) tables) ≡ o → option_and_then (without_tables xs) o ≡ Some left → ((ys : List Sorted) → without_tables xs ys ≡ Some left → IsPermutation (flat (map held_of ys)) (flat (map held_of xs) ++ flat (map held_of left))) → IsPermutation (flat (map held_of tables)) ((x.records ++ flat (map held_of xs)) ++ flat (map held_of left))
    go None q e ih = absurd (cc)
    go (Some ys) q e ih = IsPermutation-trans (flat (map held_of tables)) (x.records ++ flat (map held_of ys)) ((x.records ++ flat (map held_of xs)) ++ flat (map held_of left)) (either_out x tables ys q)
        (subst (λ l. IsPermutation (x.records ++ flat (map held_of ys)) l) (sym (append_assoc x.records (flat (map held_of xs)) (flat (map held_of left)))) (IsPermutation-append_right x.records (flat (map held_of ys)) (flat (map held_of xs) ++ flat (map held_of left)) (ih ys e)))

-- the inputs and what they leave hold the records that there were
pub left_out : (inputs s left : Sources) → left_by inputs s ≡ Some left → IsPermutation (records_of s) (records_of inputs ++ records_of left)
left_out inputs s left e = go (without_runs inputs.runs s.runs) refl e
  where
    both : (runs : List (List Record)) (tables : List Sorted) → without_runs inputs.runs s.runs ≡ Some runs → without_tables inputs.tables s.tables ≡ Some tables → IsPermutation (records_of s) (records_of inputs ++ records_of (record { runs = runs; tables = tables }))
    both runs tables p q = IsPermutation-trans (flat s.runs ++ flat (map held_of s.tables)) ((flat inputs.runs ++ flat runs) ++ (flat (map held_of inputs.tables) ++ flat (map held_of tables))) ((flat inputs.runs ++ flat (map held_of inputs.tables)) ++ (flat runs ++ flat (map held_of tables)))
        (IsPermutation-append (flat s.runs) (flat inputs.runs ++ flat runs) (flat (map held_of s.tables)) (flat (map held_of inputs.tables) ++ flat (map held_of tables)) (runs_out inputs.runs s.runs runs p) (tables_out inputs.tables s.tables tables q))
        (crossed (flat inputs.runs) (flat runs) (flat (map held_of inputs.tables)) (flat (map held_of tables)))

    rest : (runs : List (List Record)) → without_runs inputs.runs s.runs ≡ Some runs → (o : Option (List Sorted)) → without_tables inputs.tables s.tables ≡ o → option_map (λ tables. record { runs = runs; tables = tables }) o ≡ Some left → IsPermutation (records_of s) (records_of inputs ++ records_of left)
    rest runs p None q e = absurd (cc)
    rest runs p (Some tables) q e = subst (λ (l : Sources). IsPermutation (records_of s) (records_of inputs ++ records_of l)) (some_is (record { runs = runs; tables = tables }) left e) (both runs tables p q)

    go : (o : Option (List (List Record))) → without_runs inputs.runs s.runs ≡ o → option_and_then (λ runs. option_map (λ tables. record { runs = runs; tables = tables }) (without_tables inputs.tables s.tables)) o ≡ Some left → IsPermutation (records_of s) (records_of inputs ++ records_of left)
    go None q e = absurd (cc)
    go (Some runs) q e = rest runs q (without_tables inputs.tables s.tables) refl e
