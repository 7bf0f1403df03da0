-- Lists of records with the same contents are equal.
use Rattle.std.proofs.Common.{◌≡◌, ℕ, List, [], ◌∷◌, Bool, true, ◌&&◌, refl, sym, arith}
use Rattle.std.specs.Prelude.{ℤ, bytes_eq, ◌==◌}
use Rattle.std.specs.Cmp.{first_so, second_so}
use Rattle.std.specs.Cmp.Lexicographic.{bytes_decides}
use Rattle.std.specs.Ordering.{int_cmp, int_eq}
use Rattle.std.specs.declared.cmp.Ordering.TheVariants.{Equal}
use Rattle.std.proofs.lemmas.Bool.Decides.{nat_tests}
use Rattle.std.proofs.lemmas.Int.{ints}
use mathlib.Core.Bool.{true≢false}
use Rattle.tab_key.specs.Records.{Key, Record}
use Rattle.tab_key.specs.Order.{kind_rank, key_cmp}
use Rattle.tab_key.specs.Kept.{same_column}
use Rattle.tab_key.specs.Same.{same_record}
use Rattle.tab_key.proofs.Ties.{kinds_tied, keys_tied}
use Rattle.tab_iter.proofs.ColumnLaws.{same_equal}
use Rattle.tab_version.specs.Sources.{same_lists, same_contents}

nat_same : (a b : ℕ) → (a == b) ≡ true → a ≡ b
nat_same a b e = grind (arith, nat_tests)

int_tied : (x y : ℤ) → int_eq x y ≡ true → int_cmp y x ≡ Equal
int_tied x y e = grind (arith, ints)

-- one column and one timestamp are one key
keys_same : (a b : Key) → same_column a b ≡ true → int_eq a.timestamp b.timestamp ≡ true → a ≡ b
unfolding key_cmp
keys_same a b c e = keys_tied a b (rw (same_equal a b c) (int_tied a.timestamp b.timestamp e))

record_same : (a b : Record) → same_record a b ≡ true → a ≡ b
unfolding same_record
record_same a b e =
    let e1 = first_so _ (a.idx == b.idx) e in
    let e2 = first_so _ (a.seq == b.seq) e1 in
    let e3 = first_so _ (bytes_eq a.value b.value) e2 in
    let e4 = first_so _ (kind_rank a.kind == kind_rank b.kind) e3 in
    let idx : a.idx ≡ b.idx = nat_same a.idx b.idx (second_so _ (a.idx == b.idx) e) in
    let seq : a.seq ≡ b.seq = nat_same a.seq b.seq (second_so _ (a.seq == b.seq) e1) in
    let value : a.value ≡ b.value = (bytes_decides a.value b.value).0 (second_so _ (bytes_eq a.value b.value) e2) in
    let kind : a.kind ≡ b.kind = kinds_tied a.kind b.kind (nat_same _ _ (second_so _ (kind_rank a.kind == kind_rank b.kind) e3)) in
    let key : a.key ≡ b.key = keys_same a.key b.key (first_so (same_column a.key b.key) (int_eq a.key.timestamp b.key.timestamp) e4) (second_so (same_column a.key b.key) (int_eq a.key.timestamp b.key.timestamp) e4) in
    λ i. record { key = key i; kind = kind i; value = value i; seq = seq i; idx = idx i }

lists_same : {X : Type 0} (same : X → X → Bool) → ((x y : X) → same x y ≡ true → x ≡ y) → (xs ys : List X) → same_lists same xs ys ≡ true → xs ≡ ys
lists_same same f [] [] e = refl
lists_same same f [] (y ∷ ys) e = absurd (true≢false (sym e))
lists_same same f (x ∷ xs) [] e = absurd (true≢false (sym e))
lists_same same f (x ∷ xs) (y ∷ ys) e = λ i. f x y (first_so (same x y) (same_lists same xs ys) e) i ∷ lists_same same f xs ys (second_so (same x y) (same_lists same xs ys) e) i

pub contents_same : (xs ys : List Record) → same_contents xs ys ≡ true → xs ≡ ys
unfolding same_contents
contents_same xs ys e = lists_same same_record record_same xs ys e
