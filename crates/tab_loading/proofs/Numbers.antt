-- The tablets of tables that are made of an image have numbers of their own, as long as there are numbers.
use Rattle.std.proofs.Common.{◌≡◌, ◌⊎◌, inl, inr, ℕ, ◌+◌, ◌≤◌, ◌<◌, List, [], ◌∷◌, ◌++◌, Bool, true, false, cond, ◌==◌, refl, sym, ◌∙◌, ap, length, arith}
use Rattle.std.specs.Prelude.{Option, Some, None, find, map, bytes_eq}
use Rattle.std.specs.List.{fold}
use Rattle.std.proofs.lemmas.List.{length-append, length-map}
use mathlib.Core.Bool.{true≢false}
use Rattle.tab_key.specs.Records.{Record}
use Rattle.tab_cells.proofs.Lists.{by_bool}
use Rattle.tab_store.specs.Tablets.{Tablet, next_number}
use Rattle.tab_store.specs.Restored.{tabled_for, restored}
use Rattle.tab_store.specs.Stores.{TableContents, tablets_found}
use Rattle.tab_store.specs.Numbers.{has_number, NumbersDiffer, AreNumbered}
use Rattle.tab_store.proofs.Numbered.{or_true}
use Rattle.tab_tablets.proofs.Parted.{nat_same}
use Rattle.tab_image.specs.declared.table.ImageTable.{ImageTable}
use Rattle.tab_loading.specs.Tables.{number_behind, numbered_from, held_table_of}
use Rattle.tab_loading.proofs.Found.{same_by}

-- ---- the tablets of one table
-- a number of so many from this one on
record IsAmong (k first many : ℕ) : Type 0 where
  least : first ≤ k
  below : k < first + many

module _ (ends : List (List ℕ)) (us : List Record) where
  among : (es : List (Option (List ℕ))) (n k : ℕ) → n + length es < 18446744073709551615 → has_number k (tabled_for ends us n es) ≡ true → IsAmong k n (length es)
  among [] n k few h = absurd (true≢false (sym h))
  among (e ∷ es) n k few h = go (or_true (n == k) (has_number k (tabled_for ends us (next_number n) es)) h) (among es (next_number n) k (omega (arith, few)))
    where
      go : ((n == k) ≡ true) ⊎ (has_number k (tabled_for ends us (next_number n) es) ≡ true) → (has_number k (tabled_for ends us (next_number n) es) ≡ true → IsAmong k (next_number n) (length es)) → IsAmong k n (length (e ∷ es))
      go (inl q) ih = let is : n ≡ k = nat_same n k q in record { least = omega (arith, is); below = omega (arith, is) }
      go (inr q) ih = let a = ih q in let low = a.least in let high = a.below in record { least = omega (arith, low, few); below = omega (arith, high, few) }

  differ : (es : List (Option (List ℕ))) (n : ℕ) → n + length es < 18446744073709551615 → NumbersDiffer (tabled_for ends us n es)
  differ [] n few = tt
  differ (e ∷ es) n few = (
    by_bool (has_number n (tabled_for ends us (next_number n) es)) (λ h. let low = (among es (next_number n) n (omega (arith, few)) h).least in absurd (omega (arith, low, few))) (λ f. f),
    differ es (next_number n) (omega (arith, few)),
  )

-- a tablet for each end row, and the last one
all_ends : (ends : List (List ℕ)) → length (map Some ends ++ None ∷ []) ≡ length ends + 1
all_ends ends = length-append (map Some ends) (None ∷ []) ∙ ap (λ n. n + 1) (length-map ends Some)

module _ (t : ImageTable) (n : ℕ) (few : number_behind n t < 18446744073709551615) where
  its_numbers : (k : ℕ) → has_number k (restored n t.head.ends t.records) ≡ true → IsAmong k n (length t.head.ends + 1)
  its_numbers k h =
      let count = all_ends t.head.ends in
      let a = among t.head.ends t.records (map Some t.head.ends ++ None ∷ []) n k (omega (arith, few, count)) h in
      let low = a.least in let high = a.below in
      record { least = low; below = omega (arith, high, count) }

  its_differ : NumbersDiffer (restored n t.head.ends t.records)
  its_differ = let count = all_ends t.head.ends in differ t.head.ends t.records (map Some t.head.ends ++ None ∷ []) n (omega (arith, few, count))

-- ---- all tables
-- the number behind them, which doesn't fall
abbrev behind : ℕ → List ImageTable → ℕ
behind n ts = fold number_behind n ts

grows : (ts : List ImageTable) (n : ℕ) → behind n ts < 18446744073709551615 → n ≤ behind n ts
grows [] n few = omega arith
grows (t ∷ ts) n few = let le = grows ts (number_behind n t) few in omega (arith, le, few)

few_first : (t : ImageTable) (ts : List ImageTable) (n : ℕ) → behind n (t ∷ ts) < 18446744073709551615 → number_behind n t < 18446744073709551615
few_first t ts n few = let le = grows ts (number_behind n t) few in omega (arith, le, few)

-- those of the table of this name
abbrev of_name : ℕ → List ImageTable → List ℕ → List Tablet
of_name n ts q = tablets_found (find (λ (t : TableContents). bytes_eq t.name q) (map held_table_of (numbered_from n ts)))

-- a number of a tablet between these two
record IsBetween (k low high : ℕ) : Type 0 where
  least : low ≤ k
  below : k < high

between : (ts : List ImageTable) (n : ℕ) → behind n ts < 18446744073709551615 → (q : List ℕ) (k : ℕ) → has_number k (of_name n ts q) ≡ true → IsBetween k n (behind n ts)
between [] n few q k h = absurd (true≢false (sym h))
between (t ∷ ts) n few q k h = go (bytes_eq t.head.name q) h (between ts (number_behind n t) few q k)
  where
    first : number_behind n t < 18446744073709551615
    first = few_first t ts n few

    go : (v : Bool) → has_number k (tablets_found (cond v (Some (held_table_of (record { number = n; table = t }))) (find (λ (x : TableContents). bytes_eq x.name q) (map held_table_of (numbered_from (number_behind n t) ts))))) ≡ true
        → (has_number k (of_name (number_behind n t) ts q) ≡ true → IsBetween k (number_behind n t) (behind (number_behind n t) ts)) → IsBetween k n (behind n (t ∷ ts))
    go true e ih =
        let a = its_numbers t n first k e in let low = a.least in let high = a.below in let le = grows ts (number_behind n t) few in
        record { least = low; below = omega (arith, high, le, first) }
    go false e ih = let b = ih e in let low = b.least in let high = b.below in record { least = omega (arith, low, first); below = high }

each_differs : (ts : List ImageTable) (n : ℕ) → behind n ts < 18446744073709551615 → (q : List ℕ) → NumbersDiffer (of_name n ts q)
each_differs [] n few q = tt
each_differs (t ∷ ts) n few q = go (bytes_eq t.head.name q) (each_differs ts (number_behind n t) few q)
  where
    go : (v : Bool) → NumbersDiffer (of_name (number_behind n t) ts q)
        → NumbersDiffer (tablets_found (cond v (Some (held_table_of (record { number = n; table = t }))) (find (λ (x : TableContents). bytes_eq x.name q) (map held_table_of (numbered_from (number_behind n t) ts)))))
    go true ih = its_differ t n (few_first t ts n few)
    go false ih = ih

apart : (ts : List ImageTable) (n : ℕ) → behind n ts < 18446744073709551615 → (q r : List ℕ) (k : ℕ) → has_number k (of_name n ts q) ≡ true → has_number k (of_name n ts r) ≡ true → q ≡ r
apart [] n few q r k h g = absurd (true≢false (sym h))
apart (t ∷ ts) n few q r k h g = go (bytes_eq t.head.name q) (bytes_eq t.head.name r) refl refl h g (apart ts (number_behind n t) few q r k)
  where
    first : number_behind n t < 18446744073709551615
    first = few_first t ts n few

    -- a table's number is none of a later one
    never : (x : List ℕ) → has_number k (restored n t.head.ends t.records) ≡ true → has_number k (of_name (number_behind n t) ts x) ≡ true → ⊥
    never x a b = let high = (its_numbers t n first k a).below in let low = (between ts (number_behind n t) few x k b).least in omega (arith, high, low, first)

    of : Bool → List ℕ → List Tablet
    of v x = tablets_found (cond v (Some (held_table_of (record { number = n; table = t }))) (find (λ (y : TableContents). bytes_eq y.name x) (map held_table_of (numbered_from (number_behind n t) ts))))

    go : (v w : Bool) → bytes_eq t.head.name q ≡ v → bytes_eq t.head.name r ≡ w → has_number k (of v q) ≡ true → has_number k (of w r) ≡ true
        → (has_number k (of_name (number_behind n t) ts q) ≡ true → has_number k (of_name (number_behind n t) ts r) ≡ true → q ≡ r) → q ≡ r
    go true true e f a b ih = sym (same_by t.head.name q e) ∙ same_by t.head.name r f
    go true false e f a b ih = absurd (never r a b)
    go false true e f a b ih = absurd (never q b a)
    go false false e f a b ih = ih a b

pub made_numbered : (ts : List ImageTable) → fold number_behind 0 ts < 18446744073709551615 → AreNumbered (of_name 0 ts) (fold number_behind 0 ts)
made_numbered ts few = record { once = each_differs ts 0 few; apart = apart ts 0 few; below = λ q k h. (between ts 0 few q k h).below }
