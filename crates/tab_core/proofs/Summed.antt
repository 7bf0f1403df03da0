-- Counts of some tables, and of the tables behind them.
use Rattle.std.proofs.Common.{◌≡◌, ◌∙◌, ◌≤◌, ℕ, ◌+◌, List, [], ◌∷◌, sym, ap, zero-add, arith}
use Rattle.std.specs.Prelude.{min, sum_by}
use Rattle.std.proofs.lemmas.List.Sums.{sum_by-cons}
use Rattle.tab_history.specs.declared.counts.Counts.{Counts}
use Rattle.tab_store.specs.Stores.{TableContents, told_count, counts_of}
use Rattle.tab_core.specs.Totals.{total}

-- one of the counts of a table
abbrev pub count_in : (Counts → ℕ) → TableContents → ℕ
count_in one t = one (counts_of t.tablets)

-- what was summed so far, with what the tables left have
abbrev pub ahead : (Counts → ℕ) → ℕ → List TableContents → ℕ
ahead one sum ts = told_count (sum + sum_by (count_in one) ts)

capped : (a b c : ℕ) → min (min (a + b) 18446744073709551615 + c) 18446744073709551615 ≡ min (a + (b + c)) 18446744073709551615
capped a b c = omega arith

-- nothing was summed
pub none_summed : (one : Counts → ℕ) (left all : List TableContents) → left ≡ all → ahead one 0 left ≡ total one all
none_summed one left all e = ap (ahead one 0) e ∙ ap told_count (zero-add (sum_by (count_in one) all))

-- one more table was summed
pub one_more : (one : Counts → ℕ) (sum sums : ℕ) (t : TableContents) (ts all : List TableContents) → sums ≡ told_count (sum + count_in one t) → all ≡ t ∷ ts → ahead one sums ts ≡ ahead one sum all
one_more one sum sums t ts all e front =
    ap (λ n. ahead one n ts) e ∙ capped sum (count_in one t) (sum_by (count_in one) ts) ∙ ap (λ n. told_count (sum + n)) (sym (sum_by-cons (count_in one) t ts)) ∙ ap (ahead one sum) (sym front)

pub stays_told : (sum more sums : ℕ) → sums ≡ told_count (sum + more) → sums ≤ 18446744073709551615
stays_told sum more sums e = omega (arith, e)

-- none is left
pub all_summed : (one : Counts → ℕ) (sum : ℕ) (left : List TableContents) → sum ≤ 18446744073709551615 → left ≡ [] → sum ≡ ahead one sum left
all_summed one sum left le none = none_left ∙ ap (ahead one sum) (sym none)
  where
    none_left : sum ≡ ahead one sum []
    none_left = omega (arith, le)
