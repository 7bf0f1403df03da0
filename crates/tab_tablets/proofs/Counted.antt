-- Counts and end rows of some tablets, and of one more.
use Rattle.std.proofs.Common.{◌≡◌, ℕ, ◌+◌, ◌<◌, List, [], ◌∷◌, ◌++◌, sym, ◌∙◌, ap, length, take, get_or, arith, append-nil, zero-add}
use Rattle.std.specs.Prelude.{Some, None, map, sum, min}
use Rattle.std.specs.List.{cons_option}
use Rattle.std.proofs.lemmas.List.{take_more, map-append, length-append}
use Rattle.std.proofs.lemmas.List.Elements.{filter_map-append}
use Rattle.std.proofs.lemmas.List.Sums.{sum_by-append}
use Rattle.tab_iter.specs.Bags.{flat}
use Rattle.tab_version.specs.Sources.{count_of}
use Rattle.tab_tablet.specs.Tablets.{Tablet, records_in}
use Rattle.tab_tablet.proofs.Gathered.{flat_more}
use Rattle.tab_tablets.specs.ByRow.{records_of_all, ends_of}
use Rattle.tab_tablets.specs.Places.{ended}

-- a count that was cut off, and more
pub capped : (a b : ℕ) → min (min a 18446744073709551615 + min b 18446744073709551615) 18446744073709551615 ≡ min (a + b) 18446744073709551615
capped a b = omega arith

next : (ts : List Tablet) (i : ℕ) (t : Tablet) → i < length ts → t ≡ get_or ts i t → take (i + 1) ts ≡ take i ts ++ t ∷ []
next ts i t lt is = take_more ts i t lt ∙ ap (λ x. take i ts ++ x ∷ []) (sym is)

abbrev pub sources_of : Tablet → ℕ
sources_of t = count_of t.sources

pub sources_more : (ts : List Tablet) (t : Tablet) → sum (map sources_of (ts ++ t ∷ [])) ≡ sum (map sources_of ts) + sources_of t
sources_more ts t = ap sum (map-append sources_of ts (t ∷ [])) ∙ sum_by-append (λ n. n) (map sources_of ts) (sources_of t ∷ []) ∙ ap (λ n. sum (map sources_of ts) + n) (zero-add (sources_of t))

pub records_more : (ts : List Tablet) (t : Tablet) → length (records_of_all (ts ++ t ∷ [])) ≡ length (records_of_all ts) + length (records_in t)
records_more ts t = ap (λ l. length (flat l)) (map-append records_in ts (t ∷ [])) ∙ ap length (flat_more (map records_in ts) (records_in t)) ∙ length-append (records_of_all ts) (records_in t)

-- of the tablet that is asked the end row is left out
pub sources_next : (ts : List Tablet) (i : ℕ) (t bare : Tablet) → i < length ts → t ≡ get_or ts i t → ended t.end bare ≡ t → sum (map sources_of (take (i + 1) ts)) ≡ sum (map sources_of (take i ts)) + sources_of bare
sources_next ts i t bare lt is same = ap (λ l. sum (map sources_of l)) (next ts i t lt is) ∙ sources_more (take i ts) t ∙ ap (λ (x : Tablet). sum (map sources_of (take i ts)) + sources_of x) (sym same)

pub records_next : (ts : List Tablet) (i : ℕ) (t bare : Tablet) → i < length ts → t ≡ get_or ts i t → ended t.end bare ≡ t → length (records_of_all (take (i + 1) ts)) ≡ length (records_of_all (take i ts)) + length (records_in bare)
records_next ts i t bare lt is same = ap (λ l. length (records_of_all l)) (next ts i t lt is) ∙ records_more (take i ts) t ∙ ap (λ (x : Tablet). length (records_of_all (take i ts)) + length (records_in x)) (sym same)

-- ---- end rows
pub ends_next : (ts : List Tablet) (i : ℕ) (t : Tablet) (end : List ℕ) → i < length ts → t ≡ get_or ts i t → t.end ≡ Some end → ends_of (take (i + 1) ts) ≡ ends_of (take i ts) ++ end ∷ []
ends_next ts i t end lt is e = ap ends_of (next ts i t lt is) ∙ filter_map-append (λ (x : Tablet). x.end) (take i ts) (t ∷ []) ∙ ap (λ o. ends_of (take i ts) ++ cons_option o []) e

pub no_more_ends : (ts : List Tablet) (t : Tablet) → t.end ≡ None → ends_of (ts ++ t ∷ []) ≡ ends_of ts
no_more_ends ts t e = filter_map-append (λ (x : Tablet). x.end) ts (t ∷ []) ∙ ap (λ o. ends_of ts ++ cons_option o []) e ∙ append-nil (ends_of ts)
