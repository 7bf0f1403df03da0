-- One clip that has all records.
use Rattle.std.proofs.Common.{◌≡◌, ◌++◌, List, [], ◌∷◌, refl, sym, ◌∙◌, ap, length, map, get_or, arith, append-nil}
use Rattle.tab_key.specs.Records.{Record}
use Rattle.tab_key.specs.Sorted.{sorted}
use Rattle.tab_cells.proofs.Rising.{sorted_rising}
use Rattle.tab_iter.specs.Bags.{flat}
use Rattle.tab_iter.specs.Lists.{IsRising}
use Rattle.tab_version.specs.Sources.{Sorted, Sources, records_of}

none_of : {A : Type 0} (xs : List A) → length xs ≡ 0 → xs ≡ []
none_of [] e = refl
none_of (x ∷ xs) e = absurd (omega (arith, e))

one_of_it : {A : Type 0} (xs : List A) (x : A) → length xs ≡ 1 → x ≡ get_or xs 0 x → xs ≡ x ∷ []
one_of_it [] x e is = absurd (omega (arith, e))
one_of_it (y ∷ ys) x e is = ap (λ z. z ∷ ys) (sym is) ∙ ap (λ zs. x ∷ zs) (none_of ys (omega (arith, e)))

-- the clip of a run, where there is no table
pub alone_run : (s : Sources) (run listed : List Record) → length s.runs ≡ 1 → length s.tables ≡ 0 → run ≡ get_or s.runs 0 run → listed ≡ run → IsRising listed → listed ≡ sorted (records_of s)
alone_run s run listed one none is e up =
    let all : records_of s ≡ listed
    = ap (λ (ts : List Sorted). flat s.runs ++ flat (map (λ (t : Sorted). t.records) ts)) (none_of s.tables none)
    ∙ append-nil (flat s.runs)
    ∙ ap flat (one_of_it s.runs run one is)
    ∙ append-nil run
    ∙ sym e in
    sym (ap sorted all ∙ sorted_rising listed up)

-- the clip of a table, where there is no run
pub alone_table : (s : Sources) (table : Sorted) (listed : List Record) → length s.runs ≡ 0 → length s.tables ≡ 1 → table ≡ get_or s.tables 0 table → listed ≡ table.records → IsRising listed → listed ≡ sorted (records_of s)
alone_table s table listed none one is e up =
    let all : records_of s ≡ listed
    = ap (λ rs. flat rs ++ flat (map (λ (t : Sorted). t.records) s.tables)) (none_of s.runs none)
    ∙ ap (λ (ts : List Sorted). flat (map (λ (t : Sorted). t.records) ts)) (one_of_it s.tables table one is)
    ∙ append-nil table.records
    ∙ sym e in
    sym (ap sorted all ∙ sorted_rising listed up)
