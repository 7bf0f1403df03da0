-- How many records some lists hold and how large some tables are, up to the greatest u64.
use Rattle.std.proofs.Common.{◌≡◌, ℕ, ◌<◌, ◌+◌, List, [], ◌∷◌, ◌++◌, sym, ◌∙◌, ap, length, take, get_or, arith}
use Rattle.std.specs.Prelude.{map, min, sum}
use Rattle.std.proofs.lemmas.List.{take_more, length-append, map-append}
use Rattle.std.proofs.lemmas.List.Sums.{sum_by_push}
use Rattle.tab_key.specs.Records.{Record}
use Rattle.tab_iter.specs.Bags.{flat}
use Rattle.tab_version.specs.Sources.{Sorted}
use Rattle.tab_tablet.proofs.Gathered.{flat_more}
use Rattle.tab_tablet.proofs.Clipped.{held_in, held_next}

-- a count that was cut off, and more
pub capped : (a b : ℕ) → min (min a 18446744073709551615 + b) 18446744073709551615 ≡ min (a + b) 18446744073709551615
capped a b = omega arith

-- the records of the first runs, and of the next
pub runs_next : (runs : List (List Record)) (i : ℕ) (run : List Record) → i < length runs → run ≡ get_or runs i run → length (flat (take (i + 1) runs)) ≡ length (flat (take i runs)) + length run
runs_next runs i run lt is = ap (λ l. length (flat l)) (take_more runs i run lt ∙ ap (λ x. take i runs ++ x ∷ []) (sym is)) ∙ ap length (flat_more (take i runs) run) ∙ length-append (flat (take i runs)) run

-- the records of the first tables, and of the next
pub tables_next : (tables : List Sorted) (i : ℕ) (table : Sorted) → i < length tables → table ≡ get_or tables i table → length (held_in (take (i + 1) tables)) ≡ length (held_in (take i tables)) + length table.records
tables_next tables i table lt is = ap length (held_next tables i table lt is) ∙ length-append (held_in (take i tables)) table.records

-- the sizes of the first tables, and of the next
pub sizes_next : (tables : List Sorted) (i : ℕ) (table : Sorted) → i < length tables → table ≡ get_or tables i table → sum (map (λ (t : Sorted). t.size) (take (i + 1) tables)) ≡ sum (map (λ (t : Sorted). t.size) (take i tables)) + table.size
sizes_next tables i table lt is =
    ap (λ l. sum (map (λ (t : Sorted). t.size) l)) (take_more tables i table lt ∙ ap (λ x. take i tables ++ x ∷ []) (sym is))
    ∙ ap sum (map-append (λ (t : Sorted). t.size) (take i tables) (table ∷ []))
    ∙ sum_by_push (λ x. x) (map (λ (t : Sorted). t.size) (take i tables)) table.size
