-- A tablet that holds nothing: a scan reads nothing of it.
use Rattle.std.proofs.Common.{◌≡◌, ℕ, ◌≤◌, ◌<◌, ◌+◌, List, [], ◌∷◌, ◌++◌, true, sym, ◌∙◌, ap, length, arith, append-nil}
use Rattle.std.specs.Prelude.{None, map, min, filter, slice_range, ◌==◌}
use Rattle.std.proofs.lemmas.Bool.Decides.{Decides-eqb}
use Rattle.std.proofs.lemmas.List.{map-append, nil_from_length}
use Rattle.std.proofs.lemmas.List.Edits.{between_more}
use Rattle.tab_key.specs.Ranges.{is_in_range}
use Rattle.tab_key.specs.Records.{Record}
use Rattle.tab_key.specs.Sorted.{sorted}
use Rattle.tab_key.specs.declared.range.Bounds.{Bounds}
use Rattle.tab_iter.specs.Bags.{flat}
use Rattle.tab_version.specs.Sources.{Sources, Sorted, records_of, count_of}
use Rattle.tab_tablet.specs.Tablets.{Tablet, new_tablet, records_in}
use Rattle.tab_tablet.proofs.Compacted.{none_waits}
use Rattle.tab_tablet.proofs.Gathered.{flat_more}
use Rattle.tab_tablets.specs.Places.{ended, tablet_at, part_in}
use Rattle.tab_tablets.proofs.Idle.{idle_part}
use Rattle.tab_tablets.proofs.Ranges.{in_its_order, part_sorted}

-- without sources there are no records
sources_none : (s : Sources) (n : ℕ) → n ≡ min (count_of s) 18446744073709551615 → (n == 0) ≡ true → records_of s ≡ []
sources_none s n is e =
    let none : n ≡ 0 = (Decides-eqb n 0).0 e in
    let runs : s.runs ≡ [] = nil_from_length s.runs (omega (arith, is, none)) in
    let tables : s.tables ≡ [] = nil_from_length s.tables (omega (arith, is, none)) in
    λ i. flat (runs i) ++ flat (map (λ (t : Sorted). t.records) (tables i))

pub records_none : (t : Tablet) (n : ℕ) → (length t.active == 0) ≡ true → n ≡ min (count_of t.sources) 18446744073709551615 → (n == 0) ≡ true → records_in t ≡ []
records_none t n active is e = λ i. none_waits t active i ++ sources_none t.sources n is e i

-- what is read of the tablets is what was read
pub adds_none : (bounds : Bounds) (t bare : Tablet) (cs : List Sources) → ended t.end bare ≡ t → (length bare.active == 0) ≡ true → records_in bare ≡ []
    → flat (map in_its_order cs) ≡ flat (map in_its_order cs) ++ part_sorted bounds t
adds_none bounds t bare cs is e none =
    let part : part_in bounds t ≡ [] = sym (idle_part t bare is bounds e) ∙ ap (filter (λ (u : Record). is_in_range bounds u.key.row)) none in
    sym (append-nil (flat (map in_its_order cs))) ∙ ap (λ p. flat (map in_its_order cs) ++ sorted p) (sym part)

-- or that and what is read of one more
pub adds_one : (cs : List Sources) (c : Sources) (part : List Record) → in_its_order c ≡ part → flat (map in_its_order (cs ++ c ∷ [])) ≡ flat (map in_its_order cs) ++ part
adds_one cs c part is =
    ap flat (map-append in_its_order cs (c ∷ [])) ∙ flat_more (map in_its_order cs) (in_its_order c) ∙ ap (λ p. flat (map in_its_order cs) ++ p) is

-- so it goes on to the next place
pub reads_next : (bounds : Bounds) (ts : List Tablet) (from i : ℕ) → from ≤ i → i < length ts
    → flat (map (part_sorted bounds) (slice_range ts from (i + 1))) ≡ flat (map (part_sorted bounds) (slice_range ts from i)) ++ part_sorted bounds (tablet_at ts i)
reads_next bounds ts from i le lt =
    ap (λ l. flat (map (part_sorted bounds) l)) (between_more ts from i (new_tablet 0 None) le lt)
    ∙ ap flat (map-append (part_sorted bounds) (slice_range ts from i) (tablet_at ts i ∷ []))
    ∙ flat_more (map (part_sorted bounds) (slice_range ts from i)) (part_sorted bounds (tablet_at ts i))
