-- What is left where inputs are taken out is what a choice of them leaves.
use Rattle.std.proofs.Common.{◌≡◌, List, [], ◌∷◌, true, refl, sym, ◌∙◌, ap}
use Rattle.std.specs.Prelude.{Bool, ◌&&◌, ◌==◌, Option, Some, None, MatchOption, option_map, option_and_then, is_some}
use Rattle.std.specs.Cmp.{first_so}
use mathlib.Core.Bool.{true≢false}
use Rattle.tab_key.specs.Records.{Record}
use Rattle.tab_version.specs.Choices.{Leave, ChooseAllBut, LeftByChoice}
use Rattle.tab_version.specs.Sources.{Sorted, Sources, same_contents, same_table, without, or_else, without_runs, without_tables, left_by}
use Rattle.tab_version.proofs.Alike.{contents_itself}
use Rattle.tab_version.proofs.Chosen.{there_is, leaves, served}
use Rattle.tab_version.proofs.Equals.{contents_same}

-- ---- runs
run_taken : (x : List Record) (ys left : List (List Record)) → without (same_contents x) ys ≡ Some left → (p : List Record → Bool) × ((y : List Record) → p y ≡ true → same_contents x y ≡ true) × (without p ys ≡ Some left)
run_taken x ys left e = (same_contents x, (λ y t. t), e)

runs_leave : (inputs runs left : List (List Record)) → without_runs inputs runs ≡ Some left → Leave (λ x y. x ≡ y) inputs runs left
runs_leave = leaves (λ x y. x ≡ y) same_contents contents_same (λ x y z e. ap (same_contents z) e) contents_itself (λ x. without (same_contents x)) without_runs (λ ys. refl) (λ x xs ys. refl) run_taken (λ x ys t. t)

runs_served : (inputs runs left : List (List Record)) → Leave (λ x y. x ≡ y) inputs runs left → is_some (without_runs inputs runs) ≡ true
runs_served = served (λ x y. x ≡ y) same_contents contents_same (λ x y z e. ap (same_contents z) e) contents_itself (λ x. without (same_contents x)) without_runs (λ ys. refl) (λ x xs ys. refl) run_taken (λ x ys t. t)

-- ---- tables
abbrev table_out : Sorted → List Sorted → Option (List Sorted)
table_out x ys = or_else (without (λ y. same_table x y && x.size == y.size) ys) (without (same_table x) ys)

abbrev HoldSame : Sorted → Sorted → Type 0
HoldSame x y = x.records ≡ y.records

table_taken : (x : Sorted) (ys left : List Sorted) → table_out x ys ≡ Some left → (p : Sorted → Bool) × ((y : Sorted) → p y ≡ true → same_table x y ≡ true) × (without p ys ≡ Some left)
table_taken x ys left e = go (without (λ y. same_table x y && x.size == y.size) ys) refl e
  where
    go : (o : Option (List Sorted)) → without (λ y. same_table x y && x.size == y.size) ys ≡ o → or_else o (without (same_table x) ys) ≡ Some left → (p : Sorted → Bool) × ((y : Sorted) → p y ≡ true → same_table x y ≡ true) × (without p ys ≡ Some left)
    go (Some zs) q e = ((λ y. same_table x y && x.size == y.size), (λ y t. first_so (same_table x y) (x.size == y.size) t), q ∙ e)
    go None q e = (same_table x, (λ y t. t), e)

table_found : (x : Sorted) (ys : List Sorted) → is_some (without (same_table x) ys) ≡ true → is_some (table_out x ys) ≡ true
table_found x ys t = go (without (λ y. same_table x y && x.size == y.size) ys)
  where
    go : (o : Option (List Sorted)) → is_some (or_else o (without (same_table x) ys)) ≡ true
    go (Some zs) = refl
    go None = t

tables_leave : (inputs tables left : List Sorted) → without_tables inputs tables ≡ Some left → Leave HoldSame inputs tables left
tables_leave = leaves HoldSame same_table (λ x y t. contents_same x.records y.records t) (λ x y z e. ap (same_contents z.records) e) (λ x. contents_itself x.records) table_out without_tables (λ ys. refl) (λ x xs ys. refl) table_taken table_found

tables_served : (inputs tables left : List Sorted) → Leave HoldSame inputs tables left → is_some (without_tables inputs tables) ≡ true
tables_served = served HoldSame same_table (λ x y t. contents_same x.records y.records t) (λ x y z e. ap (same_contents z.records) e) (λ x. contents_itself x.records) table_out without_tables (λ ys. refl) (λ x xs ys. refl) table_taken table_found

-- ---- both
pub left_by_choice : LeftByChoice
left_by_choice inputs s = go (without_runs inputs.runs s.runs) refl (without_tables inputs.tables s.tables) refl
  where
    none : {Y : Type 0} (o : Option Y) → o ≡ None → is_some o ≡ true → ⊥
    none o e t = true≢false (sym t ∙ ap is_some e)

    go : (runs : Option (List (List Record))) → without_runs inputs.runs s.runs ≡ runs → (tables : Option (List Sorted)) → without_tables inputs.tables s.tables ≡ tables
        → MatchOption (option_and_then (λ rs. option_map (λ ts. record { runs = rs; tables = ts }) tables) runs) ((left : Sources) → ChooseAllBut inputs s left → ⊥) (λ left. ChooseAllBut inputs s left)
    go None e tables f = λ left h. none (without_runs inputs.runs s.runs) e (runs_served inputs.runs s.runs left.runs h.runs)
    go (Some rs) e None f = λ left h. none (without_tables inputs.tables s.tables) f (tables_served inputs.tables s.tables left.tables h.tables)
    go (Some rs) e (Some ts) f = record { runs = runs_leave inputs.runs s.runs rs e; tables = tables_leave inputs.tables s.tables ts f }
