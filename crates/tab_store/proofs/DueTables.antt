-- Work that is due, and its target, table by table.
use Rattle.std.proofs.Common.{◌≡◌, ◌∙◌, ℕ, List, ◌∷◌, refl, sym, ap}
use Rattle.std.specs.Prelude.{Option, Some, None, find}
use Rattle.std.specs.List.{flat_map}
use Rattle.std.specs.Option.{option_map, option_or}
use Rattle.std.proofs.lemmas.List.Folds.{find-append}
use Rattle.tab_tablets.specs.Tablets.{Tablet}
use Rattle.tab_tablets.specs.TabletDue.{is_due}
use Rattle.tab_tablets.specs.Due.{first_due}
use Rattle.tab_tablets.specs.declared.DueKind.{DueKind}
use Rattle.tab_store.specs.Stores.{TableContents}
use Rattle.tab_store.specs.Due.{due_as}
use Rattle.tab_store.specs.declared.due.Due.{Due}

-- work of this kind on the tablet with this number, if there is one
abbrev on : DueKind → Option ℕ → Option Due
on kind o = option_map (λ number. record { kind = kind; tablet = number }) o

-- the first table is asked first
pub due_front : (kind : DueKind) (t : TableContents) (ts : List TableContents) (o : Option ℕ) → o ≡ first_due kind t.tablets → option_or (on kind o) (due_as kind ts) ≡ due_as kind (t ∷ ts)
due_front kind t ts o e = ap (λ x. option_or (on kind x) (due_as kind ts)) e ∙ go (find (is_due kind) t.tablets) ∙ ap (λ x. on kind (option_map (λ (y : Tablet). y.number) x)) (sym (find-append (is_due kind) t.tablets (flat_map (λ (u : TableContents). u.tablets) ts)))
  where
    go : (o : Option Tablet) → option_or (on kind (option_map (λ (x : Tablet). x.number) o)) (due_as kind ts) ≡ on kind (option_map (λ (x : Tablet). x.number) (option_or o (find (is_due kind) (flat_map (λ (u : TableContents). u.tablets) ts))))
    go None = refl
    go (Some x) = refl
