-- The rights on tables after a change.
use Rattle.std.proofs.Common.{◌≡◌, ℕ, Bool, true, false, cond, ◌&&◌, List, [], ◌∷◌, Some, None, refl, sym, ap, ◌∙◌, subst}
use Rattle.std.specs.Prelude.{Option, bytes_eq, is_some}
use Rattle.std.specs.Ordering.{is_eq}
use Rattle.std.specs.Map.Calls.{RetainsPairs}
use Rattle.tab_key.specs.Bytes.{bytes_cmp}
use Rattle.tab_policy.specs.declared.permission.TablePermission.{TablePermission}
use Rattle.tab_policy.specs.declared.sets.TablePermissions.{TablePermissions}
use Rattle.tab_policy.specs.Entries.{at_name, at_life, same_life}
use Rattle.tab_policy.specs.State.{some_contains, table_gives}
use Rattle.tab_policy.specs.Lives.{Weeds}
use Rattle.tab_policy.proofs.NameLemmas.{same_name, life_is}
use Rattle.tab_policy.proofs.EntryLemmas.{at_same, changed_is, read_same}

abbrev Rights : Type 0
Rights = List (ℕ × TablePermissions)

-- one more test that passes
cond_more : (a b held x : Bool) → cond (a && (b && true)) held x ≡ cond (a && b) held x
cond_more true true held x = refl
cond_more true false held x = refl
cond_more false b held x = refl

-- one more test that fails
cond_none : (a b held x : Bool) → cond (a && (b && false)) held x ≡ x
cond_none true true held x = refl
cond_none true false held x = refl
cond_none false b held x = refl

-- what is false stays so
pub false_either_way : (b : Bool) → cond b false false ≡ false
false_either_way true = refl
false_either_way false = refl

-- ---- rights of ended lives
-- what stands under a life once a closure has kept what stands under the living
pub weeded : {F X : Type 0} (T : F → ℕ → X → Bool → X → F → Type 0) (living : ℕ → Bool) (f : F)
    → ((k : ℕ) (v : X) (b : Bool) (w : X) (g : F) → T f k v b w g → (b ≡ living k) × (w ≡ v) × (g ≡ f))
    → (l : ℕ) (es kept : List (ℕ × X)) → RetainsPairs T f es kept → at_life l kept ≡ cond (living l) (at_life l es) None
weeded {X = X} T living f step l [] kept r = ap (λ (xs : List (ℕ × X)). at_life l xs) r ∙ neither (living l) None
  where
    neither : (b : Bool) → (o : Option X) → o ≡ cond b o o
    neither true o = refl
    neither false o = refl
weeded {X = X} T living f step l (e ∷ es) kept r =
    let turn = step e.0 e.1 r.0 r.1 r.2 r.4 in
    let rest = weeded T living f step l es r.3 (subst (λ g. RetainsPairs T g es r.3) turn.2 r.5) in
    let kept_is : kept ≡ cond (living e.0) ((e.0, e.1) ∷ r.3) r.3 = r.6 ∙ ap (λ (x : Bool × X). cond x.0 ((e.0, x.1) ∷ r.3) r.3) (λ i. (turn.0 i, turn.1 i)) in
    ap (λ (xs : List (ℕ × X)). at_life l xs) kept_is ∙ go (same_life l e.0) refl (living e.0) refl rest
  where
    go : (v : Bool) → same_life l e.0 ≡ v → (b : Bool) → living e.0 ≡ b → at_life l r.3 ≡ cond (living l) (at_life l es) None
        → at_life l (cond b ((e.0, e.1) ∷ r.3) r.3) ≡ cond (living l) (cond v (Some e.1) (at_life l es)) None
    go true same true lives rest =
        ap (λ x. cond x (Some e.1) (at_life l r.3)) same ∙ sym (ap (λ x. cond x (Some e.1) None) (ap living (life_is l e.0 same) ∙ lives))
    go true same false lives rest =
        let dead : living l ≡ false = ap living (life_is l e.0 same) ∙ lives in
        rest ∙ ap (λ x. cond x (at_life l es) None) dead ∙ sym (ap (λ x. cond x (Some e.1) None) dead)
    go false same true lives rest = ap (λ x. cond x (Some e.1) (at_life l r.3)) same ∙ rest
    go false same false lives rest = rest

-- so only rights of ended lives are gone
pub weeds_so : (living : ℕ → Bool) (old new : Rights) → ((l : ℕ) → at_life l new ≡ cond (living l) (at_life l old) None) → Weeds living old new
weeds_so living old new h = record {
  same = λ l lives. h l ∙ ap (λ b. cond b (at_life l old) None) lives;
  none = λ l p none. ap (λ o. some_contains o p) (h l) ∙ go (living l) l p none;
}
  where
    go : (b : Bool) (l : ℕ) (p : TablePermission) → some_contains (at_life l old) p ≡ false → some_contains (cond b (at_life l old) None) p ≡ false
    go true l p none = none
    go false l p none = refl

-- where nothing stood nothing is left
pub none_left : {X : Type 0} (b : Bool) {o : Option X} → o ≡ None → cond b o None ≡ None
none_left true none = none
none_left false none = refl

-- ---- the rights on all tables
-- a write through a borrow of a table's rights leaves the same tables
pub same_tables : {X : Type 0} (n q : List ℕ) (old new : List (List ℕ × X)) (before written : X) → at_name n old ≡ Some before
    → at_name q new ≡ cond (is_eq (bytes_cmp n q)) (Some written) (at_name q old)
    → is_some (at_name q new) ≡ is_some (at_name q old)
same_tables n q old new before written had after =
    ap is_some (changed_is n q old new before written (λ _. written) had refl after) ∙ read_same is_some (λ _. written) n q old (λ x. refl)

-- the rights on all tables once those on one were written
pub written_rights : (table t : List ℕ) (old new : List (List ℕ × Rights)) (before written : Rights) (l : ℕ) (p : TablePermission) (a b held : Bool)
    → at_name table old ≡ Some before
    → at_name t new ≡ cond (is_eq (bytes_cmp table t)) (Some written) (at_name t old)
    → some_contains (at_life l written) p ≡ cond (a && b) held (some_contains (at_life l before) p)
    → table_gives (at_name t new) (Some l) p ≡ cond (a && (b && bytes_eq table t)) held (table_gives (at_name t old) (Some l) p)
written_rights table t old new before written l p a b held had after is =
    ap (λ o. table_gives o (Some l) p) (after ∙ ap (λ x. cond x (Some written) (at_name t old)) (same_name table t))
    ∙ elim (bytes_eq table t) as (λ x. bytes_eq table t ≡ x → table_gives (cond x (Some written) (at_name t old)) (Some l) p ≡ cond (a && (b && x)) held (table_gives (at_name t old) (Some l) p)) [
      | true ↦ λ (same : bytes_eq table t ≡ true).
          is ∙ sym (ap (λ o. cond (a && (b && true)) held (table_gives o (Some l) p)) (at_same table t old same ∙ had) ∙ cond_more a b held (some_contains (at_life l before) p))
      | false ↦ λ same. sym (cond_none a b held (table_gives (at_name t old) (Some l) p))
    ] refl

-- who has no right has none once those on one table were written
pub written_bare : (table t : List ℕ) (old new : List (List ℕ × Rights)) (before written : Rights) (l : ℕ) (p : TablePermission)
    → at_name table old ≡ Some before
    → at_name t new ≡ cond (is_eq (bytes_cmp table t)) (Some written) (at_name t old)
    → (some_contains (at_life l before) p ≡ false → some_contains (at_life l written) p ≡ false)
    → table_gives (at_name t old) (Some l) p ≡ false → table_gives (at_name t new) (Some l) p ≡ false
written_bare table t old new before written l p had after is none =
    ap (λ o. table_gives o (Some l) p) (after ∙ ap (λ x. cond x (Some written) (at_name t old)) (same_name table t))
    ∙ elim (bytes_eq table t) as (λ x. bytes_eq table t ≡ x → table_gives (cond x (Some written) (at_name t old)) (Some l) p ≡ false) [
      | true ↦ λ (same : bytes_eq table t ≡ true).
          is (sym (ap (λ o. table_gives o (Some l) p) (at_same table t old same ∙ had)) ∙ none)
      | false ↦ λ same. none
    ] refl
