-- Tables by name, as the map has them and as definitions see them.
use Rattle.std.proofs.Common.{◌≡◌, ◌+◌, ◌-◌, ℕ, length, Bool, true, false, cond, List, [], ◌∷◌, refl, sym, ap, ◌∙◌, subst, arith, Option, Some}
use Rattle.std.specs.Prelude.{map, find, bytes_eq, is_some}
use Rattle.std.specs.Map.{keys_of}
use Rattle.std.specs.Option.{option_map}
use Rattle.std.specs.Ordering.{is_eq}
use Rattle.std.specs.List.Sorted.{IsStrictlySortedBy}
use Rattle.std.proofs.lemmas.List.{length-map}
use Rattle.std.proofs.lemmas.Slice.Eq.{bytes_eq-Decides}
use Rattle.tab_key.specs.Bytes.{bytes_cmp}
use Rattle.tab_policy.specs.Entries.{at_name}
use Rattle.tab_policy.proofs.NameLemmas.{same_name}
use Rattle.tab_store.specs.Stores.{TableContents, RiseByName}
use Rattle.tab_store.specs.Tables.{TableState, named_table, state_of, table_at}

bytes_sym : (a b : List ℕ) → bytes_eq a b ≡ bytes_eq b a
bytes_sym a b = elim (bytes_eq a b) as (λ v. bytes_eq a b ≡ v → v ≡ bytes_eq b a) [
  | true ↦ λ e. let p : a ≡ b = (bytes_eq-Decides a b).0 e in sym e ∙ (λ i. bytes_eq (p i) (sym p i))
  | false ↦ λ e. elim (bytes_eq b a) as (λ v. bytes_eq b a ≡ v → false ≡ v) [
    | true ↦ λ f. let q : b ≡ a = (bytes_eq-Decides b a).0 f in sym e ∙ (λ i. bytes_eq (sym q i) (q i)) ∙ f
    | false ↦ λ f. refl
  ] refl
] refl

-- the order of names calls the same those that are byte for byte the same
name_is : (a b : List ℕ) → bytes_eq a b ≡ is_eq (bytes_cmp b a)
name_is a b = bytes_sym a b ∙ sym (same_name b a)

-- the entries of the map
abbrev pub Entries : Type 0
Entries = List (List ℕ × TableState)

pub table_found : (es : Entries) (q : List ℕ) → table_at (map named_table es) q ≡ at_name q es
table_found [] q = refl
table_found (e ∷ es) q = ap (λ b. option_map state_of (cond b (Some (named_table e)) (find (λ (t : TableContents). bytes_eq t.name q) (map named_table es)))) (name_is e.0 q) ∙ go (is_eq (bytes_cmp q e.0)) (table_found es q)
  where
    go : (b : Bool) → table_at (map named_table es) q ≡ at_name q es → option_map state_of (cond b (Some (named_table e)) (find (λ (t : TableContents). bytes_eq t.name q) (map named_table es))) ≡ cond b (Some e.1) (at_name q es)
    go true ih = refl
    go false ih = ih

-- ---- what a call leaves
-- a table put in or taken away
pub table_renewed : (old new : Entries) (n : List ℕ) (o : Option TableState) → ((q : List ℕ) → at_name q new ≡ cond (bytes_eq n q) o (at_name q old))
    → (q : List ℕ) → table_at (map named_table new) q ≡ cond (bytes_eq n q) o (table_at (map named_table old) q)
table_renewed old new n o f q = table_found new q ∙ f q ∙ ap (λ x. cond (bytes_eq n q) o x) (sym (table_found old q))

-- ---- how many tables there are
there_is : (es : Entries) (q : List ℕ) → is_some (at_name q es) ≡ is_some (table_at (map named_table es) q)
there_is es q = ap is_some (sym (table_found es q))

pub count_kept : (old new : Entries) → length new ≡ length old → length (map named_table new) ≡ length (map named_table old)
count_kept old new e = length-map new named_table ∙ e ∙ sym (length-map old named_table)

pub count_put : (old new : Entries) (n : List ℕ) → length new ≡ cond (is_some (at_name n old)) (length old) (length old + 1)
    → length (map named_table new) ≡ cond (is_some (table_at (map named_table old) n)) (length (map named_table old)) (length (map named_table old) + 1)
count_put old new n e = length-map new named_table ∙ e ∙ (λ i. cond (there_is old n i) (sym (length-map old named_table) i) (sym (length-map old named_table) i + 1))

pub count_taken : (old new : Entries) (n : List ℕ) → length new ≡ cond (is_some (at_name n old)) (length old - 1) (length old)
    → length (map named_table new) ≡ cond (is_some (table_at (map named_table old) n)) (length (map named_table old) - 1) (length (map named_table old))
count_taken old new n e = length-map new named_table ∙ e ∙ (λ i. cond (there_is old n i) (sym (length-map old named_table) i - 1) (sym (length-map old named_table) i))

-- how many there are where one may have been put in
pub one_more : (b : Bool) (left had : ℕ) → left ≡ had + cond b 0 1 → left ≡ cond b had (had + 1)
one_more true left had e = omega (arith, e)
one_more false left had e = omega (arith, e)

-- how many are left where one may have been taken away
pub one_fewer : (b : Bool) (left had : ℕ) → left + cond b 1 0 ≡ had → left ≡ cond b (had - 1) had
one_fewer true left had e = omega (arith, e)
one_fewer false left had e = omega (arith, e)

-- ---- their names
names_read : (es : Entries) → map (λ (t : TableContents). t.name) (map named_table es) ≡ keys_of es
names_read [] = refl
names_read (e ∷ es) = ap (λ ns. e.0 ∷ ns) (names_read es)

-- the map's order is that of the names
pub rises : (es : Entries) → IsStrictlySortedBy bytes_cmp (keys_of es) → RiseByName (map named_table es)
rises es sorted = subst (IsStrictlySortedBy bytes_cmp) (sym (names_read es)) sorted
