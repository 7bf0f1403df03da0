-- Tables that are put one after the other are those that the image says.
use Rattle.std.proofs.Common.{◌≡◌, ℕ, cond, List, [], ◌∷◌, map, refl, sym, ap, ◌∙◌, subst}
use Rattle.std.specs.Prelude.{Option, Some, None, is_some, bytes_eq}
use Rattle.std.specs.Option.{option_map}
use Rattle.std.specs.List.{AllByRecursion, fold}
use Rattle.tab_label.specs.Sets.{IsRising, has}
use Rattle.tab_store.specs.Stores.{TableContents, RiseByName}
use Rattle.tab_store.specs.Tables.{TableState, state_of, table_at}
use Rattle.tab_image.specs.declared.table.ImageTable.{ImageTable}
use Rattle.tab_saving.proofs.OneList.{same_names}
use Rattle.tab_loading.specs.Tables.{NumberedTable, number_behind, numbered_from, table_state_of, held_table_of}
use Rattle.tab_loading.proofs.Found.{found_or, found, each_found, has_found, folds_found}
use Rattle.tab_loading.proofs.Policies.{table_name}

abbrev pub held_name : TableContents → List ℕ
held_name t = t.name

abbrev pub numbered_name : NumberedTable → List ℕ
numbered_name t = t.table.head.name

-- once the table was put, what is found under each name
abbrev pub placed : (List ℕ → Option TableState) → NumberedTable → List ℕ → Option TableState
placed f t q = cond (bytes_eq t.table.head.name q) (Some (table_state_of t)) (f q)

abbrev nothing : List ℕ → Option TableState
nothing q = None

-- all of them, one after the other
abbrev pub all_placed : List NumberedTable → List ℕ → Option TableState
all_placed ts = fold placed nothing ts

-- ---- tables with the same names, each found by its name, are the same
some_state : (s t : TableState) → (let x : Option TableState = Some s in x) ≡ Some t → s ≡ t
some_state s t e = ap (found_or (λ (x : TableState). x) s) e

first_or : List ℕ → List (List ℕ) → List ℕ
first_or d [] = d
first_or d (n ∷ ns) = n

behind : List (List ℕ) → List (List ℕ)
behind [] = []
behind (n ∷ ns) = ns

zipped : (f : List ℕ → Option TableState) (xs ys : List TableContents) → map held_name xs ≡ map held_name ys
    → AllByRecursion (λ (x : TableContents). f x.name ≡ Some (state_of x)) xs → AllByRecursion (λ (y : TableContents). f y.name ≡ Some (state_of y)) ys → xs ≡ ys
unfolding first_or behind
zipped f [] [] same a b = refl
zipped f [] (y ∷ ys) same a b = absurd (cc)
zipped f (x ∷ xs) [] same a b = absurd (cc)
zipped f (x ∷ xs) (y ∷ ys) same a b =
    let name : x.name ≡ y.name = ap (first_or x.name) same in
    let state : state_of x ≡ state_of y = some_state (state_of x) (state_of y) (sym a.0 ∙ ap f name ∙ b.0) in
    let rest : xs ≡ ys = zipped f xs ys (ap behind same) a.1 b.1 in
    λ i. record { name = name i; settings = (state i).settings; tablets = (state i).tablets } ∷ rest i

found_state : (made xs : List TableContents) → AllByRecursion (λ (x : TableContents). found held_name x.name made ≡ Some x) xs → AllByRecursion (λ (x : TableContents). table_at made x.name ≡ Some (state_of x)) xs
found_state made [] a = tt
found_state made (x ∷ xs) a = (ap (option_map state_of) a.0, found_state made xs a.1)

-- ---- the tables of an image
names_held : (ts : List NumberedTable) → map held_name (map held_table_of ts) ≡ map numbered_name ts
names_held [] = refl
names_held (t ∷ ts) = ap (λ ns. t.table.head.name ∷ ns) (names_held ts)

-- whatever their numbers
numbered_names : (number : ℕ) (ts : List ImageTable) → map numbered_name (numbered_from number ts) ≡ map table_name ts
numbered_names number [] = refl
numbered_names number (t ∷ ts) = ap (λ ns. t.head.name ∷ ns) (numbered_names (number_behind number t) ts)

pub names_said : (number : ℕ) (ts : List ImageTable) → map held_name (map held_table_of (numbered_from number ts)) ≡ map table_name ts
names_said number ts = names_held (numbered_from number ts) ∙ numbered_names number ts

module _ (all : List NumberedTable) (rise : IsRising (map numbered_name all)) where
  read_at : (q : List ℕ) → all_placed all q ≡ found_or (λ t. Some (table_state_of t)) None (found numbered_name q all)
  read_at q = folds_found numbered_name placed (λ f. Unit {0}) (λ f t k. tt) q (λ f. f q) (λ t. Some (table_state_of t)) (λ f t k. refl) all nothing tt rise

  each_placed : (ts : List NumberedTable) → AllByRecursion (λ t. found numbered_name (numbered_name t) all ≡ Some t) ts → AllByRecursion (λ (y : TableContents). all_placed all y.name ≡ Some (state_of y)) (map held_table_of ts)
  each_placed [] a = tt
  each_placed (t ∷ ts) a = (read_at t.table.head.name ∙ ap (found_or (λ x. Some (table_state_of x)) None) a.0, each_placed ts a.1)

  some_found : (o : Option NumberedTable) → is_some (found_or (λ t. Some (table_state_of t)) None o) ≡ is_some o
  some_found None = refl
  some_found (Some t) = refl

  some_mapped : (o : Option TableContents) → is_some o ≡ is_some (option_map state_of o)
  some_mapped None = refl
  some_mapped (Some t) = refl

  -- what was made by putting all of them
  all_made : (made : List TableContents) → RiseByName made → table_at made ≡ all_placed all → made ≡ map held_table_of all
  all_made made names same = zipped (table_at made) made (map held_table_of all) (same_names (map held_name made) (map held_name (map held_table_of all)) names (subst IsRising (sym (names_held all)) rise) each)
      (found_state made made (each_found held_name made names))
      (subst (λ (f : List ℕ → Option TableState). AllByRecursion (λ (y : TableContents). f y.name ≡ Some (state_of y)) (map held_table_of all)) (sym same) (each_placed all (each_found numbered_name all rise)))
    where
      each : (q : List ℕ) → has (map held_name made) q ≡ has (map held_name (map held_table_of all)) q
      each q =
          has_found held_name made q
          ∙ some_mapped (found held_name q made)
          ∙ ap (λ (f : List ℕ → Option TableState). is_some (f q)) same
          ∙ ap is_some (read_at q)
          ∙ some_found (found numbered_name q all)
          ∙ sym (has_found numbered_name all q)
          ∙ ap (λ ns. has ns q) (sym (names_held all))

-- what was made by putting those of an image, numbered from 0 on
pub all_said : (ts : List ImageTable) → IsRising (map table_name ts) → (made : List TableContents) → RiseByName made → table_at made ≡ all_placed (numbered_from 0 ts) → made ≡ map held_table_of (numbered_from 0 ts)
all_said ts rise = all_made (numbered_from 0 ts) (subst IsRising (sym (numbered_names 0 ts)) rise)
