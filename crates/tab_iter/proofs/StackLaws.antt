-- The rules of a scan, one behind the other, let the shown records through.
use Rattle.std.proofs.Common.{◌≡◌, ℕ, List, [], ◌∷◌, Bool, true, false, cond, not, ◌&&◌, ◌||◌, refl, sym, ◌∙◌, ap, length}
use Rattle.std.specs.Prelude.{filter, map, nat_lt, bytes_eq}
use Rattle.std.specs.List.{list_any}
use Rattle.std.specs.Cmp.{first_so, second_so}
use Rattle.std.specs.Cmp.Lexicographic.{bytes_decides}
use Rattle.tab_key.specs.Records.{Key, Record, cell_of}
use Rattle.tab_key.specs.Order.{stands_before}
use Rattle.tab_key.specs.Kept.{is_put, same_column, hides, is_deleted, outranks, is_kept}
use Rattle.tab_key.specs.Sorted.{inserted, sorted, IsDistinct}
use Rattle.tab_key.specs.Columns.{selects, is_selected}
use Rattle.tab_key.specs.declared.column.Column.{Column}
use Rattle.tab_key.specs.declared.column.Column.TheVariants.{Family, Qualified}
use Rattle.tab_label.specs.Holding.{label_holds}
use Rattle.tab_cells.specs.Cells.{Query, matches, is_shown, cells}
use Rattle.tab_cells.proofs.Lists.{by_bool}
use Rattle.tab_iter.specs.Both.{admits_both}
use Rattle.tab_iter.specs.Layers.{is_left, is_newer, is_among}
use Rattle.tab_iter.specs.Stack.{query_of, IsOfColumns, stacked}
use Rattle.tab_iter.proofs.BagLaws.{sorted_filter, length_sorted}

pub filter_equal : (p q : Record → Bool) (xs : List Record) → ((x : Record) → p x ≡ q x) → filter p xs ≡ filter q xs
filter_equal p q [] f = refl
filter_equal p q (x ∷ xs) f = λ i. cond (f x i) (x ∷ filter_equal p q xs f i) (filter_equal p q xs f i)

pub filter_twice : (p q : Record → Bool) (xs : List Record) → filter p (filter q xs) ≡ filter (λ x. q x && p x) xs
filter_twice p q [] = refl
filter_twice p q (x ∷ xs) = go (q x) (filter_twice p q xs)
  where
    go : (v : Bool) → filter p (filter q xs) ≡ filter (λ x. q x && p x) xs → filter p (cond v (x ∷ filter q xs) (filter q xs)) ≡ cond (v && p x) (x ∷ filter (λ x. q x && p x) xs) (filter (λ x. q x && p x) xs)
    go true e = ap (λ l. cond (p x) (x ∷ l) l) e
    go false e = e

-- a kept record in a column let through
passes : List Record → ℕ → (Key → Bool) → Record → Bool
passes us n m u = m u.key && is_kept us n u

-- what the rules before versioning let through
lower : List Record → (Key → Bool) → (Key → Bool) → Record → Bool
lower w chosen seen u = (is_left false w u && chosen u.key) && seen u.key

-- of an undeleted put in a column let through, the newer ones let through are those that outrank it
newer_outranks : (w : List Record) (chosen seen : Key → Bool) → IsOfColumns chosen → IsOfColumns seen → (u v : Record) → chosen u.key ≡ true → seen u.key ≡ true → (lower w chosen seen v && is_newer u v) ≡ outranks w u v
unfolding lower is_left is_newer outranks
newer_outranks w chosen seen cc1 cc2 u v p q = by_bool (same_column v.key u.key) same other
  where
    other : same_column v.key u.key ≡ false → (lower w chosen seen v && is_newer u v) ≡ outranks w u v
    other s = rw s (go (is_put v.kind) (cond (is_put v.kind) (not (is_deleted w v)) false) (chosen v.key) (seen v.key) (not (is_deleted w v)) (stands_before v u))
      where
        go : (k a b c d e : Bool) → (((a && b) && c) && ((k && false) && e)) ≡ (((k && false) && d) && e)
        go true true true true d e = refl
        go true true true false d e = refl
        go true true false c d e = refl
        go true false b c d e = refl
        go false true true true d e = refl
        go false true true false d e = refl
        go false true false c d e = refl
        go false false b c d e = refl

    same : same_column v.key u.key ≡ true → (lower w chosen seen v && is_newer u v) ≡ outranks w u v
    same s = rw (s, cc1 v.key u.key s ∙ p, cc2 v.key u.key s ∙ q) (go (is_put v.kind) (not (is_deleted w v)) (stands_before v u))
      where
        go : (k d e : Bool) → (((cond k d false && true) && true) && ((k && true) && e)) ≡ (((k && true) && d) && e)
        go true true e = refl
        go true false e = refl
        go false d e = refl

shown_stacked : (w : List Record) (n : ℕ) (chosen seen : Key → Bool) → IsOfColumns chosen → IsOfColumns seen → (u : Record) → (lower w chosen seen u && is_among false n (filter (lower w chosen seen) w) u) ≡ passes w n (λ k. chosen k && seen k) u
unfolding lower is_left is_among is_kept passes
shown_stacked w n chosen seen cs ss u = by_bool (chosen u.key) (λ p. by_bool (seen u.key) (both p) (unseen p)) unchosen
  where
    unchosen : chosen u.key ≡ false → (lower w chosen seen u && is_among false n (filter (lower w chosen seen) w) u) ≡ passes w n (λ k. chosen k && seen k) u
    unchosen p = rw p (go (cond (is_put u.kind) (not (is_deleted w u)) false) (seen u.key) (is_among false n (filter (lower w chosen seen) w) u) (is_kept w n u))
      where
        go : (a b c d : Bool) → (((a && false) && b) && c) ≡ ((false && b) && d)
        go true b c d = refl
        go false b c d = refl

    unseen : chosen u.key ≡ true → seen u.key ≡ false → (lower w chosen seen u && is_among false n (filter (lower w chosen seen) w) u) ≡ passes w n (λ k. chosen k && seen k) u
    unseen p q = rw (p, q) (go (cond (is_put u.kind) (not (is_deleted w u)) false) (is_among false n (filter (lower w chosen seen) w) u) (is_kept w n u))
      where
        go : (a c d : Bool) → (((a && true) && false) && c) ≡ ((true && false) && d)
        go true c d = refl
        go false c d = refl

    both : chosen u.key ≡ true → seen u.key ≡ true → (lower w chosen seen u && is_among false n (filter (lower w chosen seen) w) u) ≡ passes w n (λ k. chosen k && seen k) u
    both p q = rw (p, q, filter_twice (is_newer u) (lower w chosen seen) w ∙ filter_equal _ _ w (λ v. newer_outranks w chosen seen cs ss u v p q)) (go (is_put u.kind) (not (is_deleted w u)) (nat_lt (length (filter (outranks w u) w)) n))
      where
        go : (k d l : Bool) → (((cond k d false && true) && true) && cond k l false) ≡ ((true && true) && ((k && d) && l))
        go true true l = refl
        go true false l = refl
        go false d l = refl

stack_shows : (w : List Record) (n : ℕ) (chosen seen : Key → Bool) → IsOfColumns chosen → IsOfColumns seen → filter (stacked n chosen seen w) w ≡ filter (passes w n (λ k. chosen k && seen k)) w
unfolding lower
stack_shows w n chosen seen cs ss = filter_equal _ _ w (shown_stacked w n chosen seen cs ss)

-- ---- over the sorted records as over the records
any_inserted : (p : Record → Bool) (x : Record) (xs : List Record) → list_any p (inserted x xs) ≡ (p x || list_any p xs)
any_inserted p x [] = refl
any_inserted p x (y ∷ ys) = go (stands_before x y) (any_inserted p x ys)
  where
    swap : (a b c : Bool) → (a || (b || c)) ≡ (b || (a || c))
    swap true true c = refl
    swap true false c = refl
    swap false true c = refl
    swap false false c = refl

    go : (v : Bool) → list_any p (inserted x ys) ≡ (p x || list_any p ys) → list_any p (cond v (x ∷ y ∷ ys) (y ∷ inserted x ys)) ≡ (p x || (p y || list_any p ys))
    go true ih = refl
    go false ih = ap (λ b. p y || b) ih ∙ swap (p y) (p x) (list_any p ys)

pub any_sorted : (p : Record → Bool) (xs : List Record) → list_any p (sorted xs) ≡ list_any p xs
any_sorted p [] = refl
any_sorted p (x ∷ xs) = any_inserted p x (sorted xs) ∙ ap (λ b. p x || b) (any_sorted p xs)

deleted_sorted : (us : List Record) (u : Record) → is_deleted (sorted us) u ≡ is_deleted us u
unfolding is_deleted
deleted_sorted us u = any_sorted (λ m. hides m u) us

outranks_sorted : (us : List Record) (u v : Record) → outranks (sorted us) u v ≡ outranks us u v
unfolding outranks
outranks_sorted us u v = rw (deleted_sorted us v) refl

pub kept_sorted : (us : List Record) (n : ℕ) (u : Record) → is_kept (sorted us) n u ≡ is_kept us n u
unfolding is_kept
kept_sorted us n u = rw (deleted_sorted us u, filter_equal (outranks (sorted us) u) (outranks us u) (sorted us) (outranks_sorted us u), length_sorted (outranks us u) us) refl

-- ---- what the tests ask of a column
record SameParts (a b : Key) : Type 0 where
  pub family : a.family ≡ b.family
  pub qualifier : a.qualifier ≡ b.qualifier
  pub label : a.label ≡ b.label

same_parts : (a b : Key) → same_column a b ≡ true → SameParts a b
unfolding same_column
same_parts a b p =
    let p2 = first_so (bytes_eq a.row b.row && bytes_eq a.family b.family && bytes_eq a.qualifier b.qualifier) (bytes_eq a.label b.label) p in
    let p1 = first_so (bytes_eq a.row b.row && bytes_eq a.family b.family) (bytes_eq a.qualifier b.qualifier) p2 in
    record {
      family = (bytes_decides _ _).0 (second_so (bytes_eq a.row b.row) (bytes_eq a.family b.family) p1);
      qualifier = (bytes_decides _ _).0 (second_so (bytes_eq a.row b.row && bytes_eq a.family b.family) (bytes_eq a.qualifier b.qualifier) p2);
      label = (bytes_decides _ _).0 (second_so (bytes_eq a.row b.row && bytes_eq a.family b.family && bytes_eq a.qualifier b.qualifier) (bytes_eq a.label b.label) p);
    }

selects_same : (a b : Key) → SameParts a b → (t : Column) → selects t a ≡ selects t b
selects_same a b s (Family f) = ap (bytes_eq f) s.family
selects_same a b s (Qualified f q) = λ i. bytes_eq f (s.family i) && bytes_eq q (s.qualifier i)

any_equal : (p q : Column → Bool) → ((t : Column) → p t ≡ q t) → (cs : List Column) → list_any p cs ≡ list_any q cs
any_equal p q f [] = refl
any_equal p q f (c ∷ cs) = λ i. f c i || any_equal p q f cs i

selected_of_columns : (columns : List Column) → IsOfColumns (is_selected columns)
selected_of_columns [] a b s = refl
selected_of_columns (c ∷ cs) a b s = any_equal (λ t. selects t a) (λ t. selects t b) (selects_same a b (same_parts a b s)) (c ∷ cs)

holds_of_columns : (auths : List (List ℕ)) → IsOfColumns (λ k. label_holds k.label auths)
holds_of_columns auths a b s = ap (λ l. label_holds l auths) (same_parts a b s).label

-- ---- a query of all rows
shows : (us : List Record) (n : ℕ) (columns : List Column) (auths : List (List ℕ)) (u : Record) → passes us n (λ k. is_selected columns k && label_holds k.label auths) u ≡ is_shown us n (query_of columns auths) u
unfolding passes matches
shows us n columns auths u = ap (λ b. b && is_kept us n u) (go (is_selected columns u.key) (label_holds u.key.label auths))
  where
    go : (a b : Bool) → (a && b) ≡ ((b && (true && true)) && a)
    go true true = refl
    go true false = refl
    go false true = refl
    go false false = refl

stack_answers : (us : List Record) (n : ℕ) (columns : List Column) (auths : List (List ℕ)) → IsDistinct us → filter (stacked n (is_selected columns) (λ k. label_holds k.label auths) (sorted us)) (sorted us) ≡ sorted (filter (is_shown us n (query_of columns auths)) us)
unfolding passes
stack_answers us n columns auths d =
    stack_shows (sorted us) n (is_selected columns) (λ k. label_holds k.label auths) (selected_of_columns columns) (holds_of_columns auths)
    ∙ filter_equal _ _ (sorted us) (λ u. ap (λ b. (is_selected columns u.key && label_holds u.key.label auths) && b) (kept_sorted us n u) ∙ shows us n columns auths u)
    ∙ sym (sorted_filter (is_shown us n (query_of columns auths)) us d)

-- the rules one by one
pub rule_chain : (n m : ℕ) (keeps counted : Bool) (columns named : List Column) (auths given : List (List ℕ)) (p q r : List Record → Record → Bool) → keeps ≡ false → named ≡ columns → p ≡ admits_both (is_left keeps) (λ w u. is_selected named u.key) → given ≡ auths → q ≡ admits_both p (λ w u. label_holds u.key.label given) → m ≡ n → counted ≡ false → r ≡ admits_both q (is_among counted m) → r ≡ stacked n (is_selected columns) (λ k. label_holds k.label auths)
rule_chain n m keeps counted columns named auths given p q r k cs ep gs eq mn kc er =
    let f : p ≡ admits_both (is_left false) (λ w u. is_selected columns u.key) = ep ∙ (λ i. admits_both (is_left (k i)) (λ w u. is_selected (cs i) u.key)) in
    let g : q ≡ admits_both (admits_both (is_left false) (λ w u. is_selected columns u.key)) (λ w u. label_holds u.key.label auths) = eq ∙ (λ i. admits_both (f i) (λ w u. label_holds u.key.label (gs i))) in
    er ∙ (λ i. admits_both (g i) (is_among (kc i) (mn i)))

-- a layer of that rule over the records
pub stack_lists : (us : List Record) (n : ℕ) (columns : List Column) (auths : List (List ℕ)) (r : List Record → Record → Bool) (w shown : List Record) → w ≡ sorted us → r ≡ stacked n (is_selected columns) (λ k. label_holds k.label auths) → shown ≡ filter (r w) w → IsDistinct us → shown ≡ sorted (filter (is_shown us n (query_of columns auths)) us)
stack_lists us n columns auths r w shown e0 e1 e2 d = e2 ∙ (λ i. filter (e1 i (e0 i)) (e0 i)) ∙ stack_answers us n columns auths d

pub stack_cells : (us w : List Record) (n : ℕ) (q : Query) → w ≡ sorted (filter (is_shown us n q) us) → map cell_of w ≡ cells us n q
unfolding cells
stack_cells us w n q e = ap (map cell_of) e
