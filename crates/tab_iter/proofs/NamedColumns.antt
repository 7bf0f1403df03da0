-- The column of those that a scan names that begins first after a record.
use Rattle.std.proofs.Common.{◌≡◌, ℕ, zero, suc, ◌+◌, ◌<◌, length, List, [], ◌∷◌, ◌++◌, Bool, true, false, ◌&&◌, ◌||◌, refl, sym, ◌∙◌, ap, subst, arith, below_more}
use Rattle.std.specs.Prelude.{Option, Some, None, is_some, bytes_eq, slice_index_or, Contains}
use Rattle.std.specs.Borrow.{Bor}
use Rattle.std.specs.List.{list_any}
use Rattle.std.specs.Cmp.{tied_itself, first_so, second_so}
use Rattle.std.specs.Cmp.Lexicographic.{nat_list_cmp_total, bytes_decides}
use Rattle.std.specs.Ordering.{is_lt, is_gt, ordering_then, ordering_reverse}
use Rattle.std.specs.declared.cmp.Ordering.{Ordering}
use Rattle.std.specs.declared.cmp.Ordering.TheVariants.{Less, Equal, Greater}
use mathlib.Core.Bool.{true≢false}
use Rattle.tab_key.specs.Bytes.{bytes_cmp}
use Rattle.tab_key.specs.Order.{column_cmp}
use Rattle.tab_key.proofs.Order.{column_cmp_total}
use Rattle.tab_key.proofs.Rising.{is_less}
use Rattle.tab_key.proofs.Ties.{bytes_tied}
use Rattle.tab_key.specs.Columns.{selects, is_selected}
use Rattle.tab_key.specs.Records.{Key, Record}
use Rattle.tab_key.specs.Sorted.{IsIn}
use Rattle.tab_key.specs.declared.column.Column.{Column}
use Rattle.tab_key.specs.declared.column.Column.TheVariants.{Family, Qualified}
use Rattle.tab_cells.proofs.Lists.{by_bool}
use Rattle.tab_iter.specs.Lists.{IsRising, IsEnd}
use Rattle.tab_iter.specs.NamedColumns.{start_in, row_start, start_of, start_past, IsFirstAfter}
use Rattle.tab_iter.proofs.ListLaws.{first_less, column_upto, rising_end}
use Rattle.tab_iter.proofs.Skips.{before_too}
use Rattle.tab_iter.proofs.NextColumns.{bytes_ahead, bytes_between, none_under, nil_first}

tied_bytes : (l : List ℕ) → bytes_cmp l l ≡ Equal
tied_bytes l = tied_itself nat_list_cmp_total l

-- ---- the columns gone through
-- each column of a row begins before the next row
pub starts_before_next : (row : List ℕ) (t : Column) → is_lt (column_cmp (start_in row t) (row_start (row ++ 0 ∷ []))) ≡ true
unfolding column_cmp
starts_before_next row (Family f) = rw (bytes_ahead row) refl
starts_before_next row (Qualified f q) = rw (bytes_ahead row) refl

-- a key stands before the row that comes next
pub ahead_of_next : (k : Key) → column_cmp k (row_start (k.row ++ 0 ∷ [])) ≡ Less
unfolding column_cmp
ahead_of_next k = rw (bytes_ahead k.row) refl

pub nearer_first : (row : List ℕ) (t : Column) (v : Bool) (found : Option (Bor Column)) → found ≡ None → v ≡ (v && is_lt (column_cmp (start_in row t) (start_past row found)))
nearer_first row t v found e = rw (e, starts_before_next row t) (go v)
  where
    go : (v : Bool) → v ≡ (v && true)
    go true = refl
    go false = refl

any_default : (xs : List Column) (k : ℕ) (d e : Column) → k < length xs → slice_index_or xs k d ≡ slice_index_or xs k e
any_default [] k d e lt = absurd (omega (arith, lt))
any_default (x ∷ xs) zero d e lt = refl
any_default (x ∷ xs) (suc k) d e lt = any_default xs k d e (omega (arith, lt))

-- none of the columns of a list up to this place begins nearer to the key
abbrev pub NoneNearer : List Column → Key → Option (Bor Column) → ℕ → Type 0
NoneNearer columns k first i = (j : ℕ) → j < i → (t : Column) → slice_index_or columns j t ≡ t → column_cmp k (start_in k.row t) ≡ Less → is_lt (column_cmp (start_in k.row t) (start_past k.row first)) ≡ false

-- one column more is gone through
module _ (columns : List Column) (k : Key) (first later : Option (Bor Column)) (column : Column) (i : ℕ) (lt : i < length columns) (is : column ≡ slice_index_or columns i column) (so_far : NoneNearer columns k first i) (v : Bool) (test : v ≡ (is_lt (column_cmp k (start_in k.row column)) && is_lt (column_cmp (start_in k.row column) (start_past k.row first)))) where
  there : (t : Column) → slice_index_or columns i t ≡ t → column ≡ t
  there t e = is ∙ any_default columns i column t lt ∙ e

  pub nearer_ahead : v ≡ true → (b : Bor Column) → b.now ≡ column → later ≡ Some b → column_cmp k (start_past k.row later) ≡ Less
  nearer_ahead nearer b is e = ap (λ o. column_cmp k (start_past k.row o)) e ∙ ap (λ z. column_cmp k (start_in k.row z)) is ∙ is_less _ (first_so _ (is_lt (column_cmp (start_in k.row column) (start_past k.row first))) (sym test ∙ nearer))

  pub nearer_none : v ≡ true → (b : Bor Column) → b.now ≡ column → later ≡ Some b → NoneNearer columns k later (i + 1)
  nearer_none nearer b is e = subst (λ o. NoneNearer columns k o (i + 1)) (sym e) (subst (λ z. (j : ℕ) → j < i + 1 → (t : Column) → slice_index_or columns j t ≡ t → column_cmp k (start_in k.row t) ≡ Less → is_lt (column_cmp (start_in k.row t) (start_in k.row z)) ≡ false) (sym is) (below_more (λ j. (t : Column) → slice_index_or columns j t ≡ t → column_cmp k (start_in k.row t) ≡ Less → is_lt (column_cmp (start_in k.row t) (start_in k.row column)) ≡ false) i old new))
    where
      near : column_cmp (start_in k.row column) (start_past k.row first) ≡ Less
      near = is_less _ (second_so (is_lt (column_cmp k (start_in k.row column))) _ (sym test ∙ nearer))

      old : (j : ℕ) → j < i → (t : Column) → slice_index_or columns j t ≡ t → column_cmp k (start_in k.row t) ≡ Less → is_lt (column_cmp (start_in k.row t) (start_in k.row column)) ≡ false
      old j less t s e = by_bool (is_lt (column_cmp (start_in k.row t) (start_in k.row column))) (λ b. absurd (true≢false (sym (ap is_lt (column_cmp_total.trans _ _ _ (is_less _ b) near)) ∙ so_far j less t s e))) (λ b. b)

      new : (t : Column) → slice_index_or columns i t ≡ t → column_cmp k (start_in k.row t) ≡ Less → is_lt (column_cmp (start_in k.row t) (start_in k.row column)) ≡ false
      new t s e = ap (λ (z : Column). is_lt (column_cmp (start_in k.row z) (start_in k.row column))) (sym (there t s)) ∙ ap is_lt (tied_itself column_cmp_total (start_in k.row column))

  pub other_none : v ≡ false → later ≡ first → NoneNearer columns k later (i + 1)
  other_none other same = subst (λ o. NoneNearer columns k o (i + 1)) (sym same) (below_more (λ j. (t : Column) → slice_index_or columns j t ≡ t → column_cmp k (start_in k.row t) ≡ Less → is_lt (column_cmp (start_in k.row t) (start_past k.row first)) ≡ false) i so_far (λ t s e. go column (there t s) (sym test ∙ other) e))
    where
      go : (z : Column) → {t : Column} → z ≡ t → (is_lt (column_cmp k (start_in k.row z)) && is_lt (column_cmp (start_in k.row z) (start_past k.row first))) ≡ false → column_cmp k (start_in k.row t) ≡ Less → is_lt (column_cmp (start_in k.row t) (start_past k.row first)) ≡ false
      go z {t} s other e = subst (λ y. column_cmp k (start_in k.row y) ≡ Less → is_lt (column_cmp (start_in k.row y) (start_past k.row first)) ≡ false) s (λ e. let f = rw e at other in f) e

-- ---- where a record and those behind it stand
row_of_not_gt : (r f q l : Ordering) → is_gt (ordering_then (ordering_then (ordering_then r f) q) l) ≡ false → is_gt r ≡ false
row_of_not_gt Less f q l e = refl
row_of_not_gt Equal f q l e = refl
row_of_not_gt Greater f q l e = e

not_gt_of_less : (o : Ordering) → o ≡ Less → is_gt o ≡ false
not_gt_of_less o e = ap is_gt e

tied_of_both : (l m : List ℕ) → is_gt (bytes_cmp l m) ≡ false → is_gt (bytes_cmp m l) ≡ false → bytes_cmp l m ≡ Equal
tied_of_both l m g h = go (bytes_cmp l m) g (nat_list_cmp_total.antisymm m l)
  where
    go : (o : Ordering) → is_gt o ≡ false → bytes_cmp m l ≡ ordering_reverse o → o ≡ Equal
    go Less g e = absurd (true≢false (sym (ap is_gt e) ∙ h))
    go Equal g e = refl
    go Greater g e = absurd (true≢false g)

-- before the start of a row stands what is of an earlier row
less_by_nil : (o : Ordering) (l : List ℕ) → ordering_then o (bytes_cmp l []) ≡ Less → o ≡ Less
less_by_nil Less l e = refl
less_by_nil Equal l e = absurd (none_under l e)
less_by_nil Greater l e = cc

same_row : (a u : Key) (found : Option (Bor Column)) → is_gt (column_cmp a u) ≡ false → column_cmp u (start_past a.row found) ≡ Less → bytes_cmp a.row u.row ≡ Equal
unfolding column_cmp
same_row a u None g e = bytes_between a.row u.row (row_of_not_gt (bytes_cmp a.row u.row) _ _ _ g) (less_by_nil _ u.family (less_by_nil _ u.qualifier (less_by_nil _ u.label e)))
same_row a u (Some c) g e = tied_of_both a.row u.row (row_of_not_gt (bytes_cmp a.row u.row) _ _ _ g) (row_of_not_gt (bytes_cmp u.row a.row) _ _ _ (not_gt_of_less _ (at_row c.now e)))
  where
    at_row : (t : Column) → column_cmp u (start_in a.row t) ≡ Less → ordering_then (ordering_then (ordering_then (bytes_cmp u.row a.row) (bytes_cmp u.family (start_in a.row t).family)) (bytes_cmp u.qualifier (start_in a.row t).qualifier)) (bytes_cmp u.label []) ≡ Less
    at_row (Family f) e = e
    at_row (Qualified f q) e = e

-- a column that takes a later record of the row, and not this one, begins between them
starts_upto : (a u : Key) (t : Column) → bytes_cmp a.row u.row ≡ Equal → selects t u ≡ true → is_gt (column_cmp (start_in a.row t) u) ≡ false
unfolding column_cmp
starts_upto a u (Family f) r s = rw (r, family) (go u.qualifier)
  where
    family : bytes_cmp f u.family ≡ Equal
    family = ap (bytes_cmp f) (sym ((bytes_decides f u.family).0 s)) ∙ tied_bytes f

    go : (q : List ℕ) → is_gt (ordering_then (bytes_cmp [] q) (bytes_cmp [] u.label)) ≡ false
    go [] = nil_first u.label
    go (x ∷ q) = refl
starts_upto a u (Qualified f q) r s = rw (r, family, qualifier) (nil_first u.label)
  where
    family : bytes_cmp f u.family ≡ Equal
    family = ap (bytes_cmp f) (sym ((bytes_decides f u.family).0 (first_so _ (bytes_eq q u.qualifier) s))) ∙ tied_bytes f

    qualifier : bytes_cmp q u.qualifier ≡ Equal
    qualifier = ap (bytes_cmp q) (sym ((bytes_decides q u.qualifier).0 (second_so (bytes_eq f u.family) _ s))) ∙ tied_bytes q

starts_after : (a u : Key) (t : Column) → bytes_cmp a.row u.row ≡ Equal → is_gt (column_cmp a u) ≡ false → selects t a ≡ false → selects t u ≡ true → column_cmp a (start_in a.row t) ≡ Less
unfolding column_cmp
starts_after a u (Family f) r g n s = go (bytes_cmp a.family f) refl
  where
    is : f ≡ u.family
    is = (bytes_decides f u.family).0 s

    go : (o : Ordering) → bytes_cmp a.family f ≡ o → column_cmp a (start_in a.row (Family f)) ≡ Less
    go Less e = rw (tied_bytes a.row, e) refl
    go Equal e = absurd (true≢false (sym (ap (bytes_eq f) (bytes_tied a.family f e ∙ is) ∙ s) ∙ n))
    go Greater e = let h = rw (r, sym (ap (bytes_cmp a.family) is) ∙ e) at g in absurd (true≢false h)
starts_after a u (Qualified f q) r g n s = go (bytes_cmp a.family f) refl
  where
    is_family : f ≡ u.family
    is_family = (bytes_decides f u.family).0 (first_so _ (bytes_eq q u.qualifier) s)

    is_qualifier : q ≡ u.qualifier
    is_qualifier = (bytes_decides q u.qualifier).0 (second_so (bytes_eq f u.family) _ s)

    more : bytes_cmp a.family f ≡ Equal → (o : Ordering) → bytes_cmp a.qualifier q ≡ o → column_cmp a (start_in a.row (Qualified f q)) ≡ Less
    more e Less d = rw (tied_bytes a.row, e, d) refl
    more e Equal d = absurd (true≢false (sym ((λ i. bytes_eq f ((bytes_tied a.family f e ∙ is_family) i) && bytes_eq q ((bytes_tied a.qualifier q d ∙ is_qualifier) i)) ∙ s) ∙ n))
    more e Greater d = let h = rw (r, sym (ap (bytes_cmp a.family) is_family) ∙ e, sym (ap (bytes_cmp a.qualifier) is_qualifier) ∙ d) at g in absurd (true≢false h)

    go : (o : Ordering) → bytes_cmp a.family f ≡ o → column_cmp a (start_in a.row (Qualified f q)) ≡ Less
    go Less e = rw (tied_bytes a.row, e) refl
    go Equal e = more e (bytes_cmp a.qualifier q) refl
    go Greater e = let h = rw (r, sym (ap (bytes_cmp a.family) is_family) ∙ e) at g in absurd (true≢false h)

none_any : (p q : Column → Bool) (cs : List Column) → ((t : Column) → Contains cs t → p t ≡ false → q t ≡ false) → list_any p cs ≡ false → list_any q cs ≡ false
none_any p q [] f e = refl
none_any p q (c ∷ cs) f e = go (p c) refl e (none_any p q cs (λ t m. f t (suc m.0, omega (arith, m.1), m.2)))
  where
    go : (v : Bool) → p c ≡ v → (v || list_any p cs) ≡ false → (list_any p cs ≡ false → list_any q cs ≡ false) → (q c || list_any q cs) ≡ false
    go true s e ih = absurd (true≢false e)
    go false s e ih = rw (f c (0, omega arith, refl) s) (ih e)

not_less_between : (a b k : Key) → is_gt (column_cmp a b) ≡ false → column_cmp b k ≡ Less → is_lt (column_cmp a k) ≡ false → ⊥
not_less_between a b k g e n = true≢false (sym (before_too a b k g e) ∙ n)

-- nothing behind a record that isn't selected, and before the first column that begins after it, is selected
pub none_selected : (columns : List Column) (found : Option (Bor Column)) (w : List Record) (held : Record) (rs : List Record) → IsFirstAfter columns held.key found → IsRising w → IsEnd (held ∷ rs) w → is_selected columns held.key ≡ false → (u : Record) → IsIn rs u → column_cmp u.key (start_past held.key.row found) ≡ Less → is_selected columns u.key ≡ false
none_selected [] found w held rs f up end n u h e = absurd (true≢false n)
none_selected (c ∷ cs) found w held rs f up end n u h e = none_any (λ t. selects t held.key) (λ t. selects t u.key) (c ∷ cs) go n
  where
    upto : is_gt (column_cmp held.key u.key) ≡ false
    upto = column_upto held u (first_less held rs (rising_end (held ∷ rs) w end up) u h)

    row : bytes_cmp held.key.row u.key.row ≡ Equal
    row = same_row held.key u.key found upto e

    go : (t : Column) → Contains (c ∷ cs) t → selects t held.key ≡ false → selects t u.key ≡ false
    go t m s = by_bool (selects t u.key) (λ d. absurd (not_less_between (start_in held.key.row t) u.key (start_past held.key.row found) (starts_upto held.key u.key t row d) e (f.first t m (starts_after held.key u.key t row upto s d)))) (λ d. d)

-- ---- where the rule aims
aims_past : (found : Option (Bor Column)) (row target : List ℕ) → (is_some found ≡ false → target ≡ row ++ 0 ∷ []) → (is_some found ≡ true → target ≡ row) → start_of target found ≡ start_past row found
aims_past None row target f g = ap row_start (f refl)
aims_past (Some c) row target f g = ap (λ r. start_in r c.now) (g refl)

pub none_before_aim : (columns : List Column) (found : Option (Bor Column)) (target : List ℕ) (key : Key) (held : Record) → key ≡ held.key → IsFirstAfter columns key found → (is_some found ≡ false → target ≡ held.key.row ++ 0 ∷ []) → (is_some found ≡ true → target ≡ held.key.row) → (w rs : List Record) → IsRising w → IsEnd (held ∷ rs) w → is_selected columns held.key ≡ false → (u : Record) → IsIn rs u → column_cmp u.key (start_of target found) ≡ Less → is_selected columns u.key ≡ false
none_before_aim columns found target key held is f next same w rs up end n u h e = none_selected columns found w held rs (subst (λ k. IsFirstAfter columns k found) is f) up end n u h (ap (column_cmp u.key) (sym (aims_past found held.key.row target next same)) ∙ e)
