-- What one remembered column tells of the records that are left.
use Rattle.std.proofs.Common.{◌≡◌, ◌⊎◌, inl, inr, ℕ, ◌-◌, List, [], ◌∷◌, ◌++◌, Bool, true, false, cond, not, ◌&&◌, ◌||◌, refl, sym, ◌∙◌, ap, subst, length, arith}
use Rattle.std.specs.Prelude.{ℤ, Option, Some, None, filter, nat_lt, int_le, int_lt}
use Rattle.std.specs.List.{list_any}
use Rattle.std.proofs.lemmas.List.Elements.{filter-append}
use Rattle.std.proofs.lemmas.List.Folds.{list_any-append}
use Rattle.std.specs.Cmp.{tied_itself, tied_back}
use Rattle.std.specs.Ordering.{nat_cmp, int_cmp, is_lt, is_gt, is_eq, ordering_then}
use Rattle.std.specs.declared.cmp.Ordering.{Ordering}
use Rattle.std.specs.declared.cmp.Ordering.TheVariants.{Less, Equal, Greater}
use Rattle.std.proofs.lemmas.Int.{ints}
use Rattle.std.proofs.lemmas.Bool.Decides.{nat_tests}
use mathlib.Core.Bool.{true≢false}
use Rattle.tab_key.specs.Order.{kind_rank, column_cmp, key_cmp, place_cmp, record_cmp, stands_before}
use Rattle.tab_key.proofs.Order.{column_cmp_total, record_cmp_total}
use Rattle.tab_key.specs.Records.{Key, Record}
use Rattle.tab_key.specs.declared.key.Kind.{Kind}
use Rattle.tab_key.specs.declared.key.Kind.TheVariants.{Delete, Put}
use Rattle.tab_key.specs.Sorted.{IsIn}
use Rattle.tab_key.proofs.Ties.{same_column-cmp}
use Rattle.tab_cells.proofs.Lists.{by_bool}
use Rattle.tab_iter.specs.Lists.{latest, IsRising, IsEnd, BeginsColumn}
use Rattle.tab_key.specs.Kept.{is_put, same_column, hides, is_deleted}
use Rattle.tab_cells.specs.Merged.{is_first_marker}
use Rattle.tab_iter.specs.Layers.{is_left, is_newer, is_among, is_needed}
use Rattle.tab_iter.specs.Columns.{is_of, is_upto, KnowsTold, leads, KnowsDeleted, KnowsLed, left_of, KnowsCount, IsColumnOf}
use Rattle.tab_iter.proofs.ListLaws.{first_less, column_upto, rising_end}

is_equal : (o : Ordering) → is_eq o ≡ true → o ≡ Equal
is_equal Less e = absurd (true≢false (sym e))
is_equal Equal e = refl
is_equal Greater e = absurd (true≢false (sym e))

pub same_equal : (a b : Key) → same_column a b ≡ true → column_cmp a b ≡ Equal
same_equal a b e = is_equal (column_cmp a b) (same_column-cmp a b ∙ e)

pub equal_same : (a b : Key) → column_cmp a b ≡ Equal → same_column a b ≡ true
equal_same a b e = sym (same_column-cmp a b) ∙ ap is_eq e

pub less_other : (a b : Key) → column_cmp a b ≡ Less → same_column a b ≡ false
less_other a b e = sym (same_column-cmp a b) ∙ ap is_eq e

pub same_congr : (a b c : Key) → same_column a b ≡ true → same_column a c ≡ same_column b c
same_congr a b c e = sym (same_column-cmp a c) ∙ ap is_eq (column_cmp_total.congr a b c (same_equal a b e)) ∙ same_column-cmp b c

pub same_itself : (a : Key) → same_column a a ≡ true
same_itself a = equal_same a a (tied_itself column_cmp_total a)

pub same_back : (a b : Key) → same_column a b ≡ true → same_column b a ≡ true
same_back a b e = equal_same b a (tied_back column_cmp_total a b (same_equal a b e))

-- a column between two that are one is the same
pub between : (c a b : Key) → is_gt (column_cmp c a) ≡ false → is_gt (column_cmp a b) ≡ false → same_column c b ≡ true → same_column a b ≡ true
between c a b ca ab e = go (column_cmp a b) refl
  where
    cb : column_cmp c b ≡ Equal
    cb = same_equal c b e

    more : column_cmp a b ≡ Less → (o : Ordering) → column_cmp c a ≡ o → same_column a b ≡ true
    more s Less t = let f : column_cmp c b ≡ Less = column_cmp_total.trans c a b t s in let f2 = sym f ∙ cb in cc
    more s Equal t = let f : column_cmp c b ≡ Less = column_cmp_total.congr c a b t ∙ s in let f2 = sym f ∙ cb in cc
    more s Greater t = absurd (true≢false (sym (ap is_gt t) ∙ ca))

    go : (o : Ordering) → column_cmp a b ≡ o → same_column a b ≡ true
    go Less s = more s (column_cmp c a) refl
    go Equal s = equal_same a b s
    go Greater s = absurd (true≢false (sym (ap is_gt s) ∙ ab))

-- ---- a marker hides all that follows in its column
not_after : (x y : ℤ) (k m : Ordering) → ordering_then (ordering_then (ordering_then Equal (int_cmp x y)) k) m ≡ Less → int_le x y ≡ true
not_after x y k m e = go (int_cmp x y) refl e
  where
    go : (o : Ordering) → int_cmp x y ≡ o → ordering_then (ordering_then o k) m ≡ Less → int_le x y ≡ true
    go Less c e = grind (arith, ints)
    go Equal c e = grind (arith, ints)
    go Greater c e = cc

pub hides_after : (r u : Record) → record_cmp r u ≡ Less → is_put r.kind ≡ false → hides r u ≡ same_column r.key u.key
unfolding hides place_cmp key_cmp
hides_after r u e p = by_bool (same_column r.key u.key) yes no
  where
    yes : same_column r.key u.key ≡ true → hides r u ≡ same_column r.key u.key
    yes s =
        let f = rw (same_equal r.key u.key s) at e in
        let t : int_le u.key.timestamp r.key.timestamp ≡ true = not_after u.key.timestamp r.key.timestamp _ _ f in
        rw (p, s, t) refl

    no : same_column r.key u.key ≡ false → hides r u ≡ same_column r.key u.key
    no s = rw (p, s) refl

-- what follows a put doesn't hide it
no_earlier : (x y : ℤ) (u : Kind) (m : Ordering) → is_put u ≡ false → ordering_then (ordering_then (ordering_then Equal (int_cmp x y)) (nat_cmp 1 (kind_rank u))) m ≡ Less → int_le y x ≡ false
no_earlier x y Put m p e = absurd (true≢false p)
no_earlier x y Delete m p e = go (int_cmp x y) refl e
  where
    go : (o : Ordering) → int_cmp x y ≡ o → ordering_then (ordering_then o Greater) m ≡ Less → int_le y x ≡ false
    go Less c e = grind (arith, ints)
    go Equal c e = cc
    go Greater c e = cc

pub later_spares : (r u : Record) → record_cmp r u ≡ Less → is_put r.kind ≡ true → hides u r ≡ false
unfolding hides place_cmp key_cmp
later_spares r u e p = by_bool (is_put u.kind) (λ q. rw q refl) (λ q. by_bool (same_column u.key r.key) (yes q) (λ s. rw (q, s) refl))
  where
    rank : (k : Kind) → is_put k ≡ true → kind_rank k ≡ 1
    rank Put p = refl
    rank Delete p = absurd (true≢false (sym p))

    yes : is_put u.kind ≡ false → same_column u.key r.key ≡ true → hides u r ≡ false
    yes q s =
        let f = rw (same_equal r.key u.key (same_back u.key r.key s), rank r.kind p) at e in
        let t : int_le r.key.timestamp u.key.timestamp ≡ false = no_earlier u.key.timestamp r.key.timestamp u.kind _ q f in
        rw (q, s, t) refl

-- ---- what markers tell
any_none : (p : Record → Bool) (xs : List Record) → ((x : Record) → IsIn xs x → p x ≡ false) → list_any p xs ≡ false
any_none p [] f = refl
any_none p (x ∷ xs) f = rw (f x (inl refl)) (any_none p xs (λ y h. f y (inr h)))

absorbs : (a b c : Bool) → (a ≡ true → b ≡ true) → (a || (b || c)) ≡ (b || c)
absorbs true b c f = rw (f refl) refl
absorbs false b c f = refl

or_false : (a : Bool) → (a || false) ≡ a
or_false true = refl
or_false false = refl

-- a column remembered before reaches the later record through the one between
reaches : (column : Option Key) (r u : Record) → is_upto column r.key → record_cmp r u ≡ Less → is_of column u.key ≡ true → same_column r.key u.key ≡ true
reaches None r u a e h = absurd (true≢false (sym h))
reaches (Some c) r u a e h = between c r.key u.key a (column_upto r u e) h

-- no record from a record on stands before it
from_first : (r : Record) (rs : List Record) → IsRising (r ∷ rs) → (x : Record) → (r ≡ x) ⊎ IsIn rs x → is_lt (record_cmp x r) ≡ false
from_first r rs up x (inl e) = subst (λ (y : Record). is_lt (record_cmp y r) ≡ false) e (ap is_lt (tied_itself record_cmp_total r))
from_first r rs up x (inr h) = rw (record_cmp_total.antisymm x r, first_less r rs up x h) refl

-- a column with the parts of the key
pub column_of_parts : (column parts key : Key) → column ≡ record parts { timestamp = latest } → parts ≡ key → IsColumnOf (Some column) key
unfolding same_column column_cmp
column_of_parts column parts key e same = subst (λ k. IsColumnOf (Some column) k) same (subst (λ c. IsColumnOf (Some c) parts) (sym e) (record { same = λ k. refl; upto = λ k u. u }))

pub column_of_same : (column : Option Key) (key : Key) → is_of column key ≡ true → IsColumnOf column key
column_of_same None key e = absurd (true≢false (sym e))
column_of_same (Some c) key e = record {
  same = λ k. same_congr c key k e;
  upto = λ k u. ap is_gt (column_cmp_total.congr c key k (same_equal c key e)) ∙ u;
}

-- what a put tells of none, and a marker of those of its column behind it, and of no later column's
pub record IsTold (tells : Record → Record → Bool) : Type 0 where
  pub put : (r u : Record) → is_put r.kind ≡ true → tells r u ≡ false
  pub other : (r u : Record) → column_cmp r.key u.key ≡ Less → tells r u ≡ false
  pub after : (r u : Record) → record_cmp r u ≡ Less → is_put r.kind ≡ false → tells r u ≡ same_column r.key u.key

module _ (tells : Record → Record → Bool) (is : IsTold tells) where
  pub starts_told : (w rs : List Record) → BeginsColumn rs w → KnowsTold tells None w rs
  starts_told w rs b = record {
    told = λ u h.
        ap (list_any (λ m. tells m u)) (sym b.whole) ∙ list_any-append (λ m. tells m u) b.passed rs
        ∙ ap (λ v. v || list_any (λ m. tells m u) rs) (any_none (λ m. tells m u) b.passed (λ x k. is.other x u (b.apart x u k h)));
    ahead = λ u h. tt;
  }

  pub passes_put : (column : Option Key) (w : List Record) (r : Record) (rs : List Record) → is_put r.kind ≡ true → KnowsTold tells column w (r ∷ rs) → KnowsTold tells column w rs
  passes_put column w r rs p t = record {
    told = λ u h. t.told u (inr h) ∙ ap (λ v. is_of column u.key || (v || list_any (λ m. tells m u) rs)) (is.put r u p);
    ahead = λ u h. t.ahead u (inr h);
  }

  pub passes_marker : (column after : Option Key) (w : List Record) (r : Record) (rs : List Record) → IsRising w → IsEnd (r ∷ rs) w → is_put r.kind ≡ false → IsColumnOf after r.key → KnowsTold tells column w (r ∷ rs) → KnowsTold tells after w rs
  passes_marker column after w r rs up end p now t = record {
    told = λ u h.
        let less = first_less r rs (rising_end (r ∷ rs) w end up) u h in
        t.told u (inr h) ∙ ap (λ v. is_of column u.key || (v || list_any (λ m. tells m u) rs)) (is.after r u less p)
        ∙ absorbs (is_of column u.key) (same_column r.key u.key) (list_any (λ m. tells m u) rs) (reaches column r u (t.ahead r (inl refl)) less)
        ∙ ap (λ v. v || list_any (λ m. tells m u) rs) (sym (now.same u.key));
    ahead = λ u h. now.upto u.key (column_upto r u (first_less r rs (rising_end (r ∷ rs) w end up) u h));
  }

-- ---- the deleted
put_spares : (r u : Record) → is_put r.kind ≡ true → hides r u ≡ false
unfolding hides
put_spares r u p = rw p refl

other_spares : (m u : Record) → column_cmp m.key u.key ≡ Less → hides m u ≡ false
unfolding hides
other_spares m u e = rw (less_other m.key u.key e) (go (is_put m.kind))
  where
    go : (v : Bool) → ((not v && false) && int_le u.key.timestamp m.key.timestamp) ≡ false
    go true = refl
    go false = refl

pub hiding : IsTold hides
hiding = record { put = put_spares; other = other_spares; after = hides_after }

-- nothing from a put on hides it
none_from : (r : Record) (rs : List Record) → IsRising (r ∷ rs) → is_put r.kind ≡ true → list_any (λ m. hides m r) (r ∷ rs) ≡ false
none_from r rs up p = ap (λ v. v || list_any (λ m. hides m r) rs) (put_spares r r p) ∙ any_none (λ m. hides m r) rs (λ x h. later_spares r x (first_less r rs up x h) p)

pub put_left : (keeps : Bool) (column : Option Key) (w : List Record) (r : Record) (rs : List Record) → IsRising w → IsEnd (r ∷ rs) w → is_put r.kind ≡ true → KnowsDeleted column w (r ∷ rs) → not (is_of column r.key) ≡ is_left keeps w r
unfolding is_left is_deleted
put_left keeps column w r rs up end p t =
    let e : list_any (λ m. hides m r) w ≡ is_of column r.key = t.told r (inl refl) ∙ ap (λ v. is_of column r.key || v) (none_from r rs (rising_end (r ∷ rs) w end up) p) ∙ or_false (is_of column r.key) in
    rw (p, e) refl

pub marker_left : (keeps : Bool) (w : List Record) (r : Record) → is_put r.kind ≡ false → keeps ≡ is_left keeps w r
unfolding is_left
marker_left keeps w r p = rw p refl

-- ---- the first markers
put_leads_none : (r u : Record) → is_put r.kind ≡ true → leads r u ≡ false
put_leads_none r u p = rw p refl

leads_in_column : (m u : Record) → column_cmp m.key u.key ≡ Less → leads m u ≡ false
leads_in_column m u e = rw (less_other m.key u.key e) (go (is_put m.kind))
  where
    go : (v : Bool) → ((not v && false) && stands_before m u) ≡ false
    go true = refl
    go false = refl

leads_after : (r u : Record) → record_cmp r u ≡ Less → is_put r.kind ≡ false → leads r u ≡ same_column r.key u.key
leads_after r u e p = rw (p, e) (go (same_column r.key u.key))
  where
    go : (x : Bool) → (x && true) ≡ x
    go true = refl
    go false = refl

pub leading : IsTold leads
leading = record { put = put_leads_none; other = leads_in_column; after = leads_after }

leads_not : (m u : Record) → is_lt (record_cmp m u) ≡ false → leads m u ≡ false
leads_not m u e = rw e (go (not (is_put m.kind) && same_column m.key u.key))
  where
    go : (x : Bool) → (x && false) ≡ false
    go true = refl
    go false = refl

-- nothing from a record on leads it
none_leads : (r : Record) (rs : List Record) → IsRising (r ∷ rs) → list_any (λ m. leads m r) (r ∷ rs) ≡ false
none_leads r rs up = any_none (λ m. leads m r) (r ∷ rs) (λ x h. leads_not x r (from_first r rs up x h))

pub put_needed : (full : Bool) (floor : ℤ) (w : List Record) (r : Record) → is_put r.kind ≡ true → true ≡ is_needed full floor w r
unfolding is_needed
put_needed full floor w r p = rw p refl

pub marker_needed : (full : Bool) (floor : ℤ) (column : Option Key) (w : List Record) (r : Record) (rs : List Record) → IsRising w → IsEnd (r ∷ rs) w → is_put r.kind ≡ false → KnowsLed column w (r ∷ rs)
    → (not (is_of column r.key) && not (full && int_lt r.key.timestamp floor)) ≡ is_needed full floor w r
unfolding is_needed is_first_marker
marker_needed full floor column w r rs up end p t =
    let e : list_any (λ m. leads m r) w ≡ is_of column r.key = t.told r (inl refl) ∙ ap (λ v. is_of column r.key || v) (none_leads r rs (rising_end (r ∷ rs) w end up)) ∙ or_false (is_of column r.key) in
    rw (p, e) refl

-- ---- the newest
newer_no : (u v : Record) → is_put v.kind ≡ false → is_newer u v ≡ false
unfolding is_newer
newer_no u v p = rw p refl

newer_other : (u v : Record) → same_column v.key u.key ≡ false → is_newer u v ≡ false
unfolding is_newer
newer_other u v s = rw s (go (is_put v.kind))
  where
    go : (x : Bool) → ((x && false) && stands_before v u) ≡ false
    go true = refl
    go false = refl

newer_first : (u r : Record) → is_put r.kind ≡ true → record_cmp r u ≡ Less → is_newer u r ≡ same_column r.key u.key
unfolding is_newer
newer_first u r p e = rw (p, e) (go (same_column r.key u.key))
  where
    go : (x : Bool) → (x && true) ≡ x
    go true = refl
    go false = refl

newer_not : (u v : Record) → is_lt (record_cmp v u) ≡ false → is_newer u v ≡ false
unfolding is_newer
newer_not u v e = rw e (go (is_put v.kind && same_column v.key u.key))
  where
    go : (x : Bool) → (x && false) ≡ false
    go true = refl
    go false = refl

pub filter_none : (p : Record → Bool) (xs : List Record) → ((x : Record) → IsIn xs x → p x ≡ false) → filter p xs ≡ []
filter_none p [] f = refl
filter_none p (x ∷ xs) f = rw (f x (inl refl)) (filter_none p xs (λ y h. f y (inr h)))

-- nothing from a record on is newer
pub none_newer : (r : Record) (rs : List Record) → IsRising (r ∷ rs) → filter (is_newer r) (r ∷ rs) ≡ []
none_newer r rs up = filter_none (is_newer r) (r ∷ rs) (λ x h. newer_not r x (from_first r rs up x h))

pub starts_count : (n left : ℕ) (w rs : List Record) → BeginsColumn rs w → KnowsCount n None left w rs
starts_count n left w rs b = record {
  counted = λ u h. ap (λ l. n - length (filter (is_newer u) l)) (sym b.whole) ∙ ap (λ l. n - length l) (filter-append (is_newer u) b.passed rs ∙ ap (λ l. l ++ filter (is_newer u) rs) (filter_none (is_newer u) b.passed (λ x k. newer_other u x (less_other x.key u.key (b.apart x u k h)))));
  ahead = λ u h. tt;
}

below_from : (n a l : ℕ) → n - a ≡ l - 0 → nat_lt 0 l ≡ nat_lt a n
below_from n a l e = grind (arith, nat_tests)

pub put_among : (keeps : Bool) (n left : ℕ) (column : Option Key) (w : List Record) (r : Record) (rs : List Record) → IsRising w → IsEnd (r ∷ rs) w → is_put r.kind ≡ true → KnowsCount n column left w (r ∷ rs) → nat_lt 0 (left_of n column left r.key) ≡ is_among keeps n w r
unfolding is_among
put_among keeps n left column w r rs up end p t =
    rw p (below_from n (length (filter (is_newer r) w)) (left_of n column left r.key) (t.counted r (inl refl) ∙ ap (λ l. left_of n column left r.key - length l) (none_newer r rs (rising_end (r ∷ rs) w end up))))

pub marker_among : (keeps : Bool) (n : ℕ) (w : List Record) (r : Record) → is_put r.kind ≡ false → keeps ≡ is_among keeps n w r
unfolding is_among
marker_among keeps n w r p = rw p refl

pub counts_marker : (n left : ℕ) (column : Option Key) (w : List Record) (r : Record) (rs : List Record) → IsRising w → IsEnd (r ∷ rs) w → is_put r.kind ≡ false → KnowsCount n column left w (r ∷ rs) → KnowsCount n column left w rs
counts_marker n left column w r rs up end p t = record {
  counted = λ u h. t.counted u (inr h) ∙ ap (λ v. left_of n column left u.key - length (cond v (r ∷ filter (is_newer u) rs) (filter (is_newer u) rs))) (newer_no u r p);
  ahead = λ u h. t.ahead u (inr h);
}

one_less : (l : ℕ) (r : Record) (xs : List Record) → l - length (r ∷ xs) ≡ (l - 1) - length xs
one_less l r xs = omega arith

pub counts_put : (n left : ℕ) (column after : Option Key) (w : List Record) (r : Record) (rs : List Record) → IsRising w → IsEnd (r ∷ rs) w → is_put r.kind ≡ true → IsColumnOf after r.key → KnowsCount n column left w (r ∷ rs) → KnowsCount n after (left_of n column left r.key - 1) w rs
counts_put n left column after w r rs up end p now t = record {
  counted = λ u h. t.counted u (inr h) ∙ by_bool (same_column r.key u.key) (here u h) (beyond u h);
  ahead = λ u h. now.upto u.key (column_upto r u (less u h));
}
  where
    less : (u : Record) → IsIn rs u → record_cmp r u ≡ Less
    less = first_less r rs (rising_end (r ∷ rs) w end up)

    is_of_same : (column : Option Key) (u : Record) → is_upto column r.key → IsIn rs u → same_column r.key u.key ≡ true → is_of column u.key ≡ is_of column r.key
    is_of_same None u a h s = refl
    is_of_same (Some c) u a h s = by_bool (same_column c r.key)
        (λ e. same_congr c r.key u.key e ∙ s ∙ sym e)
        (λ e. by_bool (same_column c u.key)
        (λ f. absurd (true≢false (sym (same_back r.key c (same_congr r.key u.key c s ∙ same_back c u.key f)) ∙ e)))
        (λ f. f ∙ sym e))

    here : (u : Record) → IsIn rs u → same_column r.key u.key ≡ true → left_of n column left u.key - length (filter (is_newer u) (r ∷ rs)) ≡ left_of n after (left_of n column left r.key - 1) u.key - length (filter (is_newer u) rs)
    here u h s =
        (λ i. cond (is_of_same column u (t.ahead r (inl refl)) h s i) left n - length (cond ((newer_first u r p (less u h) ∙ s) i) (r ∷ filter (is_newer u) rs) (filter (is_newer u) rs)))
        ∙ one_less (left_of n column left r.key) r (filter (is_newer u) rs)
        ∙ ap (λ v. cond v (left_of n column left r.key - 1) n - length (filter (is_newer u) rs)) (sym (now.same u.key ∙ s))

    beyond : (u : Record) → IsIn rs u → same_column r.key u.key ≡ false → left_of n column left u.key - length (filter (is_newer u) (r ∷ rs)) ≡ left_of n after (left_of n column left r.key - 1) u.key - length (filter (is_newer u) rs)
    beyond u h s =
        (λ i. cond (other i) left n - length (cond ((newer_first u r p (less u h) ∙ s) i) (r ∷ filter (is_newer u) rs) (filter (is_newer u) rs)))
        ∙ ap (λ v. cond v (left_of n column left r.key - 1) n - length (filter (is_newer u) rs)) (sym (now.same u.key ∙ s))
      where
        other : is_of column u.key ≡ false
        other = by_bool (is_of column u.key) (λ e. absurd (true≢false (sym (reaches column r u (t.ahead r (inl refl)) (less u h) e) ∙ s))) (λ e. e)
