-- Held records refine all updates just where those of some rows refine the updates of these rows, and the others those of the other rows.
use Rattle.std.proofs.Common.{◌≡◌, ◌≢◌, ◌⊎◌, inl, inr, ℕ, ◌<◌, List, ◌++◌, Bool, true, false, not, ◌&&◌, refl, sym, ◌∙◌, ap}
use Rattle.std.specs.Prelude.{ℤ, filter, bytes_eq, int_le, ◌<ℤ◌}
use Rattle.std.specs.List.{list_any}
use Rattle.std.specs.Cmp.Lexicographic.{bytes_decides}
use Rattle.std.specs.declared.cmp.Ordering.TheVariants.{Equal}
use mathlib.Core.Bool.{true≢false}
use Rattle.tab_key.specs.Kept.{is_put, same_column, hides, is_deleted, is_kept}
use Rattle.tab_key.specs.Order.{record_cmp}
use Rattle.tab_key.specs.Records.{Key, Record}
use Rattle.tab_key.specs.Sorted.{IsDistinct, IsIn}
use Rattle.tab_key.proofs.Rising.{in_from, in_to, in_filter, filter_in, distinct_filter}
use Rattle.tab_key.proofs.Ties.{tied_parts}
use Rattle.tab_cells.proofs.Lists.{by_bool, and_false, in_append, in_left, in_right, any_filter}
use Rattle.tab_cells.proofs.SeenColumns.{kept_seen}
use Rattle.tab_iter.proofs.BagLaws.{apart_join}
use Rattle.tab_history.specs.Held.{RefinesTable}
use Rattle.tab_history.proofs.Held.{any_in, any_from, not_false}
use Rattle.tab_history.proofs.HeldWrite.{covers}

-- ---- a test of rows
module _ (p : List ℕ → Bool) where
  abbrev pub here : Record → Bool
  here u = p u.key.row

  -- rows that pass lie in other columns than those that don't
  apart : (a b : Key) → p b.row ≡ true → p a.row ≡ false → same_column a b ≡ false
  unfolding same_column
  apart a b h n = go (bytes_eq a.row b.row) refl
    where
      go : (v : Bool) → bytes_eq a.row b.row ≡ v → (v && bytes_eq a.family b.family && bytes_eq a.qualifier b.qualifier && bytes_eq a.label b.label) ≡ false
      go true e = absurd (true≢false (sym h ∙ ap p (sym ((bytes_decides a.row b.row).0 e)) ∙ n))
      go false e = refl

  deleted_here : (us : List Record) (u : Record) → p u.key.row ≡ true → is_deleted us u ≡ is_deleted (filter here us) u
  unfolding is_deleted hides
  deleted_here us u h = any_filter here (λ m. hides m u) (λ m n. rw (apart m.key u.key h n) (ap (λ r. r && int_le u.key.timestamp m.key.timestamp) (and_false (not (is_put m.kind))))) us

  kept_here : (us : List Record) (n : ℕ) (u : Record) → p u.key.row ≡ true → is_kept us n u ≡ is_kept (filter here us) n u
  kept_here us n u h = kept_seen (λ (k : Key). p k.row) apart us n u h

  covered_here : (held : List Record) (m : Record) → p m.key.row ≡ true → list_any (covers m) held ≡ list_any (covers m) (filter here held)
  covered_here held m h = any_filter here (covers m) (λ k n. rw (apart k.key m.key h n) (ap (λ r. r && int_le m.key.timestamp k.key.timestamp) (and_false (not (is_put k.kind))))) held

  -- the held records of the rows that pass refine the updates of these rows
  pub rows_refine : (held us : List Record) (next n : ℕ) (floor : ℤ) → RefinesTable held us next n floor → RefinesTable (filter here held) (filter here us) next n floor
  rows_refine held us next n floor h = record {
    refines = record {
      accepted = λ u c. let k = in_filter here held u (in_from _ u c) in in_to _ u (filter_in here us u (in_from us u (h.refines.accepted u (in_to held u k.0))) k.1);
      kept = λ u c e. let k = in_filter here us u (in_from _ u c) in in_to _ u (filter_in here held u (in_from held u (h.refines.kept u (in_to us u k.0) (kept_here us n u k.1 ∙ e))) k.1);
      deleted = λ u c q d. let k = in_filter here held u (in_from _ u c) in sym (deleted_here held u k.1) ∙ h.refines.deleted u (in_to held u k.0) q (deleted_here us u k.1 ∙ d);
      dropped = λ m c q f. let k = in_filter here us m (in_from _ m c) in h.refines.dropped m (in_to us m k.0) q (ap not (covered_here held m k.1) ∙ f);
    };
    held_once = distinct_filter here held h.held_once;
    updates_once = distinct_filter here us h.updates_once;
    numbered = λ u c. h.numbered u (in_to us u (in_filter here us u (in_from _ u c)).0);
  }

-- ---- tests of two lists
any_more : (test : Record → Bool) (xs ys : List Record) → list_any test xs ≡ true → list_any test (xs ++ ys) ≡ true
any_more test xs ys e = let m = any_from test xs e in any_in test (xs ++ ys) m.0 (in_left xs ys m.0 m.1) m.2

any_later : (test : Record → Bool) (xs ys : List Record) → list_any test ys ≡ true → list_any test (xs ++ ys) ≡ true
any_later test xs ys e = let m = any_from test ys e in any_in test (xs ++ ys) m.0 (in_right xs ys m.0 m.1) m.2

none_before : (test : Record → Bool) (xs ys : List Record) → not (list_any test (xs ++ ys)) ≡ true → not (list_any test xs) ≡ true
none_before test xs ys e = by_bool (list_any test xs) (λ t. absurd (true≢false (sym (any_more test xs ys t) ∙ not_false _ e))) (λ f. ap not f)

none_after : (test : Record → Bool) (xs ys : List Record) → not (list_any test (xs ++ ys)) ≡ true → not (list_any test ys) ≡ true
none_after test xs ys e = by_bool (list_any test ys) (λ t. absurd (true≢false (sym (any_later test xs ys t) ∙ not_false _ e))) (λ f. ap not f)

-- ---- the rows that pass, and the others
module _ (p : List ℕ → Bool) where
  abbrev pub there : Record → Bool
  there u = not (p u.key.row)

module _ (p : List ℕ → Bool) (a b us : List Record) (next n : ℕ) (floor : ℤ) (low : RefinesTable a (filter (here p) us) next n floor) (high : RefinesTable b (filter (there p) us) next n floor) (once : IsDistinct us) (numbers : (u : Record) → IsIn us u → u.seq < next) where
  low_in : (u : Record) → IsIn a u → IsIn us u × (p u.key.row ≡ true)
  low_in u h = in_filter (here p) us u (in_from _ u (low.refines.accepted u (in_to a u h)))

  high_in : (u : Record) → IsIn b u → IsIn us u × (not (p u.key.row) ≡ true)
  high_in u h = in_filter (there p) us u (in_from _ u (high.refines.accepted u (in_to b u h)))

  accepted_both : (u : Record) → IsIn a u ⊎ IsIn b u → IsIn us u
  accepted_both u (inl h) = (low_in u h).0
  accepted_both u (inr h) = (high_in u h).0

  kept_both : (u : Record) → IsIn us u → is_kept us n u ≡ true → IsIn (a ++ b) u
  kept_both u h e = by_bool (p u.key.row)
      (λ t. in_left a b u (in_from a u (low.refines.kept u (in_to _ u (filter_in (here p) us u h t)) (sym (kept_here p us n u t) ∙ e))))
      (λ f. in_right a b u (in_from b u (high.refines.kept u (in_to _ u (filter_in (there p) us u h (ap not f))) (sym (kept_here (λ r. not (p r)) us n u (ap not f)) ∙ e))))

  deleted_both : (u : Record) → IsIn a u ⊎ IsIn b u → is_put u.kind ≡ true → is_deleted us u ≡ true → is_deleted (a ++ b) u ≡ true
  unfolding is_deleted
  deleted_both u (inl h) q d = any_more (λ m. hides m u) a b (low.refines.deleted u (in_to a u h) q (sym (deleted_here p us u (low_in u h).1) ∙ d))
  deleted_both u (inr h) q d = any_later (λ m. hides m u) a b (high.refines.deleted u (in_to b u h) q (sym (deleted_here (λ r. not (p r)) us u (high_in u h).1) ∙ d))

  dropped_both : (m : Record) → IsIn us m → not (is_put m.kind) ≡ true → not (list_any (covers m) (a ++ b)) ≡ true → m.key.timestamp <ℤ floor
  dropped_both m h q f = by_bool (p m.key.row)
      (λ t. low.refines.dropped m (in_to _ m (filter_in (here p) us m h t)) q (none_before (covers m) a b f))
      (λ e. high.refines.dropped m (in_to _ m (filter_in (there p) us m h (ap not e))) q (none_after (covers m) a b f))

  apart_both : (x y : Record) → IsIn a x → IsIn b y → record_cmp x y ≢ Equal
  apart_both x y h k e = true≢false (sym (low_in x h).1 ∙ ap p (ap (λ (z : Key). z.row) (tied_parts x y e).0) ∙ not_false _ (high_in y k).1)

  -- what refines the updates of some rows, and of the others, refines all
  pub joined_refines : RefinesTable (a ++ b) us next n floor
  joined_refines = record {
    refines = record {
      accepted = λ u c. in_to us u (accepted_both u (in_append a b u (in_from _ u c)));
      kept = λ u c e. in_to _ u (kept_both u (in_from us u c) e);
      deleted = λ u c q d. deleted_both u (in_append a b u (in_from _ u c)) q d;
      dropped = λ m c q f. dropped_both m (in_from us m c) q f;
    };
    held_once = apart_join a b low.held_once high.held_once apart_both;
    updates_once = once;
    numbered = λ u c. numbers u (in_from us u c);
  }
