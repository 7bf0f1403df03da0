-- The rules of a merge, one behind the other, let through what a merge keeps.
use Rattle.std.proofs.Common.{◌≡◌, ℕ, List, Bool, true, false, cond, not, ◌&&◌, ◌||◌, refl, sym, ◌∙◌, ap, length}
use Rattle.std.specs.Prelude.{ℤ, filter, nat_lt, int_lt}
use mathlib.Core.Bool.{true≢false}
use Rattle.tab_key.specs.Records.{Record}
use Rattle.tab_key.specs.Order.{stands_before}
use Rattle.tab_key.specs.Kept.{is_put, same_column, is_deleted, outranks, is_kept}
use Rattle.tab_key.specs.Sorted.{sorted, IsDistinct}
use Rattle.tab_cells.specs.Merged.{is_first_marker, survives, merged}
use Rattle.tab_cells.proofs.Lists.{by_bool, and_false, any_filter}
use Rattle.tab_iter.specs.Both.{admits_both}
use Rattle.tab_iter.specs.Layers.{is_left, is_newer, is_among, is_needed}
use Rattle.tab_iter.specs.Columns.{leads}
use Rattle.tab_iter.proofs.BagLaws.{sorted_filter}
use Rattle.tab_iter.proofs.StackLaws.{filter_equal, filter_twice, any_sorted, kept_sorted}

-- ---- over the sorted records as over the records
first_sorted : (us : List Record) (u : Record) → is_first_marker (sorted us) u ≡ is_first_marker us u
unfolding is_first_marker
first_sorted us u = ap (λ b. not (is_put u.kind) && not b) (any_sorted (λ m. leads m u) us)

survives_sorted : (us : List Record) (full : Bool) (floor : ℤ) (n : ℕ) (u : Record) → survives (sorted us) full floor n u ≡ survives us full floor n u
unfolding survives
survives_sorted us full floor n u = λ i. kept_sorted us n u i || first_sorted us u i && not (full && int_lt u.key.timestamp floor)

-- ---- rule by rule
-- each marker is left, so the first marker of what is left is the first of all
first_left : (w : List Record) (u : Record) → is_first_marker (filter (is_left true w) w) u ≡ is_first_marker w u
unfolding is_first_marker is_left
first_left w u = ap (λ b. not (is_put u.kind) && not b) (sym (any_filter (is_left true w) (λ m. leads m u) gone w))
  where
    gone : (m : Record) → cond (is_put m.kind) (not (is_deleted w m)) true ≡ false → leads m u ≡ false
    gone m = by_bool (is_put m.kind) (λ p _. rw p refl) (λ p e. absurd (true≢false (ap (λ v. cond v (not (is_deleted w m)) true) (sym p) ∙ e)))

-- what deleting and the first markers let through
lower : Bool → ℤ → List Record → Record → Bool
lower full floor w u = is_left true w u && is_needed full floor (filter (is_left true w) w) u

-- the newer ones let through are those that outrank it
newer_outranks : (full : Bool) (floor : ℤ) (w : List Record) (u v : Record) → (lower full floor w v && is_newer u v) ≡ outranks w u v
unfolding lower is_left is_needed is_newer outranks
newer_outranks full floor w u v = by_bool (is_put v.kind) (λ p. rw p (go (not (is_deleted w v)) (same_column v.key u.key) (stands_before v u))) (λ p. rw p (and_false _))
  where
    go : (d s b : Bool) → ((d && true) && ((true && s) && b)) ≡ (((true && s) && d) && b)
    go true true b = refl
    go true false b = refl
    go false true b = refl
    go false false b = refl

put_not_first : (w : List Record) (u : Record) → is_put u.kind ≡ true → is_first_marker w u ≡ false
unfolding is_first_marker
put_not_first w u p = rw p refl

kept_lower : (full : Bool) (floor : ℤ) (n : ℕ) (w : List Record) (u : Record) → (lower full floor w u && is_among true n (filter (lower full floor w) w) u) ≡ survives w full floor n u
unfolding lower is_left is_needed is_among survives is_kept
kept_lower full floor n w u = by_bool (is_put u.kind) put marker
  where
    put : is_put u.kind ≡ true → (lower full floor w u && is_among true n (filter (lower full floor w) w) u) ≡ survives w full floor n u
    put p =
        let newer = filter_twice (is_newer u) (lower full floor w) w ∙ filter_equal _ _ w (newer_outranks full floor w u) in
        rw (p, newer, put_not_first w u p) (go (not (is_deleted w u)) (nat_lt (length (filter (outranks w u) w)) n))
      where
        go : (d l : Bool) → ((d && true) && l) ≡ (((true && d) && l) || false)
        go true true = refl
        go true false = refl
        go false l = refl

    marker : is_put u.kind ≡ false → (lower full floor w u && is_among true n (filter (lower full floor w) w) u) ≡ survives w full floor n u
    marker p = rw (p, first_left w u) (go (is_first_marker w u && not (full && int_lt u.key.timestamp floor)))
      where
        go : (f : Bool) → ((true && (false || f)) && true) ≡ (false || f)
        go true = refl
        go false = refl

-- the rules one by one
pub merge_chain : (us : List Record) (keeps kept : Bool) (full f : Bool) (floor g : ℤ) (n m : ℕ) (p q : List Record → Record → Bool) (w left : List Record) → w ≡ sorted us → keeps ≡ true → f ≡ full → g ≡ floor → p ≡ admits_both (is_left keeps) (is_needed f g) → m ≡ n → kept ≡ true → q ≡ admits_both p (is_among kept m) → left ≡ filter (q w) w → IsDistinct us → left ≡ merged us full floor n
unfolding merged lower
merge_chain us keeps kept full f floor g n m p q w left e0 k ff gg ep mn kk eq e d =
    let ep2 : p ≡ lower full floor = ep ∙ (λ i. admits_both (is_left (k i)) (is_needed (ff i) (gg i))) in
    let eq2 : q ≡ admits_both (lower full floor) (is_among true n) = eq ∙ (λ i. admits_both (ep2 i) (is_among (kk i) (mn i))) in
    e ∙ (λ i. filter (eq2 i (e0 i)) (e0 i))
    ∙ filter_equal _ _ (sorted us) (kept_lower full floor n (sorted us))
    ∙ filter_equal _ _ (sorted us) (survives_sorted us full floor n)
    ∙ sym (sorted_filter (survives us full floor n) us d)
