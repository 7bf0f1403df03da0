-- What a table's tablets keep, whatever is done to them.
use Rattle.std.proofs.Common.{◌≡◌, ◌≢◌, ℕ, zero, suc, ◌+◌, ◌<◌, List, [], ◌∷◌, ◌++◌, Bool, true, false, not, cond, ◌||◌, refl, sym, ◌∙◌, ap, subst, length, get_or, arith}
use Rattle.std.specs.Prelude.{ℤ, Option, Some, None, Result, Ok, Err, OnOk, OnErr, filter, map, reverse, ◌==◌, nat_eq, nat_lt}
use Rattle.std.specs.List.{AllByRecursion, IsDistinct, filter_map, cons_option}
use Rattle.std.proofs.lemmas.Bool.Decides.{nat_tests}
use Rattle.std.proofs.lemmas.List.{length-map, length-reverse}
use Rattle.std.proofs.lemmas.List.Folds.{list_any-append}
use mathlib.Core.Bool.{true≢false}
use Rattle.tab_key.specs.Records.{Record}
use Rattle.tab_key.specs.Sorted.{IsIn}
use Rattle.tab_key.proofs.Each.{each_filter}
use Rattle.tab_mutation.specs.Mutations.{Update, Mutation}
use Rattle.tab_mutation.specs.Shape.{empty, oversize, shape_error}
use Rattle.tab_mutation.proofs.Shapes.{none_left}
use Rattle.tab_cells.specs.Written.{TimedUpdate, timed, records_of, mutation_records}
use Rattle.tab_cells.proofs.Lists.{by_bool}
use Rattle.tab_tablet.specs.Tablets.{Tablet, new_tablet, records_in, written}
use Rattle.tab_tablet.specs.Splitting.{split_at}
use Rattle.tab_tablets.specs.Places.{tablet_at, IsPlaceOf, at_place, is_end_row, is_among, moved_from, AreKept}
use Rattle.tab_tablets.proofs.At.{one, same_length, same_active, there, elsewhere, longer, before, behind, low_is_frozen, high_is_frozen, none_waits_in}
use Rattle.tab_tablets.proofs.Whole.{whole_map, whole_one, whole_split}
use Rattle.tab_tablets.proofs.Rows.{mutation_rows, rows_map, rows_one, rows_written, rows_split}

-- ---- tests of places
same_place : (a b : ℕ) → (a == b) ≡ true → a ≡ b
same_place a b e = grind (arith, nat_tests)

other_place : (a b : ℕ) → (a == b) ≡ false → a ≢ b
other_place a b e s = grind (arith, nat_tests)

itself : (k : ℕ) → (k == k) ≡ true
itself k = grind (arith, nat_tests)

or_none : (v w : Bool) → (v || w) ≡ false → (v ≡ false) × (w ≡ false)
or_none true w e = absurd (true≢false e)
or_none false w e = (refl, e)

-- ---- places that are noted once
all_more : (P : ℕ → Type 0) (ws : List ℕ) (p : ℕ) → AllByRecursion P ws → P p → AllByRecursion P (ws ++ p ∷ [])
all_more P [] p a b = (b, tt)
all_more P (w ∷ ws) p a b = (a.0, all_more P ws p a.1 b)

all_so : (P Q : ℕ → Type 0) → ((w : ℕ) → P w → Q w) → (ws : List ℕ) → AllByRecursion P ws → AllByRecursion Q ws
all_so P Q f [] a = tt
all_so P Q f (w ∷ ws) a = (f w a.0, all_so P Q f ws a.1)

pub none_apart : IsDistinct nat_eq []
unfolding IsDistinct
none_apart = tt

apart_more : (ws : List ℕ) (p : ℕ) → IsDistinct nat_eq ws → AllByRecursion (λ w. nat_eq w p ≡ false) ws → IsDistinct nat_eq (ws ++ p ∷ [])
unfolding IsDistinct
apart_more [] p d a = (tt, tt)
apart_more (w ∷ ws) p d a = (all_more (λ v. nat_eq w v ≡ false) ws p d.0 a.0, apart_more ws p d.1 a.1)

apart_filter : (q : ℕ → Bool) (ws : List ℕ) → IsDistinct nat_eq ws → IsDistinct nat_eq (filter q ws)
unfolding IsDistinct
apart_filter q [] d = tt
apart_filter q (w ∷ ws) d = go (q w) (each_filter (λ v. nat_eq w v ≡ false) q ws d.0) (apart_filter q ws d.1)
  where
    go : (b : Bool) → AllByRecursion (λ v. nat_eq w v ≡ false) (filter q ws) → IsDistinct nat_eq (filter q ws) → IsDistinct nat_eq (cond b (w ∷ filter q ws) (filter q ws))
    go true a ih = (a, ih)
    go false a ih = ih

-- ---- records that wait
some_before : (us vs : List Record) → us ≢ [] → us ++ vs ≢ []
some_before [] vs some e = some refl
some_before (u ∷ us) vs some e = let none : u ∷ (us ++ vs) ≡ [] = e in absurd (cc)

some_behind : (us vs : List Record) → vs ≢ [] → us ++ vs ≢ []
some_behind [] vs some e = some e
some_behind (u ∷ us) vs some e = let none : u ∷ (us ++ vs) ≡ [] = e in absurd (cc)

-- whatever is written to a tablet, what waited there waits still
still_waits : (us : List Record) (ts : List Tablet) (p k : ℕ) → (tablet_at ts k).active ≢ [] → (tablet_at (at_place p (one (written us)) ts) k).active ≢ []
still_waits us [] p k some = some
still_waits us (t ∷ ts) zero zero some = some_before t.active us some
still_waits us (t ∷ ts) zero (suc k) some = some
still_waits us (t ∷ ts) (suc p) zero some = some
still_waits us (t ∷ ts) (suc p) (suc k) some = still_waits us ts p k some

-- ---- at first
idle_one : (number k : ℕ) → (tablet_at (new_tablet number None ∷ []) k).active ≡ []
idle_one number zero = refl
idle_one number (suc k) = refl

pub kept_new : (number : ℕ) → AreKept (new_tablet number None ∷ []) []
kept_new number = record { whole = refl; rows = (λ u k. absurd k, λ u k. absurd k, tt); inside = tt; waiting = λ k e. idle_one number k; waits = tt; apart = none_apart }

-- ---- a write
module _ (ts : List Tablet) (ws : List ℕ) (kept : AreKept ts ws) where
  -- where something was written the place is noted
  pub noted : (p : ℕ) → (length (tablet_at ts p).active == 0) ≡ false → is_among ws p ≡ true
  noted p e = by_bool (is_among ws p) (λ t. t) (λ f. absurd (true≢false (ap (λ (l : List Record). length l == 0) (sym (kept.waiting p f)) ∙ e)))

  module _ (row : List ℕ) (us : List Record) (own : (u : Record) → IsIn us u → u.key.row ≡ row) (p : ℕ) (place : IsPlaceOf row ts p) where
    abbrev WaitsThen : ℕ → Type 0
    WaitsThen w = (tablet_at (at_place p (one (written us)) ts) w).active ≢ []

    -- what waited before
    wait_still : AllByRecursion WaitsThen ws
    wait_still = all_so (λ w. (tablet_at ts w).active ≢ []) WaitsThen (λ w some. still_waits us ts p w some) ws kept.waits

    kept_so : (vs : List ℕ) → AllByRecursion (λ w. w < length ts) vs → is_among vs p ≡ true → ((k : ℕ) → is_among vs k ≡ false → is_among ws k ≡ false) → AllByRecursion WaitsThen vs → IsDistinct nat_eq vs → AreKept (at_place p (one (written us)) ts) vs
    kept_so vs inside is all waits apart = record {
      whole = whole_one (written us) (λ t. refl) ts p kept.whole;
      rows = rows_written row us own ts p place kept.rows;
      inside = subst (λ n. AllByRecursion (λ w. w < n) vs) (sym (same_length (written us) ts p)) inside;
      waiting = λ k e. ap (λ (t : Tablet). t.active) (elsewhere (written us) ts p k (λ s. true≢false (sym is ∙ ap (is_among vs) (sym s) ∙ e))) ∙ kept.waiting k (all k e);
      waits = waits;
      apart = apart;
    }

    -- to a tablet to which something was written already
    pub kept_again : (length (tablet_at ts p).active == 0) ≡ false → AreKept (at_place p (one (written us)) ts) ws
    kept_again e = kept_so ws kept.inside (noted p e) (λ k f. f) wait_still kept.apart

    -- and to another one, whose place isn't noted
    pub kept_first : (tablet_at ts p).active ≡ [] → us ≢ [] → AreKept (at_place p (one (written us)) ts) (ws ++ p ∷ [])
    kept_first idle some = kept_so (ws ++ p ∷ []) (all_more (λ w. w < length ts) ws p kept.inside place.inside)
        (list_any-append (λ w. w == p) ws (p ∷ []) ∙ ap (λ v. is_among ws p || (v || false)) (itself p) ∙ or_true (is_among ws p))
        (λ k e. (or_none (is_among ws k) (is_among (p ∷ []) k) (sym (list_any-append (λ w. w == k) ws (p ∷ [])) ∙ e)).0)
        (all_more WaitsThen ws p wait_still (λ e. some_behind (tablet_at ts p).active us some (sym (ap (λ (t : Tablet). t.active) (there (written us) ts p place.inside)) ∙ e)))
        (apart_more ws p kept.apart (all_so (λ w. (tablet_at ts w).active ≢ []) (λ w. nat_eq w p ≡ false) (λ w waits. by_bool (w == p) (λ t. absurd (waits (ap (λ j. (tablet_at ts j).active) (same_place w p t) ∙ idle))) (λ f. f)) ws kept.waits))
      where
        or_true : (v : Bool) → (v || (true || false)) ≡ true
        or_true true = refl
        or_true false = refl

  -- where one place is noted, something waits there and nothing elsewhere
  pub only_one : length ws ≡ 1 → (p : ℕ) → p ≡ get_or ws 0 p → (p < length ts) × ((tablet_at ts p).active ≢ []) × ((k : ℕ) → k ≢ p → (tablet_at ts k).active ≡ [])
  only_one count p is = go ws count is kept.inside kept.waits kept.waiting
    where
      other : (w k : ℕ) → k ≢ w → (w == k) ≡ false
      other w k ne = by_bool (w == k) (λ t. absurd (ne (sym (same_place w k t)))) (λ f. f)

      go : (vs : List ℕ) → length vs ≡ 1 → p ≡ get_or vs 0 p → AllByRecursion (λ w. w < length ts) vs → AllByRecursion (λ w. (tablet_at ts w).active ≢ []) vs → ((k : ℕ) → is_among vs k ≡ false → (tablet_at ts k).active ≡ []) → (p < length ts) × ((tablet_at ts p).active ≢ []) × ((k : ℕ) → k ≢ p → (tablet_at ts k).active ≡ [])
      go [] n e inside waits waiting = absurd (omega (arith, n))
      go (v ∷ []) n e inside waits waiting = (subst (λ w. w < length ts) (sym e) inside.0, subst (λ w. (tablet_at ts w).active ≢ []) (sym e) waits.0, λ k ne. waiting k (ap (λ x. x || false) (other v k (λ s. ne (s ∙ sym e)))))
      go (v ∷ w ∷ vs) n e inside waits waiting = absurd (omega (arith, n))

  -- ---- a freeze or a compaction of all of them
  pub kept_all : (f : Tablet → Tablet) → ((t : Tablet) → (f t).end ≡ t.end) → ((t : Tablet) (u : Record) → IsIn (records_in (f t)) u → IsIn (records_in t) u) → ((t : Tablet) → (f t).active ≡ []) → AreKept (map f ts) []
  kept_all f ends fewer idle = record {
    whole = whole_map f ends ts kept.whole;
    rows = rows_map f ends fewer ts kept.rows;
    inside = tt;
    waiting = λ k e. none_waits_in f idle ts k;
    waits = tt;
    apart = none_apart;
  }

  -- ---- something done with one of them, which leaves no other record
  module _ (f : Tablet → Tablet) (ends : (t : Tablet) → (f t).end ≡ t.end) (fewer : (t : Tablet) (u : Record) → IsIn (records_in (f t)) u → IsIn (records_in t) u) (p : ℕ) where
    abbrev Waits : ℕ → Type 0
    Waits w = (tablet_at (at_place p (one f) ts) w).active ≢ []

    kept_with : (vs : List ℕ) → AllByRecursion (λ w. w < length ts) vs → ((k : ℕ) → is_among vs k ≡ false → (tablet_at (at_place p (one f) ts) k).active ≡ []) → AllByRecursion Waits vs → IsDistinct nat_eq vs → AreKept (at_place p (one f) ts) vs
    kept_with vs inside waiting waits apart = record {
      whole = whole_one f ends ts p kept.whole;
      rows = rows_one f ends fewer ts p kept.rows;
      inside = subst (λ n. AllByRecursion (λ w. w < n) vs) (sym (same_length f ts p)) inside;
      waiting = waiting;
      waits = waits;
      apart = apart;
    }

    -- and leaves what waits to be frozen
    pub kept_one : ((t : Tablet) → (f t).active ≡ t.active) → AreKept (at_place p (one f) ts) ws
    kept_one idle = kept_with ws kept.inside (λ k e. same_active f idle ts p k ∙ kept.waiting k e)
        (all_so (λ w. (tablet_at ts w).active ≢ []) Waits (λ w waits e. waits (sym (same_active f idle ts p w) ∙ e)) ws kept.waits)
        kept.apart

    abbrev others : List ℕ → List ℕ
    others vs = filter (λ w. not (w == p)) vs

    others_wait : (vs : List ℕ) → AllByRecursion (λ w. (tablet_at ts w).active ≢ []) vs → AllByRecursion Waits (others vs)
    others_wait [] a = tt
    others_wait (v ∷ vs) a = go (v == p) refl (others_wait vs a.1)
      where
        go : (b : Bool) → (v == p) ≡ b → AllByRecursion Waits (others vs) → AllByRecursion Waits (cond (not b) (v ∷ others vs) (others vs))
        go true e ih = ih
        go false e ih = (λ none. a.0 (sym (ap (λ (x : Tablet). x.active) (elsewhere f ts p v (other_place v p e))) ∙ none), ih)

    -- a place that isn't this one, and isn't among the others, was none of them
    not_other : (vs : List ℕ) (k : ℕ) → (k == p) ≡ false → is_among (others vs) k ≡ false → is_among vs k ≡ false
    not_other [] k n e = refl
    not_other (v ∷ vs) k n e = by_bool (v == p)
        (λ t. λ i. differs (same_place v p t) i || not_other vs k n (ap (λ b. is_among (cond (not b) (v ∷ others vs) (others vs)) k) (sym t) ∙ e) i)
        (λ g. let h = or_none (v == k) (is_among (others vs) k) (ap (λ b. is_among (cond (not b) (v ∷ others vs) (others vs)) k) (sym g) ∙ e) in λ i. h.0 i || not_other vs k n h.1 i)
      where
        differs : v ≡ p → (v == k) ≡ false
        differs s = by_bool (v == k) (λ t. absurd (true≢false (sym (itself k) ∙ ap (λ x. k == x) (sym (same_place v k t) ∙ s) ∙ n))) (λ g. g)

    -- and leaves nothing to be frozen there
    pub kept_frozen : p < length ts → ((t : Tablet) → (f t).active ≡ []) → AreKept (at_place p (one f) ts) (others ws)
    kept_frozen inside idle = kept_with (others ws) (each_filter (λ w. w < length ts) (λ w. not (w == p)) ws kept.inside) (λ k e. by_bool (k == p)
        (λ t. ap (λ j. (tablet_at (at_place p (one f) ts) j).active) (same_place k p t) ∙ ap (λ (x : Tablet). x.active) (there f ts p inside) ∙ idle (tablet_at ts p))
        (λ n. ap (λ (x : Tablet). x.active) (elsewhere f ts p k (other_place k p n)) ∙ kept.waiting k (not_other ws k n e)))
        (others_wait ws kept.waits)
        (apart_filter (λ w. not (w == p)) ws kept.apart)

-- ---- a split
module _ (p : ℕ) where
  pub moved_below : (k : ℕ) → k < p → moved_from p k ≡ Some k
  moved_below k lt = (λ i. cond (other i) None (Some (cond (over i) (k + 1) k)))
    where
      other : (k == p) ≡ false
      other = grind (arith, nat_tests)

      over : nat_lt p k ≡ false
      over = grind (arith, nat_tests)

  pub moved_above : (k : ℕ) → p < k → moved_from p k ≡ Some (suc k)
  moved_above k lt = (λ i. cond (other i) None (Some (cond (over i) (more i) k)))
    where
      other : (k == p) ≡ false
      other = grind (arith, nat_tests)

      over : nat_lt p k ≡ true
      over = grind (arith, nat_tests)

      more : k + 1 ≡ suc k
      more = omega arith

  pub moved_none : moved_from p p ≡ None
  moved_none = ap (λ v. cond v None (Some (cond (nat_lt p p) (p + 1) p))) (itself p)

  rest_not : (o : Option ℕ) (l : List ℕ) (k : ℕ) → is_among (cons_option o l) k ≡ false → is_among l k ≡ false
  rest_not None l k e = e
  rest_not (Some w) l k e = (or_none (w == k) (is_among l k) e).1

  -- a place that isn't among the moved ones wasn't among them
  not_among : (ws : List ℕ) (w k : ℕ) → moved_from p w ≡ Some k → is_among (filter_map (moved_from p) ws) k ≡ false → is_among ws w ≡ false
  not_among [] w k m e = refl
  not_among (v ∷ ws) w k m e = by_bool (v == w)
      (λ t. absurd (true≢false (ap (λ x. x || is_among (filter_map (moved_from p) ws) k) (sym (itself k)) ∙ ap (λ (o : Option ℕ). is_among (cons_option o (filter_map (moved_from p) ws)) k) (sym (ap (moved_from p) (same_place v w t) ∙ m)) ∙ e)))
      (λ f. (λ i. f i || not_among ws w k m (rest_not (moved_from p v) (filter_map (moved_from p) ws) k e) i))

  moved_inside : (n : ℕ) (ws : List ℕ) → AllByRecursion (λ w. w < n) ws → AllByRecursion (λ w. w < n + 1) (filter_map (moved_from p) ws)
  moved_inside n [] a = tt
  moved_inside n (w ∷ ws) a = go (w == p) (nat_lt p w) (moved_inside n ws a.1)
    where
      go : (v x : Bool) → AllByRecursion (λ w. w < n + 1) (filter_map (moved_from p) ws) → AllByRecursion (λ w. w < n + 1) (cons_option (cond v None (Some (cond x (w + 1) w))) (filter_map (moved_from p) ws))
      go true x ih = ih
      go false true ih = (let lt = a.0 in omega (arith, lt), ih)
      go false false ih = (let lt = a.0 in omega (arith, lt), ih)

  -- they stay apart
  abbrev shifted : ℕ → ℕ
  shifted w = cond (nat_lt p w) (w + 1) w

  moved_differ : (v w : ℕ) (x y : Bool) → nat_lt p v ≡ x → nat_lt p w ≡ y → (v == p) ≡ false → (w == p) ≡ false → nat_eq v w ≡ false → nat_eq (cond x (v + 1) v) (cond y (w + 1) w) ≡ false
  moved_differ v w true true a b c d e = grind (arith, nat_tests)
  moved_differ v w true false a b c d e = grind (arith, nat_tests)
  moved_differ v w false true a b c d e = grind (arith, nat_tests)
  moved_differ v w false false a b c d e = e

  moved_others : (v : ℕ) → (v == p) ≡ false → (ws : List ℕ) → AllByRecursion (λ w. nat_eq v w ≡ false) ws → AllByRecursion (λ w. nat_eq (shifted v) w ≡ false) (filter_map (moved_from p) ws)
  moved_others v other [] a = tt
  moved_others v other (w ∷ ws) a = go (w == p) refl (moved_others v other ws a.1)
    where
      go : (b : Bool) → (w == p) ≡ b → AllByRecursion (λ w. nat_eq (shifted v) w ≡ false) (filter_map (moved_from p) ws) → AllByRecursion (λ w. nat_eq (shifted v) w ≡ false) (cons_option (cond b None (Some (shifted w))) (filter_map (moved_from p) ws))
      go true e ih = ih
      go false e ih = (moved_differ v w (nat_lt p v) (nat_lt p w) refl refl other e a.0, ih)

  moved_apart : (ws : List ℕ) → IsDistinct nat_eq ws → IsDistinct nat_eq (filter_map (moved_from p) ws)
  unfolding IsDistinct
  moved_apart [] d = tt
  moved_apart (w ∷ ws) d = go (w == p) refl (moved_apart ws d.1)
    where
      go : (b : Bool) → (w == p) ≡ b → IsDistinct nat_eq (filter_map (moved_from p) ws) → IsDistinct nat_eq (cons_option (cond b None (Some (shifted w))) (filter_map (moved_from p) ws))
      go true e ih = ih
      go false e ih = (moved_others w e ws d.0, ih)

module _ (ts : List Tablet) (ws : List ℕ) (kept : AreKept ts ws) (row : List ℕ) (number p : ℕ) (place : IsPlaceOf row ts p) (new : is_end_row row (tablet_at ts p).end ≡ false) where
  abbrev after : List Tablet
  after = at_place p (split_at row number) ts

  abbrev moved : List ℕ
  moved = filter_map (moved_from p) ws

  idle_below : (k : ℕ) → k < p → is_among moved k ≡ false → (tablet_at after k).active ≡ []
  idle_below k lt e = ap (λ (t : Tablet). t.active) (before row number ts p k lt) ∙ kept.waiting k (not_among p ws k k (moved_below p k lt) e)

  idle_above : (k : ℕ) → p < k → is_among moved (suc k) ≡ false → (tablet_at after (suc k)).active ≡ []
  idle_above k lt e = ap (λ (t : Tablet). t.active) (behind row number ts p k lt) ∙ kept.waiting k (not_among p ws k (suc k) (moved_above p k lt) e)

  idle_from : (k : ℕ) → (k == p) ≡ false → nat_lt k p ≡ false → is_among moved k ≡ false → (tablet_at after k).active ≡ []
  idle_from zero ne ge e = absurd (true≢false (sym (none p ne) ∙ ge))
    where
      none : (q : ℕ) → (0 == q) ≡ false → nat_lt 0 q ≡ true
      none q n = grind (arith, nat_tests)
  idle_from (suc k) ne ge e = by_bool (k == p)
      (λ t. subst (λ j. (tablet_at after (suc j)).active ≡ []) (sym (same_place k p t)) (high_is_frozen row number ts p))
      (λ f. idle_above k (more k ne ge f) e)
    where
      more : (j : ℕ) → (suc j == p) ≡ false → nat_lt (suc j) p ≡ false → (j == p) ≡ false → p < j
      more j a b c = grind (arith, nat_tests)

  moved_wait : (vs : List ℕ) → AllByRecursion (λ w. (tablet_at ts w).active ≢ []) vs → AllByRecursion (λ w. (tablet_at after w).active ≢ []) (filter_map (moved_from p) vs)
  moved_wait [] a = tt
  moved_wait (w ∷ vs) a = go (w == p) (nat_lt p w) refl refl (moved_wait vs a.1)
    where
      over : nat_lt p w ≡ true → p < w
      over e = grind (arith, nat_tests)

      under : (w == p) ≡ false → nat_lt p w ≡ false → w < p
      under n e = grind (arith, nat_tests)

      next : w + 1 ≡ suc w
      next = omega arith

      go : (v x : Bool) → (w == p) ≡ v → nat_lt p w ≡ x → AllByRecursion (λ w. (tablet_at after w).active ≢ []) (filter_map (moved_from p) vs) → AllByRecursion (λ w. (tablet_at after w).active ≢ []) (cons_option (cond v None (Some (cond x (w + 1) w))) (filter_map (moved_from p) vs))
      go true x n e ih = ih
      go false true n e ih = (λ none. a.0 (sym (ap (λ (t : Tablet). t.active) (ap (tablet_at after) next ∙ behind row number ts p w (over e))) ∙ none), ih)
      go false false n e ih = (λ none. a.0 (sym (ap (λ (t : Tablet). t.active) (before row number ts p w (under n e))) ∙ none), ih)

  pub kept_split : AreKept after moved
  kept_split = record {
    whole = whole_split row number ts p place new kept.whole;
    rows = rows_split row number ts p place kept.rows;
    inside = subst (λ n. AllByRecursion (λ w. w < n) moved) (sym (longer row number ts p place.inside)) (moved_inside p (length ts) ws kept.inside);
    waiting = λ k e. by_bool (nat_lt k p) (λ t. idle_below k (less k t) e)
        (λ ge. by_bool (k == p) (λ s. subst (λ j. (tablet_at after j).active ≡ []) (sym (same_place k p s)) (low_is_frozen row number ts p)) (λ ne. idle_from k ne ge e));
    waits = moved_wait ws kept.waits;
    apart = moved_apart p ws kept.apart;
  }
    where
      less : (k : ℕ) → nat_lt k p ≡ true → k < p
      less k t = grind (arith, nat_tests)

-- ---- whether or not something went in
pub either : {T E : Type 0} (P : List Tablet → Type 0) (r : Result T E) (a b new : List Tablet) → OnOk r (new ≡ a) → OnErr r (new ≡ b) → P a → P b → P new
either P (Ok x) a b new ok err p q = subst P (sym ok) p
either P (Err x) a b new ok err p q = subst P (sym err) q

-- the records of a mutation are of its row
pub own_rows : (seq : ℕ) (clock : ℤ) (m : Mutation) (u : Record) → IsIn (mutation_records seq clock m) u → u.key.row ≡ m.row
own_rows seq clock m u k = mutation_rows seq m.row (reverse (map (timed clock) m.updates)) u k

-- and there are some, as an accepted shape has an update
none_recorded : (seq : ℕ) (row : List ℕ) (us : List TimedUpdate) → records_of seq row us ≡ [] → length us ≡ 0
unfolding records_of
none_recorded seq row [] e = refl
none_recorded seq row (u ∷ us) e = absurd (cc)

has_update : (us : List Update) → empty us ≡ None → length us ≢ 0
has_update [] e n = absurd (cc)
has_update (u ∷ us) e n = omega (arith, n)

pub some_records : (seq : ℕ) (clock : ℤ) (m : Mutation) → shape_error m ≡ None → mutation_records seq clock m ≢ []
unfolding shape_error
some_records seq clock m shape e =
    let none = none_recorded seq m.row (reverse (map (timed clock) m.updates)) e in
    has_update m.updates (none_left (empty m.updates) (oversize m) shape) (sym (length-reverse (map (timed clock) m.updates) ∙ length-map m.updates (timed clock)) ∙ none)
