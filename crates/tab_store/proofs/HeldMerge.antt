-- Held records still refine the updates once some of them are merged.
use Rattle.std.proofs.Common.{◌≡◌, ◌⊎◌, inl, inr, ℕ, ◌≤◌, List, [], ◌∷◌, ◌++◌, Bool, true, false, not, ◌&&◌, ◌||◌, refl, sym, ◌∙◌, ap, length, arith}
use Rattle.std.specs.Prelude.{ℤ, filter, int_le, int_lt, ◌<ℤ◌}
use Rattle.std.specs.List.{list_any}
use Rattle.std.specs.Cmp.{first_so, second_so}
use Rattle.std.specs.Ordering.{int_cmp, nat_cmp, ordering_then, is_lt}
use Rattle.std.specs.declared.cmp.Ordering.{Ordering}
use Rattle.std.specs.declared.cmp.Ordering.TheVariants.{Less, Equal, Greater}
use Rattle.std.proofs.lemmas.Int.{ints}
use mathlib.Core.Bool.{true≢false}
use Rattle.tab_key.specs.Kept.{is_put, same_column, hides, is_deleted, outranks, is_kept}
use Rattle.tab_key.specs.Order.{kind_rank, key_cmp, place_cmp, newer_cmp, stands_before}
use Rattle.tab_key.specs.Records.{Record}
use Rattle.tab_key.specs.Sorted.{IsDistinct, IsIn}
use Rattle.tab_history.specs.Held.{RefinesUpdates}
use Rattle.tab_cells.specs.Merged.{is_first_marker, survives, merged}
use Rattle.tab_key.proofs.Order.{record_cmp_total, not_before_itself}
use Rattle.tab_key.proofs.Rising.{in_from, in_to, in_filter, filter_in, distinct_filter, in_sorted, sorted_in}
use Rattle.tab_history.proofs.Held.{no_longer, any_in, any_from, not_false, before_less, ranks, rank_from, column_trans, kept_parts, kept_from}
use Rattle.tab_cells.proofs.Lists.{by_bool, in_append, in_left, in_right}
use Rattle.tab_iter.proofs.ColumnLaws.{same_back}
use Rattle.tab_history.proofs.HeldWrite.{column_itself, same_tied, hides_parts, Hides, hides_from, le_trans_z, hides_older, deleted_by, deleted_from, covers}

no_later : (x y : ℤ) (k m : Ordering) → is_lt (ordering_then (ordering_then (ordering_then Equal (int_cmp x y)) k) m) ≡ false → int_le y x ≡ true
no_later x y k m e = go (int_cmp x y) refl e
  where
    go : (o : Ordering) → int_cmp x y ≡ o → is_lt (ordering_then (ordering_then o k) m) ≡ false → int_le y x ≡ true
    go Less c e = absurd (true≢false e)
    go Equal c e = grind (arith, ints)
    go Greater c e = grind (arith, ints)

-- of two records of one column, one that doesn't stand before the other is no younger in time
not_ahead : (m k : Record) → same_column m.key k.key ≡ true → stands_before m k ≡ false → int_le m.key.timestamp k.key.timestamp ≡ true
unfolding place_cmp key_cmp
not_ahead m k c b = no_later k.key.timestamp m.key.timestamp (nat_cmp (kind_rank m.kind) (kind_rank k.kind)) (newer_cmp m k) (ap (λ o. is_lt (ordering_then (ordering_then (ordering_then o (int_cmp k.key.timestamp m.key.timestamp)) (nat_cmp (kind_rank m.kind) (kind_rank k.kind))) (newer_cmp m k))) (sym (same_tied m.key k.key c)) ∙ b)

-- a member that passes, before which none that passes stands
pub record First (p : Record → Bool) (xs : List Record) : Type 0 where
  pub which : Record
  pub member : IsIn xs which
  pub passes : p which ≡ true
  pub first : (w : Record) → IsIn xs w → p w ≡ true → stands_before w which ≡ false

not_before_chain : (w y x : Record) → stands_before x y ≡ true → stands_before w y ≡ false → stands_before w x ≡ false
not_before_chain w y x b n = by_bool (stands_before w x) (λ t. absurd (true≢false (sym (ap is_lt (record_cmp_total.trans w x y (before_less w x t) (before_less x y b))) ∙ n))) (λ f. f)

first_of : (p : Record → Bool) (xs : List Record) (m : Record) → IsIn xs m → p m ≡ true → First p xs
first_of p [] m h e = absurd h
first_of p (x ∷ xs) m h e = by_bool (list_any p xs) (λ t. let r = any_from p xs t in joined (first_of p xs r.0 r.1 r.2)) alone
  where
    mine : list_any p xs ≡ false → IsIn (x ∷ xs) m → p x ≡ true
    mine f (inl s) = ap p s ∙ e
    mine f (inr k) = absurd (true≢false (sym (any_in p xs m k e) ∙ f))

    alone : list_any p xs ≡ false → First p (x ∷ xs)
    alone f = record { which = x; member = inl refl; passes = mine f h; first = only }
      where
        only : (w : Record) → IsIn (x ∷ xs) w → p w ≡ true → stands_before w x ≡ false
        only w (inl s) q = ap (λ z. stands_before z x) (sym s) ∙ not_before_itself x
        only w (inr k) q = absurd (true≢false (sym (any_in p xs w k q) ∙ f))

    joined : First p xs → First p (x ∷ xs)
    joined r = by_bool (p x && stands_before x r.which)
        (λ t. record { which = x; member = inl refl; passes = first_so (p x) (stands_before x r.which) t; first = λ w k q. ahead t w k q })
        (λ f. record { which = r.which; member = inr r.member; passes = r.passes; first = λ w k q. behind f w k q })
      where
        ahead : (p x && stands_before x r.which) ≡ true → (w : Record) → IsIn (x ∷ xs) w → p w ≡ true → stands_before w x ≡ false
        ahead t w (inl s) q = ap (λ z. stands_before z x) (sym s) ∙ not_before_itself x
        ahead t w (inr k) q = not_before_chain w r.which x (second_so (p x) (stands_before x r.which) t) (r.first w k q)

        behind : (p x && stands_before x r.which) ≡ false → (w : Record) → IsIn (x ∷ xs) w → p w ≡ true → stands_before w r.which ≡ false
        behind f w (inl s) q = by_bool (stands_before w r.which) (λ t. absurd (true≢false (sym (both_pass (p x) (stands_before x r.which) (ap p s ∙ q) (ap (λ z. stands_before z r.which) s ∙ t)) ∙ f))) (λ g. g)
          where
            both_pass : (a b : Bool) → a ≡ true → b ≡ true → (a && b) ≡ true
            both_pass a b g h = rw (g, h) refl
        behind f w (inr k) q = r.first w k q

abbrev is_marker_of : Record → Record → Bool
is_marker_of m k = not (is_put k.kind) && same_column k.key m.key

-- the first marker of the column stands at or above each marker of it
pub record Top (inputs : List Record) (m : Record) : Type 0 where
  pub which : Record
  pub member : IsIn inputs which
  pub marker : not (is_put which.kind) ≡ true
  pub column : same_column which.key m.key ≡ true
  pub above : int_le m.key.timestamp which.key.timestamp ≡ true
  pub first : is_first_marker inputs which ≡ true

top_of : (inputs : List Record) (m : Record) → IsIn inputs m → not (is_put m.kind) ≡ true → Top inputs m
unfolding is_first_marker
top_of inputs m h p =
    let r : First (is_marker_of m) inputs = first_of (is_marker_of m) inputs m h (rw (p, column_itself m.key) refl) in
    let marker : not (is_put r.which.kind) ≡ true = first_so (not (is_put r.which.kind)) (same_column r.which.key m.key) r.passes in
    let column : same_column r.which.key m.key ≡ true = second_so (not (is_put r.which.kind)) (same_column r.which.key m.key) r.passes in
    record {
      which = r.which;
      member = r.member;
      marker = marker;
      column = column;
      above = not_ahead m r.which (same_back r.which.key m.key column) (r.first m h (rw (p, column_itself m.key) refl));
      first = rw marker (ap not (by_bool (list_any (λ k. not (is_put k.kind) && same_column k.key r.which.key && stands_before k r.which) inputs) (λ t. absurd (none r column (any_from (λ k. not (is_put k.kind) && same_column k.key r.which.key && stands_before k r.which) inputs t))) (λ f. f)));
    }
  where
    none : (r : First (is_marker_of m) inputs) → same_column r.which.key m.key ≡ true → ((k : Record) × IsIn inputs k × ((not (is_put k.kind) && same_column k.key r.which.key && stands_before k r.which) ≡ true)) → ⊥
    none r column k =
        let a = first_so (not (is_put k.0.kind) && same_column k.0.key r.which.key) (stands_before k.0 r.which) k.2 in
        let b = second_so (not (is_put k.0.kind) && same_column k.0.key r.which.key) (stands_before k.0 r.which) k.2 in
        let marker = first_so (not (is_put k.0.kind)) (same_column k.0.key r.which.key) a in
        let same = column_trans k.0.key r.which.key m.key (second_so (not (is_put k.0.kind)) (same_column k.0.key r.which.key) a) column in
        true≢false (sym b ∙ r.first k.0 k.1 (rw (marker, same) refl))

lt_le_z : (x y z : ℤ) → int_le x y ≡ true → int_lt y z ≡ true → int_lt x z ≡ true
lt_le_z x y z p q = grind (arith, ints)

lt_yes_z : (x y z : ℤ) → int_lt x y ≡ true → int_le y z ≡ true → x <ℤ z
lt_yes_z x y z p q = grind (arith, ints)

not_lt_z : (x y : ℤ) → int_le y x ≡ true → int_lt x y ≡ true → ⊥
not_lt_z x y p q = grind (arith, ints)

or_true : (a b : Bool) → a ≡ true → (a || b) ≡ true
or_true a b e = rw e refl

or_last : (a b : Bool) → b ≡ true → (a || b) ≡ true
or_last true b e = refl
or_last false b e = e

-- The inputs were merged by a job with at least as many versions and no higher a floor than now. If it was a full one, whatever else is held of a column of theirs lies at or above its floor.
module _ (inputs rest us : List Record) (n versions : ℕ) (floor low : ℤ) (full : Bool) (refines : RefinesUpdates (inputs ++ rest) us n floor) (lone : IsDistinct inputs) (more : n ≤ versions) (lower : int_le low floor ≡ true) (above : full ≡ true → (u m : Record) → IsIn rest u → IsIn inputs m → same_column m.key u.key ≡ true → int_le low u.key.timestamp ≡ true) where
  unfoldable pub output : List Record
  output = merged inputs full low versions

  in_output : (u : Record) → IsIn inputs u → survives inputs full low versions u ≡ true → IsIn output u
  unfolding output merged
  in_output u h e = sorted_in _ u (filter_in (survives inputs full low versions) inputs u h e)

  from_output : (u : Record) → IsIn output u → IsIn inputs u × (survives inputs full low versions u ≡ true)
  unfolding output merged
  from_output u h = in_filter (survives inputs full low versions) inputs u (in_sorted _ u h)

  accepted : (u : Record) → IsIn inputs u ⊎ IsIn rest u → IsIn us u
  accepted u (inl h) = in_from us u (refines.accepted u (in_to _ u (in_left inputs rest u h)))
  accepted u (inr h) = in_from us u (refines.accepted u (in_to _ u (in_right inputs rest u h)))

  -- what is kept of the updates is kept of the inputs
  kept_input : (u : Record) → IsIn inputs u → is_kept us n u ≡ true → is_kept inputs versions u ≡ true
  kept_input u h e =
      let k = kept_parts us n u e in
      let live : is_deleted inputs u ≡ false = by_bool (is_deleted inputs u) (λ t. let m = deleted_from inputs u t in absurd (true≢false (sym (deleted_by us m.0 u (accepted m.0 (inl m.1)) m.2) ∙ k.live))) (λ f. f) in
      let fewer : length (filter (outranks inputs u) inputs) ≤ length (filter (outranks us u) us) = no_longer _ _ (distinct_filter (outranks inputs u) inputs lone)
      (λ v m.
      let p = in_filter (outranks inputs u) inputs v m in
      let r = ranks inputs u v p.1 in
      let alive : is_deleted us v ≡ false = by_bool (is_deleted us v) (λ t. let d = deleted_from us v t in absurd (true≢false (sym (deleted_by us d.0 u d.1 (hides_older d.0 v u r.column r.ahead d.2)) ∙ k.live))) (λ f. f) in
      filter_in (outranks us u) us v (accepted v (inl p.0)) (rank_from us u v (record { put = r.put; column = r.column; live = alive; ahead = r.ahead }))) in
      kept_from inputs versions u (record { put = k.put; live = live; few = omega (arith, k.few) })

  -- a marker of the inputs: its column's first survives, or the merge is full and that lies below its floor
  survivor : (t : Record) → is_first_marker inputs t ≡ true → (survives inputs full low versions t ≡ true) ⊎ ((full ≡ true) × (int_lt t.key.timestamp low ≡ true))
  unfolding survives
  survivor t f = by_bool (full && int_lt t.key.timestamp low)
      (λ e. inr (first_so full (int_lt t.key.timestamp low) e, second_so full (int_lt t.key.timestamp low) e))
      (λ e. inl (or_last (is_kept inputs versions t) _ (rw (f, e) refl)))

  kept_put : (u : Record) → IsIn output u → is_put u.kind ≡ true → is_kept inputs versions u ≡ true
  unfolding survives is_first_marker
  kept_put u h p = go (is_kept inputs versions u) refl
    where
      go : (v : Bool) → is_kept inputs versions u ≡ v → is_kept inputs versions u ≡ true
      go true e = e
      go false e = absurd (true≢false (sym (from_output u h).1 ∙ rw (e, p) refl))

  accepted_still : (u : Record) → IsIn output u ⊎ IsIn rest u → IsIn us u
  accepted_still u (inl h) = accepted u (inl (from_output u h).0)
  accepted_still u (inr h) = accepted u (inr h)

  kept_still : (u : Record) → is_kept us n u ≡ true → IsIn inputs u ⊎ IsIn rest u → IsIn (output ++ rest) u
  unfolding survives
  kept_still u e (inl h) = in_left output rest u (in_output u h (or_true _ _ (kept_input u h e)))
  kept_still u e (inr h) = in_right output rest u h

  -- a marker of the inputs that hides a held put: the first of its column still does
  hidden_still : (u m : Record) → IsIn output u ⊎ IsIn rest u → is_put u.kind ≡ true → IsIn inputs m → hides m u ≡ true → is_deleted (output ++ rest) u ≡ true
  hidden_still u m (inl g) p h e = absurd (true≢false (sym (deleted_by inputs m u h e) ∙ (kept_parts inputs versions u (kept_put u g p)).live))
  hidden_still u m (inr g) p h e = go (survivor t.which t.first)
    where
      part : Hides m u
      part = hides_parts m u e

      t : Top inputs m
      t = top_of inputs m h part.marker

      over : int_le u.key.timestamp t.which.key.timestamp ≡ true
      over = le_trans_z u.key.timestamp m.key.timestamp t.which.key.timestamp part.above t.above

      go : (survives inputs full low versions t.which ≡ true) ⊎ ((full ≡ true) × (int_lt t.which.key.timestamp low ≡ true)) → is_deleted (output ++ rest) u ≡ true
      go (inl s) = deleted_by (output ++ rest) t.which u (in_left output rest t.which (in_output t.which t.member s)) (hides_from t.which u (record { marker = t.marker; column = column_trans t.which.key m.key u.key t.column part.column; above = over }))
      go (inr b) = absurd (not_lt_z t.which.key.timestamp low (le_trans_z low u.key.timestamp t.which.key.timestamp (above b.0 u m g h part.column) over) b.1)

  deleted_still : (u m : Record) → IsIn output u ⊎ IsIn rest u → is_put u.kind ≡ true → IsIn inputs m ⊎ IsIn rest m → hides m u ≡ true → is_deleted (output ++ rest) u ≡ true
  deleted_still u m g p (inl h) e = hidden_still u m g p h e
  deleted_still u m g p (inr h) e = deleted_by (output ++ rest) m u (in_right output rest m h) e

  was_held : (u : Record) → IsIn output u ⊎ IsIn rest u → IsIn (inputs ++ rest) u
  was_held u (inl h) = in_left inputs rest u (from_output u h).0
  was_held u (inr h) = in_right inputs rest u h

  -- a marker that the inputs covered is covered by the output, or lies below the floor
  uncovered : (m k : Record) → covers m k ≡ true → list_any (covers m) (output ++ rest) ≡ false → IsIn inputs k ⊎ IsIn rest k → m.key.timestamp <ℤ floor
  uncovered m k c f (inr h) = absurd (true≢false (sym (any_in (covers m) (output ++ rest) k (in_right output rest k h) c) ∙ f))
  uncovered m k c f (inl h) = go (survivor t.which t.first)
    where
      a : (not (is_put k.kind) && same_column k.key m.key) ≡ true
      a = first_so (not (is_put k.kind) && same_column k.key m.key) (int_le m.key.timestamp k.key.timestamp) c

      t : Top inputs k
      t = top_of inputs k h (first_so (not (is_put k.kind)) (same_column k.key m.key) a)

      over : int_le m.key.timestamp t.which.key.timestamp ≡ true
      over = le_trans_z m.key.timestamp k.key.timestamp t.which.key.timestamp (second_so (not (is_put k.kind) && same_column k.key m.key) (int_le m.key.timestamp k.key.timestamp) c) t.above

      same : same_column t.which.key m.key ≡ true
      same = column_trans t.which.key k.key m.key t.column (second_so (not (is_put k.kind)) (same_column k.key m.key) a)

      go : (survives inputs full low versions t.which ≡ true) ⊎ ((full ≡ true) × (int_lt t.which.key.timestamp low ≡ true)) → m.key.timestamp <ℤ floor
      go (inl s) = absurd (true≢false (sym (any_in (covers m) (output ++ rest) t.which (in_left output rest t.which (in_output t.which t.member s)) (rw (t.marker, same, over) refl)) ∙ f))
      go (inr b) = lt_yes_z m.key.timestamp low floor (lt_le_z m.key.timestamp t.which.key.timestamp low over b.1) lower

  dropped_still : (m : Record) → IsIn us m → not (is_put m.kind) ≡ true → list_any (covers m) (output ++ rest) ≡ false → m.key.timestamp <ℤ floor
  dropped_still m h p f = by_bool (list_any (covers m) (inputs ++ rest))
      (λ t. let k = any_from (covers m) (inputs ++ rest) t in uncovered m k.0 k.2 f (in_append inputs rest k.0 k.1))
      (λ g. refines.dropped m (in_to us m h) p (ap not g))

  pub merged_refines : RefinesUpdates (output ++ rest) us n floor
  merged_refines = record {
    accepted = λ u c. in_to us u (accepted_still u (in_append output rest u (in_from _ u c)));
    kept = λ u c e. in_to _ u (kept_still u e (in_append inputs rest u (in_from _ u (refines.kept u c e))));
    deleted = λ u c p d.
        let g = in_append output rest u (in_from _ u c) in
        let m = deleted_from (inputs ++ rest) u (refines.deleted u (in_to _ u (was_held u g)) p d) in
        deleted_still u m.0 g p (in_append inputs rest m.0 m.1) m.2;
    dropped = λ m c p f. dropped_still m (in_from us m c) p (not_false _ f);
  }
