-- What one tablet of a sound table holds lies before what the next one holds.
use Rattle.std.proofs.Common.{◌≡◌, ◌⊎◌, inl, inr, ℕ, List, [], ◌∷◌, ◌++◌, true, false, refl, ap}
use Rattle.std.specs.Prelude.{ℤ, filter, map, Option, Some, None}
use Rattle.std.specs.Ordering.{int_cmp, nat_cmp, ordering_then}
use Rattle.std.specs.declared.cmp.Ordering.TheVariants.{Less}
use mathlib.Core.Bool.{true≢false}
use Rattle.tab_key.specs.Bytes.{bytes_cmp}
use Rattle.tab_key.specs.Order.{kind_rank, column_cmp, key_cmp, place_cmp, newer_cmp, record_cmp}
use Rattle.tab_key.specs.Records.{Record}
use Rattle.tab_key.specs.Sorted.{sorted, IsIn}
use Rattle.tab_key.proofs.Rising.{in_sorted, rising_sorted}
use Rattle.tab_cells.proofs.Lists.{in_append, in_left, in_right}
use Rattle.tab_iter.specs.Bags.{flat}
use Rattle.tab_iter.specs.Lists.{IsRising}
use Rattle.tab_iter.proofs.ListLaws.{rises_none, rises_more, first_less, later_rises}
use Rattle.tab_tablets.specs.Tablets.{Tablet, is_up_to, records_in}
use Rattle.tab_tablets.specs.ByRow.{records_of_all, LieApart}
use Rattle.tab_tablets.proofs.Orders.{up_to_below, above}
use Rattle.tab_store.specs.Keeping.{is_high, TabletsRefine, SoundTabletsLieApart}
use Rattle.tab_store.proofs.Accepted.{own_rows}

-- ---- rising lists, one behind the other
rises_both : (xs ys : List Record) → IsRising xs → IsRising ys → ((x y : Record) → IsIn xs x → IsIn ys y → record_cmp x y ≡ Less) → IsRising (xs ++ ys)
rises_both [] ys r s f = s
rises_both (x ∷ xs) ys r s f = rises_more x (xs ++ ys) (λ u h. go u (in_append xs ys u h)) (rises_both xs ys (later_rises x xs r) s (λ a b h k. f a b (inr h) k))
  where
    go : (u : Record) → IsIn xs u ⊎ IsIn ys u → record_cmp x u ≡ Less
    go u (inl h) = first_less x xs r u h
    go u (inr k) = f x u (inl refl) k

-- ---- rows
-- a record of a lower row comes first
row_first : (x y : Record) → bytes_cmp x.key.row y.key.row ≡ Less → record_cmp x y ≡ Less
unfolding place_cmp key_cmp column_cmp
row_first x y e = ap (λ o. ordering_then (ordering_then (ordering_then (ordering_then (ordering_then (ordering_then o (bytes_cmp x.key.family y.key.family)) (bytes_cmp x.key.qualifier y.key.qualifier)) (bytes_cmp x.key.label y.key.label)) (int_cmp y.key.timestamp x.key.timestamp)) (nat_cmp (kind_rank x.kind) (kind_rank y.kind))) (newer_cmp x y)) e

-- a row up to an end row lies before one that is above it
across : (end : Option (List ℕ)) (low high : List ℕ) → is_up_to end low ≡ true → is_up_to end high ≡ false → bytes_cmp low high ≡ Less
across None low high t f = absurd (true≢false f)
across (Some end) low high t f = up_to_below low end high t (above high end f)

-- ---- the tablets
-- what they hold, each in its order
abbrev all_sorted : List Tablet → List Record
all_sorted ts = flat (map (λ (t : Tablet). sorted (records_in t)) ts)

held_of_all : (ts : List Tablet) (u : Record) → IsIn (all_sorted ts) u → IsIn (records_of_all ts) u
held_of_all [] u h = h
held_of_all (t ∷ ts) u h = go (in_append (sorted (records_in t)) (all_sorted ts) u h) (held_of_all ts u)
  where
    go : IsIn (sorted (records_in t)) u ⊎ IsIn (all_sorted ts) u → (IsIn (all_sorted ts) u → IsIn (records_of_all ts) u) → IsIn (records_in t ++ records_of_all ts) u
    go (inl k) ih = in_left (records_in t) (records_of_all ts) u (in_sorted (records_in t) u k)
    go (inr k) ih = in_right (records_in t) (records_of_all ts) u (ih k)

lie_apart : (ts : List Tablet) (us : List Record) (next n : ℕ) (floor : ℤ) → TabletsRefine ts us next n floor → LieApart ts
lie_apart [] us next n floor a = rises_none
lie_apart (t ∷ ts) us next n floor a = rises_both (sorted (records_in t)) (all_sorted ts) (rising_sorted (records_in t) a.0.refines.held_once) (lie_apart ts (filter (is_high t.end) us) next n floor a.1) in_order
  where
    in_order : (x y : Record) → IsIn (sorted (records_in t)) x → IsIn (all_sorted ts) y → record_cmp x y ≡ Less
    in_order x y h k =
        let own = own_rows (t ∷ ts) us next n floor a in
        row_first x y (across t.end x.key.row y.key.row (own.0 x (in_sorted (records_in t) x h)) (own.1 y (held_of_all ts y k)))

pub sound_tablets_lie_apart : SoundTabletsLieApart
sound_tablets_lie_apart ts next n floor s = lie_apart ts (sorted (records_of_all ts)) next n floor s.refines
