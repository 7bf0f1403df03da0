-- What can't pass in the rest of a column.
use Rattle.std.proofs.Common.{◌≡◌, ℕ, ◌-◌, List, ◌∷◌, Bool, true, false, cond, ◌||◌, refl, ◌∙◌, ap, length, arith}
use Rattle.std.specs.Prelude.{Option, filter, nat_lt}
use Rattle.std.specs.declared.cmp.Ordering.TheVariants.{Less}
use Rattle.std.proofs.lemmas.Bool.Decides.{nat_tests}
use Rattle.tab_key.specs.Order.{column_cmp}
use Rattle.tab_key.specs.Records.{Key, Record}
use Rattle.tab_key.specs.Kept.{is_put, is_deleted}
use Rattle.tab_key.specs.Sorted.{IsIn}
use Rattle.tab_iter.specs.Lists.{IsRising, IsEnd}
use Rattle.tab_iter.specs.Layers.{is_left, is_newer, is_among}
use Rattle.tab_iter.specs.Columns.{is_of, next_of, KnowsDeleted, KnowsCount}
use Rattle.tab_iter.proofs.ListLaws.{first_less, column_upto, rising_end}
use Rattle.tab_iter.proofs.NextColumns.{next_between}

-- what stands behind a record and before the column next after its own is of its column
module _ (column : Option Key) (w : List Record) (held : Record) (rs : List Record) (up : IsRising w) (end : IsEnd (held ∷ rs) w) (of : is_of column held.key ≡ true) where
  still : (u : Record) → IsIn rs u → column_cmp u.key (next_of column) ≡ Less → is_of column u.key ≡ true
  still u h e = next_between column held.key u.key of (column_upto held u (first_less held rs (rising_end (held ∷ rs) w end up) u h)) e

  -- behind a marker
  pub none_left : (keeps : Bool) → KnowsDeleted column w rs → keeps ≡ false → (u : Record) → IsIn rs u → column_cmp u.key (next_of column) ≡ Less → is_left keeps w u ≡ false
  unfolding is_left is_deleted
  none_left keeps t k u h e =
      let gone : is_deleted w u ≡ true = t.told u h ∙ ap (λ v. v || is_deleted rs u) (still u h e) in
      rw (gone, k) (go (is_put u.kind))
    where
      go : (v : Bool) → cond v false false ≡ false
      go true = refl
      go false = refl

  -- behind as many as may pass
  pub none_among : (keeps : Bool) (n left : ℕ) → KnowsCount n column left w rs → keeps ≡ false → left ≡ 0 → (u : Record) → IsIn rs u → column_cmp u.key (next_of column) ≡ Less → is_among keeps n w u ≡ false
  unfolding is_among
  none_among keeps n left t k z u h e =
      let count : n - length (filter (is_newer u) w) ≡ 0 - length (filter (is_newer u) rs) = t.counted u h ∙ (λ i. cond (still u h e i) (z i) n - length (filter (is_newer u) rs)) in
      rw (full (length (filter (is_newer u) w)) (length (filter (is_newer u) rs)) count, k) (go (is_put u.kind))
    where
      full : (a b : ℕ) → n - a ≡ 0 - b → nat_lt a n ≡ false
      full a b e = grind (arith, nat_tests)

      go : (v : Bool) → cond v false false ≡ false
      go true = refl
      go false = refl
