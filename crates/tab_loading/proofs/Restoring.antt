-- Tablets that are made of end rows and of records that rise are sound and within their limits.
use Rattle.std.proofs.Common.{◌≡◌, ℕ, ◌+◌, ◌<◌, true, not, List, [], ◌∷◌, length, refl, sym, ap, ◌∙◌, subst}
use Rattle.std.specs.Prelude.{ℤ, None, Some, filter, Contains}
use Rattle.std.specs.List.{AllByRecursion}
use Rattle.std.specs.List.Sorted.{IsStrictlySortedBy}
use mathlib.Core.Bool.{true≢false}
use Rattle.tab_key.specs.Kept.{is_put}
use Rattle.tab_key.specs.Records.{Record}
use Rattle.tab_key.specs.Sorted.{sorted, IsDistinct, IsIn}
use Rattle.tab_key.proofs.Rising.{in_from, all_in, in_filter, distinct_filter}
use Rattle.tab_cells.proofs.Rising.{rising_distinct, sorted_rising}
use Rattle.tab_iter.specs.Lists.{IsRising}
use Rattle.tab_tablets.proofs.EndRows.{ends_count}
use Rattle.tab_tablets.proofs.Restored.{restored_are_whole, restored_hold_all, restored_first, restored_last, held_tabled}
use Rattle.tab_history.specs.Held.{RefinesTable}
use Rattle.tab_history.proofs.Held.{any_in, not_false}
use Rattle.tab_history.proofs.HeldWrite.{covers, column_itself, le_itself_z}
use Rattle.tab_store.specs.ByRow.{records_of_all, ends_of}
use Rattle.tab_store.specs.Keeping.{is_low, is_high, TabletsRefine, AreSound}
use Rattle.tab_store.specs.Limits.{IsWellFormed, AreEndRows, AreLimited}
use Rattle.tab_store.specs.Restored.{EndRowsRise, restored}
use Rattle.tab_store.specs.Tablets.{Tablet, records_in, tabled, next_number}
use Rattle.tab_store.proofs.CutTablet.{none_under_way}

-- ---- records refine themselves
covers_itself : (m : Record) → not (is_put m.kind) ≡ true → covers m m ≡ true
covers_itself m p = rw (p, column_itself m.key, le_itself_z m.key.timestamp) refl

refines_itself : (us : List Record) (next n : ℕ) (floor : ℤ) → IsDistinct us → ((u : Record) → IsIn us u → u.seq < next) → RefinesTable us us next n floor
refines_itself us next n floor once numbers = record {
  refines = record {
    accepted = λ u c. c;
    kept = λ u c e. c;
    deleted = λ u c q d. d;
    dropped = λ m c q e. absurd (true≢false (sym (any_in (covers m) us m (in_from us m c) (covers_itself m q)) ∙ not_false _ e));
  };
  held_once = once;
  updates_once = once;
  numbered = λ u c. numbers u (in_from us u c);
}

-- ---- and each tablet those of its rows
all_low : (us : List Record) → filter (is_low None) us ≡ us
all_low [] = refl
all_low (u ∷ us) = ap (λ l. u ∷ l) (all_low us)

none_high : (us : List Record) → filter (is_high None) us ≡ []
none_high [] = refl
none_high (u ∷ us) = none_high us

later_rise : (e : List ℕ) (es : List (List ℕ)) → EndRowsRise (e ∷ es) → EndRowsRise es
unfolding IsStrictlySortedBy
later_rise e es r = r.1

tablets_refine : (number : ℕ) (ends : List (List ℕ)) (us : List Record) (next n : ℕ) (floor : ℤ) → EndRowsRise ends → IsDistinct us → ((u : Record) → IsIn us u → u.seq < next) → TabletsRefine (restored number ends us) us next n floor
tablets_refine number [] us next n floor rise once numbers = subst (λ (ts : List Tablet). TabletsRefine ts us next n floor) (sym (restored_last number us)) (
  record {
    refines = subst (λ (l : List Record). RefinesTable l (filter (is_low None) us) next n floor) (sym (held_tabled number None us))
        (subst (λ (l : List Record). RefinesTable us l next n floor) (sym (all_low us)) (refines_itself us next n floor once numbers));
    jobs = none_under_way (records_in (tabled number None us)) n floor;
  },
  none_high us,
)
tablets_refine number (e ∷ es) us next n floor rise once numbers = subst (λ (ts : List Tablet). TabletsRefine ts us next n floor) (sym (restored_first e es us number rise)) (
  record {
    refines = subst (λ (l : List Record). RefinesTable l (filter (is_low (Some e)) us) next n floor) (sym (held_tabled number (Some e) (filter (is_low (Some e)) us)))
        (refines_itself (filter (is_low (Some e)) us) next n floor (distinct_filter (is_low (Some e)) us once) (λ u h. numbers u (in_filter (is_low (Some e)) us u h).0));
    jobs = none_under_way (records_in (tabled number (Some e) (filter (is_low (Some e)) us))) n floor;
  },
  tablets_refine (next_number number) es (filter (is_high (Some e)) us) next n floor (later_rise e es rise) (distinct_filter (is_high (Some e)) us once) (λ u h. numbers u (in_filter (is_high (Some e)) us u h).0),
)

-- ---- the tablets of a table
module _ (number : ℕ) (ends : List (List ℕ)) (us : List Record) (rise : EndRowsRise ends) (rising : IsRising us) where
  held : records_of_all (restored number ends us) ≡ us
  held = (restored_hold_all number ends us rise rising).0

  -- the records, as the tablets have them
  of_held : (u : Record) → Contains (records_of_all (restored number ends us)) u → IsIn us u
  of_held u c = in_from us u (subst (λ (l : List Record). Contains l u) held c)

  pub records_are : sorted (records_of_all (restored number ends us)) ≡ us
  records_are = ap sorted held ∙ sorted_rising us rising

  pub ends_are : ends_of (restored number ends us) ≡ ends
  ends_are = (restored_are_whole number ends us rise).1

  -- what holds of each record
  pub all_held : (P : Record → Type 0) → AllByRecursion P us → (u : Record) → Contains (records_of_all (restored number ends us)) u → P u
  all_held P a u c = all_in P us a u (of_held u c)

  pub restored_sound : (next n : ℕ) (floor : ℤ) → AllByRecursion (λ (u : Record). u.seq < next) us → AreSound (restored number ends us) next n floor
  restored_sound next n floor numbers = record {
    whole = (restored_are_whole number ends us rise).0;
    once = subst IsDistinct (sym held) (rising_distinct us rising);
    numbered = all_held (λ u. u.seq < next) numbers;
    refines = subst (λ (l : List Record). TabletsRefine (restored number ends us) l next n floor) (sym records_are)
        (tablets_refine number ends us next n floor rise (rising_distinct us rising) (all_in (λ u. u.seq < next) us numbers));
  }

  pub restored_limited : AllByRecursion IsWellFormed us → AreEndRows ends → AreLimited (restored number ends us)
  restored_limited well rows = record { records = all_held IsWellFormed well; ends = subst AreEndRows (sym ends_are) rows }

  -- one more than end rows
  pub restored_count : length (restored number ends us) ≡ length ends + 1
  restored_count = sym (ends_count (restored number ends us) (restored_are_whole number ends us rise).0) ∙ ap (λ (es : List (List ℕ)). length es + 1) ends_are
