-- How a split may end: what holds of the tablets, and of them split at any row that is no end row, holds after it.
use Rattle.std.proofs.Common.{◌≡◌, ◌⊎◌, inl, inr, ℕ, List, Bool, true, false, cond, refl}
use Rattle.std.specs.Prelude.{Option, Some, None, nat_lt}
use Rattle.tab_key.specs.declared.limited_part.LimitedPart.TheVariants.{Numbers}
use Rattle.tab_tablets.specs.Sources.{size_of}
use Rattle.tab_tablets.specs.Tablets.{Tablet}
use Rattle.tab_tablets.specs.Splitting.{split_at, middle_row, rows_in}
use Rattle.tab_tablets.specs.ByRow.{at_row, tablet_of, is_end}
use Rattle.tab_tablets.specs.Splits.{is_full, split_in, splits, split_found, halved, halves}
use Rattle.tab_tablets.specs.declared.splitting.Split.{Split}
use Rattle.tab_tablets.specs.declared.splitting.Split.TheVariants.{Done, Present, Small, Full}
use Rattle.tab_history.specs.Answers.{Told}
use Rattle.tab_history.specs.declared.split_fault.SplitFault.TheVariants as fault
use Rattle.tab_history.specs.declared.reply.Refusal.TheVariants.{TooLarge, BadSplit}
use Rattle.tab_history.specs.declared.reply.Reply.TheVariants.{Refused}
use Rattle.tab_store.specs.Stepping.{told_split}

-- ---- the tablets afterwards
module _ (P : List Tablet → Type 0) (number : ℕ) (ts : List Tablet) (same : P ts) (cut : (row : List ℕ) → is_end row ts ≡ false → P (at_row row (split_at row number) ts)) where
  within : (row : List ℕ) → is_end row ts ≡ false → P (split_in row number ts).1
  within row e = go (is_full ts)
    where
      go : (v : Bool) → P (cond {A = Split × List Tablet} v (Full, ts) (Done, at_row row (split_at row number) ts)).1
      go true = same
      go false = cut row e

  pub after_split : (row : List ℕ) → P (splits row number ts).1
  after_split row = go (is_end row ts) refl
    where
      go : (v : Bool) → is_end row ts ≡ v → P (cond {A = Split × List Tablet} v (Present, ts) (split_in row number ts)).1
      go true e = same
      go false e = within row e

  found : (o : Option (List ℕ)) → ((row : List ℕ) → o ≡ Some row → is_end row ts ≡ false) → P (split_found o number ts).1
  found None fresh = same
  found (Some row) fresh = within row (fresh row refl)

  pub after_halve : (row : List ℕ) (limit : ℕ) → ((t : Tablet) (middle : List ℕ) → tablet_of row ts ≡ Some t → middle_row (rows_in t) ≡ Some middle → is_end middle ts ≡ false) → P (halves row limit number ts).1
  after_halve row limit fresh = go (tablet_of row ts) refl
    where
      sized : (t : Tablet) → tablet_of row ts ≡ Some t → (v : Bool) → P (cond {A = Split × List Tablet} v (Small, ts) (split_found (middle_row (rows_in t)) number ts)).1
      sized t e true = same
      sized t e false = found (middle_row (rows_in t)) (λ middle k. fresh t middle e k)

      go : (o : Option Tablet) → tablet_of row ts ≡ o → P (halved limit number o ts).1
      go None e = same
      go (Some t) e = sized t e (nat_lt (size_of t.sources) limit)

-- ---- what is told
module _ (plain : Told) (number : ℕ) (ts : List Tablet) where
  abbrev pub DoneOrFull : Split → Type 0
  DoneOrFull s = (told_split plain s ≡ plain) ⊎ (told_split plain s ≡ Refused (TooLarge Numbers))

  told_within : (row : List ℕ) → DoneOrFull (split_in row number ts).0
  told_within row = go (is_full ts)
    where
      go : (v : Bool) → DoneOrFull (cond {A = Split × List Tablet} v (Full, ts) (Done, at_row row (split_at row number) ts)).0
      go true = inr refl
      go false = inl refl

  abbrev MaySplit : Told → Type 0
  MaySplit told = (told ≡ plain) ⊎ (told ≡ Refused (BadSplit fault.Present)) ⊎ (told ≡ Refused (TooLarge Numbers))

  pub split_told : (row : List ℕ) → MaySplit (told_split plain (splits row number ts).0)
  split_told row = go (is_end row ts)
    where
      turn : (s : Split) → DoneOrFull s → MaySplit (told_split plain s)
      turn s (inl e) = inl e
      turn s (inr e) = inr (inr e)

      go : (v : Bool) → MaySplit (told_split plain (cond {A = Split × List Tablet} v (Present, ts) (split_in row number ts)).0)
      go true = inr (inl refl)
      go false = turn (split_in row number ts).0 (told_within row)

  abbrev MayHalve : Told → Type 0
  MayHalve told = (told ≡ plain) ⊎ (told ≡ Refused (BadSplit fault.Small)) ⊎ (told ≡ Refused (BadSplit fault.OneRow)) ⊎ (told ≡ Refused (TooLarge Numbers))

  told_found : (o : Option (List ℕ)) → MayHalve (told_split plain (split_found o number ts).0)
  told_found None = inr (inr (inl refl))
  told_found (Some row) = turn (split_in row number ts).0 (told_within row)
    where
      turn : (s : Split) → DoneOrFull s → MayHalve (told_split plain s)
      turn s (inl e) = inl e
      turn s (inr e) = inr (inr (inr e))

  pub halve_told : (row : List ℕ) (limit : ℕ) → MayHalve (told_split plain (halves row limit number ts).0)
  halve_told row limit = go (tablet_of row ts)
    where
      sized : (t : Tablet) (v : Bool) → MayHalve (told_split plain (cond {A = Split × List Tablet} v (Small, ts) (split_found (middle_row (rows_in t)) number ts)).0)
      sized t true = inr (inl refl)
      sized t false = told_found (middle_row (rows_in t))

      go : (o : Option Tablet) → MayHalve (told_split plain (halved limit number o ts).0)
      go None = inr (inr (inl refl))
      go (Some t) = sized t (nat_lt (size_of t.sources) limit)
