-- For proofs. Lists of records one behind the other, of which one is read at a time.
use Rattle.std.specs.Prelude.{◌≡◌, ◌≢◌, ℕ, zero, suc, List, [], ◌++◌, Bool, Option, Some, None, not, map, drop, slice_index_or}
use Rattle.std.specs.List.{AllByRecursion, AllByRecursion-prop, list_any}
use Rattle.std.specs.List.Sorted.{IsStrictlySortedBy-prop}
use Rattle.std.specs.Ordering.{is_lt}
use mathlib.Core.HLevel.{Π_prop, ⊥_prop}
use Rattle.tab_key.specs.Order.{record_cmp, key_cmp}
use Rattle.tab_key.specs.Records.{Key, Record}
use Rattle.tab_key.specs.Sorted.{sorted}
use Rattle.tab_iter.specs.Bags.{flat}
use Rattle.tab_iter.specs.Lists.{IsRising, HasI64Timestamps}
use Rattle.tab_iter.specs.Propositions.{HasI64Timestamps-prop}
use Rattle.tab_version.specs.Sources.{Sources, records_of}

-- each record of one stands before those of the next, and none is empty
pub record AreInTurn (xss : List (List Record)) : Type 0 where
  pub rising : IsRising (flat xss)
  pub timestamps : HasI64Timestamps (flat xss)
  pub filled : AllByRecursion (λ (xs : List Record). xs ≢ []) xss

pub AreInTurn-prop : (xss : List (List Record)) (a b : AreInTurn xss) → a ≡ b
AreInTurn-prop xss a b = λ i. record {
  rising = IsStrictlySortedBy-prop record_cmp (flat xss) a.rising b.rising i;
  timestamps = HasI64Timestamps-prop (flat xss) a.timestamps b.timestamps i;
  filled = AllByRecursion-prop (λ (xs : List Record). xs ≢ []) (λ xs. Π_prop λ _. ⊥_prop) xss a.filled b.filled i;
}

-- a list of the source that is read, if there is one
abbrev pub of_current : {S : Type 0} → (S → List Record) → Option S → List Record
of_current list None = []
of_current list (Some s) = list s

-- the list before the one with this index, if there is one
abbrev pub before : ℕ → List (List Record) → List Record
before zero xss = []
before (suc n) xss = slice_index_or xss n []

-- what is left: of the source that is read, and then the lists from the next one on
abbrev pub left_in : {S : Type 0} → (S → List Record) → Option S → ℕ → List (List Record) → List Record
left_in rest current next xss = of_current rest current ++ flat (drop next xss)

-- some record stands at the key or behind it
abbrev pub reaches : Key → List Record → Bool
reaches k us = list_any (λ (u : Record). not (is_lt (key_cmp u.key k))) us

-- the records of each of the tablets, in their order
abbrev pub in_order : List Sources → List (List Record)
in_order ts = map (λ (s : Sources). sorted (records_of s)) ts
