-- For proofs. Where a search in a run goes.
use Rattle.std.specs.Prelude.{ℕ, ◌≡◌, ◌<◌, ◌^◌, Bool, true, false, List, filter, not}
use Rattle.std.specs.Ordering.{is_lt}
use mathlib.Core.Bool.{Bool-set}
use mathlib.Core.HLevel.{Π_prop}
use Rattle.tab_key.specs.Order.{key_cmp}
use Rattle.tab_key.specs.Ranges.{is_above, is_below}
use Rattle.tab_key.specs.RowPrefix.{IsRowPrefix}
use Rattle.tab_key.specs.declared.range.Bound.{Bound}
use Rattle.tab_key.specs.declared.range.Bound.TheVariants.{Unbounded, Inclusive, Exclusive}
use Rattle.tab_key.specs.KeyOf.{key_of}
use Rattle.tab_key.specs.Records.{Record}
use Rattle.tab_iter.specs.Lists.{from_key}
use Rattle.tab_mem.specs.declared.start.Start.{Start}
use Rattle.tab_mem.specs.declared.start.Start.TheVariants.{AtKey, AtLow, PastHigh}

-- the record stands before the start
unfoldable pub is_before : Start → Record → Bool
is_before (AtKey k) r = is_lt (key_cmp r.key (key_of k))
is_before (AtLow low) r = not (is_above low.now r.key.row)
is_before (PastHigh high) r = is_below high.now r.key.row

-- the records from the start on
unfoldable pub from_start : Start → List Record → List Record
from_start (AtKey k) rs = from_key (key_of k) rs
from_start (AtLow low) rs = filter (λ u. is_above low.now u.key.row) rs
from_start (PastHigh high) rs = filter (λ u. not (is_below high.now u.key.row)) rs

-- the number is the prefix of the end's row, or this one where there is no end
abbrev pub IsEndPrefix : ℕ → Bound → ℕ → Type 0
IsEndPrefix none Unbounded prefix = prefix ≡ none
IsEndPrefix none (Inclusive row) prefix = IsRowPrefix prefix row
IsEndPrefix none (Exclusive row) prefix = IsRowPrefix prefix row

-- records whose rows have a lower prefix stand before the start, and those with a higher one don't
pub record IsPrefixOf (s : Start) (prefix : ℕ) : Type 0 where
  pub lower : (u : Record) (p : ℕ) → IsRowPrefix p u.key.row → p < prefix → is_before s u ≡ true
  pub higher : (u : Record) (p : ℕ) → p < 2 ^ 128 → IsRowPrefix p u.key.row → prefix < p → is_before s u ≡ false

-- ---- this fact has one proof
pub IsPrefixOf-prop : (s : Start) (prefix : ℕ) → IsProp (IsPrefixOf s prefix)
IsPrefixOf-prop s prefix a b = λ i. record {
  lower = Π_prop (λ u. Π_prop λ p. Π_prop λ is. Π_prop λ lt. Bool-set _ _) a.lower b.lower i;
  higher = Π_prop (λ u. Π_prop λ p. Π_prop λ fits. Π_prop λ is. Π_prop λ lt. Bool-set _ _) a.higher b.higher i;
}
