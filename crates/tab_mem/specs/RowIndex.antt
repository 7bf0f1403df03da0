-- For proofs. The row prefixes of each 16th record of a list.
use Rattle.std.specs.Prelude.{ℕ, ◌+◌, ◌*◌, ◌<◌, ◌≤◌, List, length}
use Rattle.std.specs.List.{slice_index_or}
use Rattle.std.specs.Coded.{le_prop}
use mathlib.Core.HLevel.{Π_prop}
use Rattle.tab_key.specs.Records.{Record}
use Rattle.tab_key.specs.RowPrefix.{IsRowPrefix}
use Rattle.tab_iter.specs.TopPrefix.{IsRowPrefix-prop}
use Rattle.tab_mem.specs.declared.row_index.TheConstants.{STRIDE}

-- the numbers are the row prefixes of the first record and each 16th one after it, in their order
pub record IsRowIndex (ns : List ℕ) (rs : List Record) : Type 0 where
  pub all : length rs ≤ STRIDE * length ns
  pub few : STRIDE * length ns < length rs + STRIDE
  pub each : (k d : ℕ) (u : Record) → k < length ns → IsRowPrefix (slice_index_or ns k d) (slice_index_or rs (STRIDE * k) u).key.row

-- ---- this fact has one proof
pub IsRowIndex-prop : (ns : List ℕ) (rs : List Record) → IsProp (IsRowIndex ns rs)
IsRowIndex-prop ns rs a b = λ i. record { all = le_prop a.all b.all i; few = le_prop a.few b.few i; each = Π_prop (λ k. Π_prop λ d. Π_prop λ u. Π_prop λ lt. IsRowPrefix-prop _ _) a.each b.each i }
