-- For proofs. Lists of records: their ends, and where a seek goes.
use Rattle.std.specs.Prelude.{◌≡◌, ℤ, pos, Option, Some, None, List, [], ◌∷◌, ◌++◌, Bool, true, cond, int_le}
use Rattle.std.specs.List.Sorted.{IsStrictlySortedBy}
use Rattle.std.specs.declared.cmp.Ordering.TheVariants.{Less}
use Rattle.std.specs.Ordering.{is_lt}
use Rattle.tab_key.specs.Order.{column_cmp, key_cmp, record_cmp}
use Rattle.tab_key.specs.Records.{Key, Record}
use Rattle.tab_key.specs.Sorted.{IsIn}

-- the first record
abbrev pub first_of : List Record → Option Record
first_of [] = None
first_of (r ∷ rs) = Some r

-- what is left after the first
abbrev pub tail : List Record → List Record
tail [] = []
tail (r ∷ rs) = rs

-- from the first record whose key isn't before k
abbrev pub from_key : Key → List Record → List Record
from_key k [] = []
from_key k (r ∷ rs) = cond (is_lt (key_cmp r.key k)) (from_key k rs) (r ∷ rs)

-- from the first record whose column isn't before that of k
abbrev pub from_column : Key → List Record → List Record
from_column k [] = []
from_column k (r ∷ rs) = cond (is_lt (column_cmp r.key k)) (from_column k rs) (r ∷ rs)

-- each record stands before those after it
abbrev pub IsRising : List Record → Type 0
IsRising = IsStrictlySortedBy record_cmp

-- the greatest timestamp that a record can have
abbrev pub latest : ℤ
latest = pos 9223372036854775807

-- no timestamp is greater than that
abbrev pub HasI64Timestamps : List Record → Type 0
HasI64Timestamps w = (u : Record) → IsIn w u → int_le u.key.timestamp latest ≡ true

-- the first key of the column of k
abbrev pub column_start : Key → Key
column_start k = record { row = k.row; family = k.family; qualifier = k.qualifier; label = k.label; timestamp = latest }

-- xs is what is left of w after some of its first records
pub record IsEnd (xs w : List Record) : Type 0 where
  pub passed : List Record
  pub whole : passed ++ xs ≡ w

-- xs is what is left of w, and no column has records on both sides
pub record BeginsColumn (xs w : List Record) : Type 0 where
  pub passed : List Record
  pub whole : passed ++ xs ≡ w
  pub apart : (p u : Record) → IsIn passed p → IsIn xs u → column_cmp p.key u.key ≡ Less

-- the first record, if there is one, passes
abbrev pub is_settled : (Record → Bool) → List Record → Bool
is_settled p [] = true
is_settled p (r ∷ rs) = p r
