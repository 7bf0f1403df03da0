-- For proofs. What a rule remembers of the records passed: one column.
use Rattle.std.specs.Prelude.{◌≡◌, ℕ, ◌-◌, Option, Some, None, List, [], ◌∷◌, ◌++◌, Bool, false, cond, not, ◌&&◌, ◌||◌, filter, length}
use Rattle.std.specs.List.{list_any}
use Rattle.std.specs.Ordering.{is_gt}
use Rattle.tab_key.specs.Order.{column_cmp, stands_before}
use Rattle.tab_key.specs.Records.{Key, Record}
use Rattle.tab_key.specs.Kept.{is_put, same_column, hides}
use Rattle.tab_key.specs.Sorted.{IsIn}
use Rattle.tab_iter.specs.Layers.{is_newer}
use Rattle.tab_iter.specs.Lists.{latest}

-- the column that comes next, whatever columns there are: the label goes on with a zero byte
abbrev pub next_column : Key → Key
next_column k = record { row = k.row; family = k.family; qualifier = k.qualifier; label = k.label ++ 0 ∷ []; timestamp = latest }

-- a target without meaning
abbrev pub nowhere : Key
nowhere = record { row = []; family = []; qualifier = []; label = []; timestamp = latest }

-- the column next after this one
abbrev pub next_of : Option Key → Key
next_of None = nowhere
next_of (Some c) = next_column c

-- the key is of this column
abbrev pub is_of : Option Key → Key → Bool
is_of None k = false
is_of (Some c) k = same_column c k

-- the column doesn't stand after that of k
abbrev pub is_upto : Option Key → Key → Type 0
is_upto None k = Unit {0}
is_upto (Some c) k = is_gt (column_cmp c k) ≡ false

-- the column is that of the key
pub record IsColumnOf (column : Option Key) (key : Key) : Type 0 where
  pub same : (k : Key) → is_of column k ≡ same_column key k
  pub upto : (k : Key) → is_gt (column_cmp key k) ≡ false → is_upto column k

-- a marker tells something of the records of its column behind it: what was passed tells it of just this column's
pub record KnowsTold (tells : Record → Record → Bool) (column : Option Key) (w rs : List Record) : Type 0 where
  pub told : (u : Record) → IsIn rs u → list_any (λ m. tells m u) w ≡ (is_of column u.key || list_any (λ m. tells m u) rs)
  pub ahead : (u : Record) → IsIn rs u → is_upto column u.key

-- a marker of the record's column that stands before it
abbrev pub leads : Record → Record → Bool
leads m u = not (is_put m.kind) && same_column m.key u.key && stands_before m u

-- of what was passed, a marker hides just the puts of this column
abbrev pub KnowsDeleted : Option Key → List Record → List Record → Type 0
KnowsDeleted = KnowsTold hides

-- of what was passed, a marker leads just the records of this column
abbrev pub KnowsLed : Option Key → List Record → List Record → Type 0
KnowsLed = KnowsTold leads

-- how many of n more may pass
abbrev pub left_of : ℕ → Option Key → ℕ → Key → ℕ
left_of n column left k = cond (is_of column k) left n

-- the puts passed of this column leave so many of n, and there are none of later columns
pub record KnowsCount (n : ℕ) (column : Option Key) (left : ℕ) (w rs : List Record) : Type 0 where
  pub counted : (u : Record) → IsIn rs u → n - length (filter (is_newer u) w) ≡ left_of n column left u.key - length (filter (is_newer u) rs)
  pub ahead : (u : Record) → IsIn rs u → is_upto column u.key
