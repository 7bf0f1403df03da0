-- For proofs. The row prefix of a source's first record.
use Rattle.std.specs.Prelude.{◌≡◌, ℕ, ◌-◌, ◌^◌, List, Option, Some, None}
use Rattle.std.specs.List.{AllByRecursion-prop}
use Rattle.std.specs.Coded.{Coded-set, coded_ℕ, le_prop}
use Rattle.tab_key.specs.Records.{Record}
use Rattle.tab_key.specs.RowPrefix.{padded, IsRowPrefix}

-- the number is the row prefix of the record; where there is none, the largest of all
unfoldable pub IsTopPrefix : ℕ → Option Record → Type 0
IsTopPrefix n None = n ≡ 2 ^ 128 - 1
IsTopPrefix n (Some r) = IsRowPrefix n r.key.row

-- ---- these facts have one proof each
pub IsRowPrefix-prop : (prefix : ℕ) (row : List ℕ) → IsProp (IsRowPrefix prefix row)
IsRowPrefix-prop prefix row a b = λ i. record { value = Coded-set coded_ℕ _ _ a.value b.value i; bytes = AllByRecursion-prop _ (λ x. le_prop) (padded 16 row) a.bytes b.bytes i }

pub IsTopPrefix-prop : (n : ℕ) (first : Option Record) → IsProp (IsTopPrefix n first)
unfolding IsTopPrefix
IsTopPrefix-prop n None = Coded-set coded_ℕ _ _
IsTopPrefix-prop n (Some r) = IsRowPrefix-prop n r.key.row
