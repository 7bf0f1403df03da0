-- For proofs. Entries that lie in blocks of 1,024.
use Rattle.std.specs.Prelude.{ℕ, ◌≡◌, ◌≤◌, ◌<◌, ◌^◌, ◌-◌, min, List, ◌++◌, length, slice_get, option_map, unwrap_or, Vec, vec_len, vec_capacity}
use Rattle.std.specs.declared.alloc.Global.{Global}
use Rattle.std.specs.List.{flat_map, AllByRecursion}
use Rattle.tab_book.specs.Entries.{Posted}

-- entries, the oldest first, and for how many more in their block there is memory
pub record BlockEntries : Type 0 where
  pub entries : List Posted
  pub room : ℕ

-- those of the full blocks, and the last ones behind them
abbrev pub in_order : List (Vec Posted Global) → List Posted → List Posted
in_order full last = flat_map (λ v. v.items) full ++ last

-- the entries of the full block with this number, and the last ones where there is none
abbrev pub block_at : List (Vec Posted Global) → List Posted → ℕ → List Posted
block_at full last i = unwrap_or (option_map (λ v. v.items) (slice_get full i)) last

-- for how many more there is memory in a block
abbrev pub room_in : Vec Posted Global → ℕ
room_in last = min 1024 (vec_capacity last) - vec_len last

-- each full block has 1,024, the last one no more, and there are fewer than numbers
pub record IsInBlocks (full : List (Vec Posted Global)) (last : List Posted) (count : ℕ) : Type 0 where
  pub sizes : AllByRecursion (λ v. length v.items ≡ 1024) full
  pub most : length last ≤ 1024
  pub counted : count ≡ length (in_order full last)
  pub fits : count < 2 ^ 64
