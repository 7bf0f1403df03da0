-- To be believed. How far an open session has come, its next batch, and what it has in ranges of rows.
use Rattle.std.specs.Prelude.{ℕ, List, ◌+◌, take, drop, filter, map}
use Rattle.tab_key.specs.Records.{Cell}
use Rattle.tab_key.specs.Ranges.{is_in_range}
use Rattle.tab_key.specs.declared.range.Bounds.{Bounds}

-- a session's whole answer, and how many of its cells were given
pub record SessionState : Type 0 where
  pub all : List Cell
  pub given : ℕ

-- the session after n more cells were given
abbrev pub gave : ℕ → SessionState → SessionState
gave n s = record s { given = s.given + n }

-- the next n cells, fewer only at the end
abbrev pub batch : SessionState → ℕ → List Cell
batch s n = take n (drop s.given s.all)

-- of these cells those with a row in range, in their order
abbrev pub cells_within : Bounds → List Cell → List Cell
cells_within rows cells = filter (λ (c : Cell). is_in_range rows c.key.row) cells

-- a session's whole answer in each of these ranges, in the order of the ranges, whatever was given of it
abbrev pub in_ranges : SessionState → List Bounds → List (List Cell)
in_ranges s ranges = map (λ (rows : Bounds). cells_within rows s.all) ranges
