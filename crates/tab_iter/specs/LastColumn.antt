-- For proofs. A remembered column in a body of bytes.
use Rattle.std.specs.Prelude.{◌≡◌, ℕ, ◌+◌, ◌≤◌, List, [], ◌∷◌, ◌++◌, Option, Some, None, drop, take}
use Rattle.std.specs.List.{slice_range}
use Rattle.tab_key.specs.Records.{Key}
use Rattle.tab_key.specs.Words.{mark_of}
use Rattle.tab_iter.specs.Lists.{latest}
use Rattle.tab_iter.specs.declared.last_column.ColumnEnds.{ColumnEnds}

-- the column whose parts lie one after another from the beginning of the body
abbrev pub parts_in : List ℕ → ColumnEnds → Key
parts_in body e = record {
  row = slice_range body 0 e.row;
  family = slice_range body e.row e.family;
  qualifier = slice_range body e.family e.qualifier;
  label = slice_range body e.qualifier e.label;
  timestamp = latest;
}

-- what of the body tells of the column: its parts, and one byte more
abbrev pub front_in : List ℕ → ColumnEnds → List ℕ
front_in body e = take (e.label + 1) body

-- the column at the beginning of the body, if there is one
abbrev pub column_in : List ℕ → Option ColumnEnds → Option Key
column_in body None = None
column_in body (Some e) = Some (parts_in (front_in body e) e)

-- the parts lie in the bytes, and behind them stands just the zero byte that makes the next column's label
pub record AreEnds (body : List ℕ) (e : ColumnEnds) : Type 0 where
  pub row : e.row ≤ e.family
  pub family : e.family ≤ e.qualifier
  pub qualifier : e.qualifier ≤ e.label
  pub behind : drop e.label body ≡ 0 ∷ []

abbrev pub IsPlaced : List ℕ → Option ColumnEnds → Type 0
IsPlaced body None = Unit {0}
IsPlaced body (Some e) = AreEnds (front_in body e) e

-- row, family and qualifier, one after another
abbrev pub front_of : Key → List ℕ
front_of k = k.row ++ k.family ++ k.qualifier

-- the number is the column's mark, if there is a column
abbrev pub IsMarked : ℕ → Option Key → Type 0
IsMarked mark None = Unit {0}
IsMarked mark (Some k) = mark ≡ mark_of (front_of k)

-- the column lies in the body, and beside it stands its mark
pub record IsRemembered (body : List ℕ) (ends : Option ColumnEnds) (mark : ℕ) : Type 0 where
  pub placed : IsPlaced body ends
  pub marked : IsMarked mark (column_in body ends)
