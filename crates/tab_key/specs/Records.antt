-- To be believed. Keys, records and cells, as contracts see them. (Accumulo user manual: data model)
use Rattle.std.specs.Prelude.{ℕ, ℤ, List}
use Rattle.tab_key.specs.declared.key.Kind.{Kind}

-- what a cell is found by
pub record Key : Type 0 where
  pub row : List ℕ
  pub family : List ℕ
  pub qualifier : List ℕ
  pub label : List ℕ
  pub timestamp : ℤ

-- a put or a delete marker, with the number of its mutation and its place in the mutation
pub record Record : Type 0 where
  pub key : Key
  pub kind : Kind
  pub value : List ℕ
  pub seq : ℕ
  pub idx : ℕ

-- what a scan shows of a put
pub record Cell : Type 0 where
  pub key : Key
  pub value : List ℕ

-- the cell that a record shows
abbrev pub cell_of : Record → Cell
cell_of r = record { key = r.key; value = r.value }
