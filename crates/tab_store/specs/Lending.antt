-- To be believed by whoever relies on it. What is left of tables once one of them, which was lent, has ended.
use Rattle.std.specs.Prelude.{ℕ, ◌≡◌, List, Option, Some, length, cond, bytes_eq, OnSome}
use Rattle.std.specs.Borrow.{MutBor, Fml, LendsSo}
use Rattle.tab_store.specs.Stores.{TableContents, RiseByName}
use Rattle.tab_store.specs.Tables.{TableState, table_at}
use Rattle.tab_store.specs.contracts.table.Table.{the_row as table_row}
use Rattle.tab_store.specs.contracts.tables.Tables.{the_row}

-- This is the table of that name now, all others stay, and all is as it was where that was the table.
pub record Leaves (name : List ℕ) (old : List TableContents) (table : TableState) (new : List TableContents) : Type 0 where
  pub tables : (q : List ℕ) → table_at new q ≡ cond (bytes_eq name q) (Some table) (table_at old q)
  pub count : length new ≡ length old
  pub names : RiseByName new
  pub same : table_at old name ≡ Some table → new ≡ old

-- the table of that name is lent, if there is one
abbrev pub LendsTable : MutBor (List TableContents) → List ℕ → Option (MutBor TableState) → Fml
LendsTable ts name r = LendsSo the_row table_row ts r (λ new table. OnSome r (Leaves name ts.now table new)) (λ new. new ≡ ts.now)
