-- For proofs. What the stack of a scan lists.
use Rattle.std.specs.Prelude.{◌≡◌, ℕ, List, Bool, true, false, filter}
use Rattle.tab_key.specs.Records.{Key, Record}
use Rattle.tab_key.specs.Kept.{same_column}
use Rattle.tab_key.specs.declared.column.Column.{Column}
use Rattle.tab_key.specs.declared.range.Bound.TheVariants.{Unbounded}
use Rattle.tab_key.specs.Sorted.{sorted}
use Rattle.tab_cells.specs.Cells.{Query, is_shown}
use Rattle.tab_iter.specs.Both.{admits_both}
use Rattle.tab_iter.specs.Layers.{is_left, is_among}

-- these columns of all rows, under these authorizations
abbrev pub query_of : List Column → List (List ℕ) → Query
query_of columns auths = record { bounds = record { low = Unbounded; high = Unbounded }; columns = columns; authorizations = auths }

-- the records that a query shows of these, in their order
abbrev pub shown_of : List Record → ℕ → Query → List Record
shown_of us versions query = sorted (filter (is_shown us versions query) us)

-- the test asks of the column alone
abbrev pub IsOfColumns : (Key → Bool) → Type 0
IsOfColumns m = (a b : Key) → same_column a b ≡ true → m a ≡ m b

-- deleting, fetching, visible and versioning, one behind the other
abbrev pub stacked : ℕ → (Key → Bool) → (Key → Bool) → List Record → Record → Bool
stacked n chosen seen = admits_both (admits_both (admits_both (is_left false) (λ w u. chosen u.key)) (λ w u. seen u.key)) (is_among false n)
