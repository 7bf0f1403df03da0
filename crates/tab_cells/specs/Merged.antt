-- To be believed by whoever relies on it. What a merge of records keeps. (Accumulo user manual: minor and major compactions)
use Rattle.std.specs.Prelude.{ℕ, ℤ, List, Bool, not, ◌&&◌, ◌||◌, int_lt, filter}
use Rattle.std.specs.List.{list_any}
use Rattle.tab_key.specs.Records.{Record}
use Rattle.tab_key.specs.Order.{stands_before}
use Rattle.tab_key.specs.Kept.{is_put, same_column, is_kept}
use Rattle.tab_key.specs.Sorted.{sorted}

-- a marker before which no marker of its column stands
unfoldable pub is_first_marker : List Record → Record → Bool
is_first_marker us u = not (is_put u.kind) && not (list_any (λ m. not (is_put m.kind) && same_column m.key u.key && stands_before m u) us)

-- the kept puts, and of each column its first marker; a full merge drops that too if its timestamp lies below the floor
unfoldable pub survives : List Record → Bool → ℤ → ℕ → Record → Bool
survives us full floor n u = is_kept us n u || is_first_marker us u && not (full && int_lt u.key.timestamp floor)

-- the rising list of what is kept of these records
unfoldable pub merged : List Record → Bool → ℤ → ℕ → List Record
merged us full floor n = sorted (filter (survives us full floor n) us)
