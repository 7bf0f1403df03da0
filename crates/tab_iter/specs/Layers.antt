-- For proofs. What each rule lets through of a whole list.
use Rattle.std.specs.Prelude.{ℕ, ℤ, List, Bool, not, ◌&&◌, ◌||◌, nat_lt, int_lt, filter, length, cond}
use Rattle.tab_key.specs.Order.{stands_before}
use Rattle.tab_key.specs.Kept.{is_put, same_column, is_deleted}
use Rattle.tab_key.specs.Records.{Record}
use Rattle.tab_cells.specs.Merged.{is_first_marker}

-- the puts that no marker hides, and the markers if they are kept
unfoldable pub is_left : Bool → List Record → Record → Bool
is_left keeps w u = cond (is_put u.kind) (not (is_deleted w u)) keeps

-- a put of the same column that stands before
unfoldable pub is_newer : Record → Record → Bool
is_newer u v = is_put v.kind && same_column v.key u.key && stands_before v u

-- the newest n puts of each column, and the markers if they are kept
unfoldable pub is_among : Bool → ℕ → List Record → Record → Bool
is_among keeps n w u = cond (is_put u.kind) (nat_lt (length (filter (is_newer u) w)) n) keeps

-- the puts, and of each column the first marker; a full merge drops that too if its timestamp lies below the floor
unfoldable pub is_needed : Bool → ℤ → List Record → Record → Bool
is_needed full floor w u = is_put u.kind || is_first_marker w u && not (full && int_lt u.key.timestamp floor)
