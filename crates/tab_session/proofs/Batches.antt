-- A session as its whole answer and how many of its cells were given.
use Rattle.std.proofs.Common.{◌≡◌, ℕ, ◌+◌, ◌-◌, ◌≤◌, min, List, [], ◌∷◌, Bool, true, false, cond, refl, sym, ◌∙◌, ap, map, take, drop, length, arith, length-drop, length-take}
use Rattle.std.proofs.lemmas.List.{drop-map, length-map}
use Rattle.std.specs.Prelude.{Option, Some, None, MatchOption}
use Rattle.tab_key.specs.Order.{stands_before}
use Rattle.tab_key.specs.Records.{Record, Cell, cell_of}
use Rattle.tab_key.specs.declared.column.Column.{Column}
use Rattle.tab_cells.specs.Cells.{cells}
use Rattle.tab_cells.specs.SessionState.{SessionState, batch, gave}
use Rattle.tab_iter.specs.Lists.{IsEnd}
use Rattle.tab_iter.proofs.ListLaws.{ends_nil, ends_whole, ends_more}
use Rattle.tab_iter.proofs.MergingLaws.{ending_of_end}
use Rattle.tab_iter.specs.Stack.{query_of}
use Rattle.tab_session.specs.Bookmarks.{from_record, ahead_of, given_of}
use Rattle.tab_version.specs.Shown.{shown}
use Rattle.tab_session.specs.declared.bookmark.Bookmark.{Bookmark}
use Rattle.tab_session.specs.declared.bookmark.Bookmark.TheVariants.{Beginning, At}

-- ---- what is ahead is an end of the list
record_ends : (r : Record) (w : List Record) → IsEnd (from_record r w) w
record_ends r [] = ends_whole []
record_ends r (u ∷ us) = go (stands_before u r) (record_ends r us)
  where
    go : (b : Bool) → IsEnd (from_record r us) us → IsEnd (cond b (from_record r us) (u ∷ us)) (u ∷ us)
    go true e = ends_more u (from_record r us) us e
    go false e = ends_whole (u ∷ us)

ahead_ends : (b : Option Bookmark) (w : List Record) → IsEnd (ahead_of b w) w
ahead_ends None w = ends_nil w
ahead_ends (Some Beginning) w = ends_whole w
ahead_ends (Some (At r)) w = record_ends r w

drops_given : (b : Option Bookmark) (w : List Record) → drop (given_of b w) w ≡ ahead_of b w
drops_given b w = sym (ending_of_end (ahead_of b w) w (ahead_ends b w))

ahead_fits : (b : Option Bookmark) (w : List Record) → length (ahead_of b w) ≤ length w
ahead_fits b w = omega (arith, ap length (drops_given b w), length-drop (given_of b w) w)

-- ---- a new session
begins : (us : List Record) (n : ℕ) (columns : List Column) (auths : List (List ℕ)) (w : List Record) → w ≡ shown us n columns auths → ◌≡◌ {A = SessionState} (record { all = map cell_of w; given = given_of (Some Beginning) w }) (record { all = cells us n (query_of columns auths); given = 0 })
unfolding cells
begins us n columns auths w e =
    let none : length w - length w ≡ 0 = omega arith in
    λ i. record { all = map cell_of (e i); given = none i }

-- a session on no records begins behind them
pub begins_nowhere : (us : List Record) (n : ℕ) (columns : List Column) (auths : List (List ℕ)) (w : List Record) → us ≡ [] → w ≡ shown us n columns auths → ◌≡◌ {A = SessionState} (record { all = map cell_of w; given = given_of None w }) (record { all = cells us n (query_of columns auths); given = 0 })
unfolding cells
begins_nowhere us n columns auths w none e =
    let bare : length w ≡ 0 = ap length e ∙ ap (λ (vs : List Record). length (shown vs n columns auths)) none in
    let given : length w - 0 ≡ 0 = omega (arith, bare) in
    λ i. record { all = map cell_of (e i); given = given i }

-- where a session begins
pub begins_at : (b : Option Bookmark) (us : List Record) (n : ℕ) (columns : List Column) (auths : List (List ℕ)) (w : List Record) → MatchOption b (us ≡ []) (λ m. m ≡ Beginning) → w ≡ shown us n columns auths → ◌≡◌ {A = SessionState} (record { all = map cell_of w; given = given_of b w }) (record { all = cells us n (query_of columns auths); given = 0 })
begins_at None us n columns auths w at e = begins_nowhere us n columns auths w at e
begins_at (Some m) us n columns auths w at e = rw at (begins us n columns auths w e)

-- ---- a batch
abbrev held : Option Bookmark → List Record → SessionState
held b w = record { all = map cell_of w; given = given_of b w }

pub gives : (b : Option Bookmark) (w : List Record) (n : ℕ) (taken : List Cell) → taken ≡ take n (map cell_of (ahead_of b w)) → taken ≡ batch (held b w) n
gives b w n taken e = e ∙ ap (λ l. take n (map cell_of l)) (sym (drops_given b w)) ∙ ap (take n) (sym (drop-map cell_of (given_of b w) w))

pub gave_them : (b next : Option Bookmark) (w : List Record) (n : ℕ) → ahead_of next w ≡ drop n (ahead_of b w) → held next w ≡ gave (length (batch (held b w) n)) (held b w)
gave_them b next w n e =
    let many : length (batch (held b w) n) ≡ min n (length (ahead_of b w)) = ap length (sym (gives b w n (take n (map cell_of (ahead_of b w))) refl)) ∙ length-take n (map cell_of (ahead_of b w)) ∙ ap (min n) (length-map (ahead_of b w) cell_of) in
    let left : length (ahead_of next w) ≡ length (ahead_of b w) - n = ap length e ∙ length-drop n (ahead_of b w) in
    let fits : length (ahead_of b w) ≤ length w = ahead_fits b w in
    let count : given_of next w ≡ given_of b w + length (batch (held b w) n) = omega arith in
    λ i. record { all = map cell_of w; given = count i }
