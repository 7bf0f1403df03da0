-- What tablets hold that refine the updates in their rows was accepted, and lies in their rows.
use Rattle.std.proofs.Common.{◌⊎◌, inl, inr, ℕ, List, [], ◌∷◌}
use Rattle.std.specs.Prelude.{ℤ, filter}
use Rattle.tab_key.specs.Records.{Record}
use Rattle.tab_key.specs.Sorted.{IsIn}
use Rattle.tab_key.proofs.Rising.{in_from, in_to, in_filter}
use Rattle.tab_cells.proofs.Lists.{in_append}
use Rattle.tab_tablets.specs.Tablets.{Tablet, records_in}
use Rattle.tab_tablets.specs.ByRow.{records_of_all}
use Rattle.tab_tablets.specs.Places.{HoldOwnRows}
use Rattle.tab_history.proofs.Held.{not_false}
use Rattle.tab_store.specs.Keeping.{is_low, is_high, TabletsRefine}

pub all_accepted : (ts : List Tablet) (us : List Record) (next n : ℕ) (floor : ℤ) → TabletsRefine ts us next n floor → (u : Record) → IsIn (records_of_all ts) u → IsIn us u
all_accepted [] us next n floor a u h = absurd h
all_accepted (t ∷ ts) us next n floor a u h = go (in_append (records_in t) (records_of_all ts) u h) (λ k. all_accepted ts (filter (is_high t.end) us) next n floor a.1 u k)
  where
    go : IsIn (records_in t) u ⊎ IsIn (records_of_all ts) u → (IsIn (records_of_all ts) u → IsIn (filter (is_high t.end) us) u) → IsIn us u
    go (inl k) ih = (in_filter (is_low t.end) us u (in_from _ u (a.0.refines.refines.accepted u (in_to (records_in t) u k)))).0
    go (inr k) ih = (in_filter (is_high t.end) us u (ih k)).0

-- each record lies in a row of its tablet
pub own_rows : (ts : List Tablet) (us : List Record) (next n : ℕ) (floor : ℤ) → TabletsRefine ts us next n floor → HoldOwnRows ts
own_rows [] us next n floor a = tt
own_rows (t ∷ ts) us next n floor a = (
  λ u k. (in_filter (is_low t.end) us u (in_from _ u (a.0.refines.refines.accepted u (in_to (records_in t) u k)))).1,
  λ u k. not_false _ (in_filter (is_high t.end) us u (all_accepted ts (filter (is_high t.end) us) next n floor a.1 u k)).1,
  own_rows ts (filter (is_high t.end) us) next n floor a.1,
)
