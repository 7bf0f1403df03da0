-- To be believed by whoever relies on it. Work that is due on the tablets of a core, and where it is to be done. (Accumulo user manual: minor and major compactions, tablets)
use Rattle.std.specs.Prelude.{◌≡◌, ℕ, suc, List, [], ◌∷◌, ◌++◌, Bool, not, ◌==◌, Option, Some, None, filter, map, take}
use Rattle.std.specs.List.{flat_map, list_any}
use Rattle.std.specs.Option.{option_map, option_or}
use Rattle.tab_tablets.specs.Tablets.{Tablet}
use Rattle.tab_tablets.specs.TabletDue.{is_due}
use Rattle.tab_tablets.specs.Due.{first_due, start_of}
use Rattle.tab_tablets.specs.declared.DueKind.{DueKind}
use Rattle.tab_tablets.specs.declared.DueKind.TheVariants.{Minor, Partial, Split}
use Rattle.tab_store.specs.Stores.{TableContents}
use Rattle.tab_store.specs.declared.due.Due.{Due}

-- work of this kind on the first tablet that is due for it: tables by name, tablets by their end rows
abbrev pub due_as : DueKind → List TableContents → Option Due
due_as kind ts = option_map (λ number. record { kind = kind; tablet = number }) (first_due kind (flat_map (λ (t : TableContents). t.tablets) ts))

-- the first work that is due: all minor compactions before partial ones before splits
unfoldable pub due_in : List TableContents → Option Due
due_in ts = option_or (due_as Minor ts) (option_or (due_as Partial ts) (due_as Split ts))

-- ---- a list of it
-- work of this kind on each tablet that is due for it: tables by name, tablets by their end rows
abbrev pub due_among : DueKind → List Tablet → List Due
due_among kind ts = map (λ (t : Tablet). record { kind = kind; tablet = t.number }) (filter (is_due kind) ts)

abbrev pub all_due : DueKind → List TableContents → List Due
all_due kind ts = due_among kind (flat_map (λ (t : TableContents). t.tablets) ts)

-- all work that is due: all minor compactions before partial ones before splits
abbrev pub due_in_order : List TableContents → List Due
due_in_order ts = all_due Minor ts ++ (all_due Partial ts ++ all_due Split ts)

-- whether two works are on different tablets
abbrev pub are_apart : Due → Due → Bool
are_apart d e = not (d.tablet == e.tablet)

-- of the works on one tablet only the first
abbrev pub each_once : List Due → List Due
each_once [] = []
each_once (d ∷ ds) = d ∷ filter (are_apart d) (each_once ds)

-- the first works that are due, so many at most, and at most one for each tablet
unfoldable pub due_listed : ℕ → List TableContents → List Due
due_listed max ts = take max (each_once (due_in_order ts))

-- what becomes of this list, of so many at most, with these works behind it: each on a tablet of its own
abbrev pub is_new : List Due → Due → Bool
is_new list d = not (list_any (λ (e : Due). e.tablet == d.tablet) list)

abbrev pub listed_on : ℕ → List Due → List Due → List Due
listed_on max list ds = take max (list ++ filter (is_new list) (each_once ds))

-- the first of some works
abbrev pub first_work : List Due → Option Due
first_work [] = None
first_work (d ∷ ds) = Some d

-- The law: the first work of such a list is the first that is due.
abbrev pub DueIsFirst : Type 0
DueIsFirst = (n : ℕ) (ts : List TableContents) → due_in ts ≡ first_work (due_listed (suc n) ts)

-- ---- where it is to be done
-- the name of a table, and the least row of its tablet with this number
abbrev pub target_at : ℕ → TableContents → Option (List ℕ × List ℕ)
target_at number t = option_map (λ row. (t.name, row)) (start_of number None t.tablets)

-- those of the first table that has a tablet with the number that the work tells
abbrev pub target_of : Due → List TableContents → Option (List ℕ × List ℕ)
target_of due [] = None
target_of due (t ∷ ts) = option_or (target_at due.tablet t) (target_of due ts)
