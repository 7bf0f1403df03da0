-- For proofs. What the tablets of a table hold, listed one tablet behind the other.
use Rattle.std.specs.Prelude.{◌≡◌, ℕ, ◌+◌, ◌<◌, List, ◌++◌, length, map, take}
use Rattle.tab_key.specs.Records.{Record}
use Rattle.tab_key.specs.Sorted.{sorted}
use Rattle.tab_iter.specs.Bags.{flat}
use Rattle.tab_tablet.specs.Tablets.{Tablet, records_in}
use Rattle.tab_tablets.specs.ByRow.{records_of_all, LieApart}
use Rattle.tab_tablets.specs.Places.{tablet_at}

-- what each of them holds, in its order, one tablet behind the other
abbrev pub listed : List Tablet → List Record
listed ts = flat (map (λ (t : Tablet). sorted (records_in t)) ts)

-- to list one tablet more is to go on by what it holds
abbrev pub ListsOn : Type 0
ListsOn = (ts : List Tablet) (place : ℕ) → place < length ts → listed (take (place + 1) ts) ≡ listed (take place ts) ++ sorted (records_in (tablet_at ts place))

-- where the tablets lie apart, to list them all is to list all records in their one order
abbrev pub ListsInOrder : Type 0
ListsInOrder = (ts : List Tablet) → LieApart ts → listed ts ≡ sorted (records_of_all ts)
