-- For proofs. Names and steps that examples speak of.
use Rattle.std.specs.Prelude.{ℕ, ℤ, pos, List, codes}
use Rattle.tab_policy.specs.Roots.{root}
use Rattle.tab_key.specs.declared.range.Bound.TheVariants.{Unbounded}
use Rattle.tab_key.specs.declared.range.Bounds.{Bounds}
use Rattle.tab_history.specs.declared.event.Act.{Act}
use Rattle.tab_history.specs.declared.event.Step.{Step}
use Rattle.tab_history.specs.declared.event.Step.TheVariants.{Event}

-- a table
abbrev pub t : List ℕ
t = codes "t"

-- a row
abbrev pub r : List ℕ
r = codes "r"

-- a family
abbrev pub f : List ℕ
f = codes "f"

-- a qualifier
abbrev pub q : List ℕ
q = codes "q"

-- a value
abbrev pub v : List ℕ
v = codes "v"

-- a user beside root
abbrev pub bob : List ℕ
bob = codes "bob"

-- all rows
abbrev pub everywhere : Bounds
everywhere = record { low = Unbounded; high = Unbounded }

-- an event of the user at the moment
abbrev pub asks : List ℕ → ℤ → Act → Step
asks user moment a = Event (record { user = user; moment = moment; act = a })

-- an event of root at 0
abbrev pub as_root : Act → Step
as_root a = asks root (pos 0) a

-- somebody else
abbrev pub eve : List ℕ
eve = codes "eve"

-- an event of bob at 0
abbrev pub as_bob : Act → Step
as_bob a = asks bob (pos 0) a
