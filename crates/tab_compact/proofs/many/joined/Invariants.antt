use Rattle.std.proofs.Common.{◌≡◌, List, map, Vec, Global}
use Rattle.std.specs.Prelude.{Ok, flat_map}
use Rattle.tab_compact.specs.declared.pending.MadeTable.{MadeTable}
use Rattle.tab_compact.proofs.many.joined.Given as goal

-- the tables of the chunks so far
abbrev pub invariant-loop-chunk : goal.invariant-loop-chunk
invariant-loop-chunk l =
    (made : List (Vec MadeTable Global))
    × (l.yielded ≡ map Ok made)
    × (l.tables.items ≡ flat_map (λ part. part.items) made)
