use Rattle.std.proofs.Common.{◌≡◌, ◌-◌}
use Rattle.std.specs.Prelude.{map}
use Rattle.tab_codec.specs.Reading.{parts_at}
use Rattle.tab_wire.specs.Gives.{bytes_left}
use Rattle.tab_wire.proofs.Loop.{with_front}
use Rattle.tab_wire.proofs.counted.parts.Given as goal

abbrev pub invariant-loop : goal.invariant-loop
invariant-loop g l =
    with_front (map g.T.Countable.meaning_of l.parts.items) (parts_at g.T.Countable.reads (l.count - l.counter) (bytes_left l.fields)) ≡ parts_at g.T.Countable.reads l.count (bytes_left l.fn.fields)
