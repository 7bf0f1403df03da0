use Rattle.std.proofs.Common.{◌≡◌, ◌++◌, ◌∷◌, [], ap, ◌∙◌}
use Rattle.std.specs.Prelude.{map}
use Rattle.std.proofs.lemmas.List.{map_push}
use Rattle.tab_codec.specs.Reading.{parts_at}
use Rattle.tab_wire.specs.Gives.{bytes_left}
use Rattle.tab_wire.proofs.Loop.{goes_on}
use Rattle.tab_wire.proofs.counted.parts.Goals as goal

pub loop-preserved : goal.loop-preserved
loop-preserved g c =
    let reads = g.T.Countable.reads in
    let see = g.T.Countable.meaning_of in
    let before = map see c.loop.parts.items in
    let part = c.in_ok-take.field-0 in
    let e : map see c.push.new.self.items ≡ before ++ see part ∷ [] = ap (map see) c.in_ok-push.ensures.items ∙ map_push see c.loop.parts.items part in
    rw e (goes_on reads before c.args.count c.loop.counter (bytes_left c.loop.fields) (see part) (bytes_left c.take.new.fields) (parts_at reads c.args.count (bytes_left c.args.fields.now)) c.loop-test.true c.in_ok-take.ensures c.loop.invariant)
