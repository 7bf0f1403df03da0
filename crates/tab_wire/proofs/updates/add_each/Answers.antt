use Rattle.tab_codec.specs.Reading.{parts_at}
use Rattle.tab_wire.specs.Gives.{bytes_left}
use Rattle.tab_wire.specs.FrameReading.{update_at}
use Rattle.tab_wire.specs.Updating.{grown}
use Rattle.tab_wire.proofs.Updating.{goes_on}
use Rattle.tab_wire.proofs.updates.add_each.Goals as goal

pub loop-preserved : goal.loop-preserved
loop-preserved c =
    goes_on c.loop.mutation c.add_update.new.mutation c.args.count c.loop.counter (bytes_left c.loop.fields) (bytes_left c.add_update.new.fields)
    (grown c.args.mutation.now (parts_at update_at c.args.count (bytes_left c.args.fields.now))) c.loop-test.true c.in-Ok.ensures c.loop.invariant
