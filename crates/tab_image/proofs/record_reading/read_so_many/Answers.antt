use Rattle.std.proofs.Common.{◌+◌, List, sym, subst}
use Rattle.tab_key.specs.Records.{Record}
use Rattle.tab_codec.specs.Reading.{parts_at}
use Rattle.tab_image.specs.Reading.{record_at}
use Rattle.tab_image.specs.Streams.{HasRead}
use Rattle.tab_image.proofs.PartsLemmas.{read_pushed, stops_short}
use Rattle.tab_image.proofs.record_reading.read_so_many.Goals as goal

pub loop-preserved : goal.loop-preserved
loop-preserved g c =
    let more = c.in-Ok.ensures in
    subst (λ (rs : List Record). HasRead g.R.Input c.args.input.now c.read_record.new.input (parts_at record_at (c.loop.counter + 1)) rs) (sym more.added)
    (read_pushed g.R.Input record_at c.loop.counter _ _ _ _ more.last c.loop.invariant more.read)

pub returns-in-Err : goal.returns-in-Err
returns-in-Err g c = stops_short g.R.Input record_at c.args.count c.loop.counter _ _ _ _ _ c.loop-test.true c.loop.invariant c.in-Err.ensures
