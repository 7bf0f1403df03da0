use Rattle.tab_image.proofs.PartsLemmas.{stops_short}
use Rattle.tab_image.proofs.lists.read_parts.Goals as goal

pub returns-in-Err : goal.returns-in-Err
returns-in-Err g c = stops_short g.R.Input (g.P.ReadPart.reads c.args.how.now) c.args.count c.loop.counter _ _ _ _ _ c.loop-test.true c.loop.invariant c.in-Err.ensures
