use Rattle.std.proofs.Common.{rules, refl}
use Rattle.tab_io.proofs.Known.{written_more}
use Rattle.tab_io.proofs.counted.Counted.write_all.Goals as goal

pub loop-written-preserved : goal.loop-written-preserved
loop-written-preserved g c = record {
  within = search rules;
  faults = search rules;
  bytes = written_more _ _ _ c.args.bytes.now _ c.loop-written.written c.in-Ok.count refl c.loop-written.invariant.bytes c.in-Ok.ensures.bytes;
}
