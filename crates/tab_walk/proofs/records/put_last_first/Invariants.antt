use Rattle.std.proofs.Common.{take}
use Rattle.std.specs.Prelude.{reverse}
use Rattle.std.specs.List.{flat_map}
use Rattle.tab_io.specs.Writing.{HasPut}
use Rattle.tab_walk.proofs.records.put_last_first.Given as goal

abbrev pub invariant-loop-index : goal.invariant-loop-index
invariant-loop-index g l = HasPut g.W.Output l.initial.output l.output (flat_map (g.P.PutRecord.text l.how) (take l.index (reverse l.records)))
