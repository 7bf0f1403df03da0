use Rattle.std.proofs.Common.{take}
use Rattle.std.specs.List.{flat_map}
use Rattle.tab_io.specs.Writing.{HasPut}
use Rattle.tab_text.proofs.items.put_each.Given as goal

abbrev pub invariant-loop-item : goal.invariant-loop-item
invariant-loop-item g l = HasPut g.W.Output l.initial.output l.output (flat_map (g.P.PutItem.text l.how) (take l.item-index l.items))
