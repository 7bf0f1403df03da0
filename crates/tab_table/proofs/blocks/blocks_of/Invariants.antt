-- What is in blocks, and what is left.
use Rattle.std.proofs.Common.{◌≡◌, ◌<◌, ◌++◌, length}
use Rattle.tab_key.specs.Encoding.{IsAt}
use Rattle.tab_table.specs.Blocks.{last_key}
use Rattle.tab_table.specs.Indexed.{records_of, AreIndexed}
use Rattle.tab_table.proofs.blocks.blocks_of.Given as goal

abbrev pub invariant-loop-top : goal.invariant-loop-top
invariant-loop-top g l = record {
  copied : records_of l.blocks ++ g.S.Source.rest l.source ≡ g.S.Source.rest l.initial.source;
  last : 0 < l.blocks.count → IsAt l.last.items 0;
  indexed : AreIndexed l.blocks (last_key l.blocks.count l.last.items);
}

abbrev pub decreases-loop-top : goal.decreases-loop-top
decreases-loop-top g l = length (g.S.Source.rest l.source)
