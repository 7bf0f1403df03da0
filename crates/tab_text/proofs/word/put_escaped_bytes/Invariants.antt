use Rattle.std.proofs.Common.{length, ◌-◌, ◌≤◌, take}
use Rattle.tab_io.specs.Writing.{HasPut}
use Rattle.tab_text.specs.Words.{escaped}
use Rattle.tab_text.proofs.word.put_escaped_bytes.Given as goal

abbrev pub invariant-loop-done : goal.invariant-loop-done
invariant-loop-done g l = record {
  within : l.done ≤ length l.bytes;
  put : HasPut g.W.Output l.initial.output l.output (escaped (take l.done l.bytes));
}

abbrev pub decreases-loop-done : goal.decreases-loop-done
decreases-loop-done g l = length l.bytes - l.done
