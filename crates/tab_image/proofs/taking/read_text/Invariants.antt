use Rattle.std.proofs.Common.{◌≡◌, ◌≤◌, ◌-◌, ◌+◌, length}
use Rattle.tab_image.specs.Streams.{Appended, text_of}
use Rattle.tab_image.proofs.taking.read_text.Given as goal

abbrev pub invariant-loop-left : goal.invariant-loop-left
invariant-loop-left g l = record {
  few : l.left ≤ l.count;
  counted : length l.text.items ≡ length l.fn.text.items + (l.count - l.left);
  so_far : Appended g.R.Input l.fn.input l.input (text_of (l.count - l.left)) l.fn.text.items l.text.items;
}

abbrev pub decreases-loop-left : goal.decreases-loop-left
decreases-loop-left g l = l.left
