use Rattle.std.proofs.Common.{◌≡◌, ◌≤◌, drop, length}
use Rattle.tab_key.specs.Bytes.{bytes_cmp}
use Rattle.tab_label.specs.Judging.{unescaped, undone}
use Rattle.tab_label.proofs.escapes.compare.Given as goal

abbrev pub invariant-loop-i : goal.invariant-loop-i
invariant-loop-i l = (bytes_cmp l.member (unescaped l.quoted) ≡ bytes_cmp (drop l.at l.member) (undone (drop l.i l.quoted) l.escaping)) × (l.at ≤ length l.member)
