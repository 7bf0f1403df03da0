use Rattle.std.proofs.Common.{◌-◌, ◌≤◌, length}
use Rattle.tab_journal.proofs.Damaging.{NoneBefore}
use Rattle.tab_journal.proofs.damage.is_damaged_at_tags.Given as goal

abbrev pub invariant-loop-from : goal.invariant-loop-from
invariant-loop-from l = (8 ≤ l.from) × NoneBefore l.seal l.window l.read l.from

abbrev pub decreases-loop-from : goal.decreases-loop-from
decreases-loop-from l = length l.window - l.from
