use Rattle.std.proofs.Common.{◌≡◌, take}
use Rattle.tab_work.specs.Dues.{all_aimed}
use Rattle.tab_work.proofs.dues.with_targets.Given as goal

abbrev pub invariant-loop-due : goal.invariant-loop-due
invariant-loop-due l = l.found.items ≡ all_aimed l.core.tables (take l.due-index l.list)
