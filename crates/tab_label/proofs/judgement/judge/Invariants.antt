use Rattle.std.proofs.Common.{◌≡◌, take, Some}
use Rattle.tab_label.specs.Judging.{start, run}
use Rattle.tab_label.specs.JudgeViews.{levels_held, judgement_at, BeganBy}
use Rattle.tab_label.proofs.judgement.judge.Given as goal

abbrev pub invariant-loop-i : goal.invariant-loop-i
invariant-loop-i l = (run l.auths (Some start) (take l.i l.text) ≡ Some (judgement_at l.text l.i (levels_held l.below) l.innermost)) × BeganBy l.i l.innermost.phase
