use Rattle.std.proofs.Common.{Result}
use Rattle.tab_shell.specs.declared.script.ScriptFault.{ScriptFault}
use Rattle.tab_prog.specs.Programs.{RunsTo}
use Rattle.tab_prog.proofs.Going.{to_do}
use Rattle.tab_prog.proofs.scripting.script_on.Given as goal

abbrev pub invariant-loop-line : goal.invariant-loop-line
invariant-loop-line g l = record {
  goes : (last : _) (files' : _) (input' : _) (o' : _) (r : Result (Unit {0}) ScriptFault) → RunsTo g.F.Files g.R.Input g.W.Output l.script l.files l.input l.output last files' input' o' r → RunsTo g.F.Files g.R.Input g.W.Output l.fn.script l.fn.files l.fn.input l.fn.output last files' input' o' r;
}

abbrev pub decreases-loop-line : goal.decreases-loop-line
decreases-loop-line g l = to_do g.R.Input l.input
