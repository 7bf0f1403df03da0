use Rattle.std.proofs.Common.{Ok, Err, subst}
use Rattle.tab_shell.specs.declared.script.Ended.{Ended}
use Rattle.tab_shell.specs.declared.script.Ended.TheVariants.{Input, File}
use Rattle.tab_shell.specs.Progress.{RunsScript}
use Rattle.tab_prog.proofs.Going.{chain_ends, chain_fails, chain_more, chain_stops, fewer_to_do}
use Rattle.tab_prog.proofs.scripting.script_on.Goals as goal

pub loop-line-init : goal.loop-line-init
loop-line-init g c = record { goes = λ last files' input' o' r runs. runs }

pub loop-line-preserved : goal.loop-line-preserved
loop-line-preserved g c =
    let l = c.loop-line in
    let run : RunsScript g.R.Input g.W.Output l.script l.input l.output c.run.new.self c.run.new.input c.run.new.output (Ok (File c.in-Ok-File.line)) =
    subst (λ (ended : Ended). RunsScript g.R.Input g.W.Output l.script l.input l.output c.run.new.self c.run.new.input c.run.new.output (Ok ended)) c.in-Ok-File.field-0-is c.in-Ok-File.ensures.run in
    record {
      goes = λ last files' input' o' r more. l.invariant.goes last files' input' o' r
          (chain_more g.F.Files g.R.Input g.W.Output l.script c.run.new.self c.work.new.script c.in-Ok-File.line l.files c.work.new.files l.input c.run.new.input l.output c.run.new.output c.work.new.output run c.in-Ok.ensures last files' input' o' r more);
    }

pub loop-line-smaller : goal.loop-line-smaller
loop-line-smaller g c = fewer_to_do g.R.Input c.loop-line.input c.run.new.input c.in-Ok-File.ensures.further

pub returns-in-Err-work : goal.returns-in-Err-work
returns-in-Err-work g c =
    let l = c.loop-line in
    let run : RunsScript g.R.Input g.W.Output l.script l.input l.output c.run.new.self c.run.new.input c.run.new.output (Ok (File c.in-Ok-File.line)) =
    subst (λ (ended : Ended). RunsScript g.R.Input g.W.Output l.script l.input l.output c.run.new.self c.run.new.input c.run.new.output (Ok ended)) c.in-Ok-File.field-0-is c.in-Ok-File.ensures.run in
    l.invariant.goes _ _ _ _ _ (chain_stops g.F.Files g.R.Input g.W.Output l.script c.run.new.self c.work.new.script c.in-Ok-File.line l.files c.work.new.files l.input c.run.new.input l.output c.run.new.output c.work.new.output run c.in-Err-work.ensures)

pub returns-in-Ok-Input : goal.returns-in-Ok-Input
returns-in-Ok-Input g c =
    let l = c.loop-line in
    let run : RunsScript g.R.Input g.W.Output l.script l.input l.output c.run.new.self c.run.new.input c.run.new.output (Ok Input) =
    subst (λ (ended : Ended). RunsScript g.R.Input g.W.Output l.script l.input l.output c.run.new.self c.run.new.input c.run.new.output (Ok ended)) c.in-Ok-Input.field-0-is c.in-Ok-Input.ensures.run in
    l.invariant.goes _ _ _ _ _ (chain_ends g.F.Files g.R.Input g.W.Output l.script c.run.new.self l.files l.input c.run.new.input l.output c.run.new.output run)

pub returns-in-Err : goal.returns-in-Err
returns-in-Err g c =
    let l = c.loop-line in
    l.invariant.goes _ _ _ _ _ (chain_fails g.F.Files g.R.Input g.W.Output l.script c.run.new.self c.in-Err.fault l.files l.input c.run.new.input l.output c.run.new.output c.in-Err.ensures.run)
