use Rattle.std.proofs.Common.{rules, ◌≡◌, ◌<◌, [], length}
use Rattle.std.proofs.lemmas.List.{nil_from_length}
use Rattle.tab_recovery.proofs.Progress.{goes_on, shorter, ends, fails}
use Rattle.tab_recovery.proofs.replaying.replay.Goals as goal

pub returns-in-Err : goal.returns-in-Err
returns-in-Err c =
    let l = c.loop-rest in
    let some : 0 < length c.loop-rest.rest.now = search rules in
    fails c.args.core.now l.core c.redo_next.new.core c.args.body.now l.rest.now l.count c.in-Err.fault l.invariant.progress some c.in-Err.ensures.failed

pub loop-rest-smaller : goal.loop-rest-smaller
loop-rest-smaller c =
    let l = c.loop-rest in
    shorter c.args.core.now l.core c.redo_next.new.core c.args.body.now l.rest.now c.in-Ok.behind.now l.count l.invariant.progress c.in-Ok.ensures.done

pub loop-rest-preserved : goal.loop-rest-preserved
loop-rest-preserved c =
    let l = c.loop-rest in
    record { progress = goes_on c.args.core.now l.core c.redo_next.new.core c.args.body.now l.rest.now c.in-Ok.behind.now l.count l.invariant.progress c.in-Ok.ensures.done }

pub returns : goal.returns
returns c =
    let l = c.loop-rest in
    let short : length c.loop-rest.rest.now ≡ 0 = search rules in
    let none : c.loop-rest.rest.now ≡ [] = nil_from_length c.loop-rest.rest.now short in
    ends c.args.core.now l.core c.args.body.now l.rest.now l.count l.invariant.progress none
