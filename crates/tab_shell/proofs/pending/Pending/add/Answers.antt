use Rattle.std.proofs.Common.{◌<◌, length, true, refl, arith, rules}
use Rattle.tab_shell.proofs.PendingLemmas.{pends_nothing, pends_lost, pends_kept}
use Rattle.tab_shell.proofs.pending.Pending.add.Goals as goal

pub returns-then-part-eq0 : goal.returns-then-part-eq0
returns-then-part-eq0 c gone h = pends_nothing c.args.self.now c.args.part.now gone (omega arith) h

pub returns-then-self : goal.returns-then-self
returns-then-self c gone h =
    let some : 0 < length c.args.part.now = omega arith in
    pends_lost c.args.self.now c.args.self.now c.args.part.now gone c.if-self.true c.requires some h

pub returns-then-is_err : goal.returns-then-is_err
returns-then-is_err c gone h =
    let some : 0 < length c.args.part.now = omega arith in
    pends_lost c.args.self.now (record { bytes = c.clear.new.self; lost = true }) c.args.part.now gone refl c.requires some h

pub returns-else-is_err : goal.returns-else-is_err
returns-else-is_err c gone h = pends_kept c.args.self.now (record { bytes = c.extend_from_slice.new.self; lost = c.args.self.now.lost }) c.args.part.now gone c.if-self.false c.if-self.false (search rules) c.requires h
