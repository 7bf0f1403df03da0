use Rattle.std.proofs.Common.{sym, subst, arith}
use Rattle.tab_journal.specs.Cursors.{HasTaken}
use Rattle.tab_journal.specs.declared.cursor.Cursor.{Cursor}
use Rattle.tab_journal.proofs.Advancing.{advances}
use Rattle.tab_journal.proofs.reader.JournalReader.advance.Goals as goal

pub returns-then-take_next-clause-next : goal.returns-then-take_next-clause-next
returns-then-take_next-clause-next g c bs h =
    let one = c.in_ok-fetch.ensures.kept bs h in
    let two = c.in_ok-fetch-2.ensures.kept bs one in
    let t = c.if-take_next.ensures in
    (t.batch, t.taken _ bs two, t.body)

pub returns-clause-next : goal.returns-clause-next
returns-clause-next g c bs h =
    let one = c.in_ok-fetch.ensures.kept bs h in
    let two = c.in_ok-fetch-2.ensures.kept bs one in
    let taken = c.if-take_next.ensures in
    let three = c.in_ok-read_on.ensures.kept bs (subst (λ (z : Cursor). HasTaken (g.D.Device.seen c.fetch-2.new.device) z bs) (sym taken.0) two) in
    advances _ _ _ (c.in_ok-read_on.ensures.whole (omega arith)) c.read_on.new.self.cursor c.take_next-2.new.self bs (omega (arith, c.read_on.new.self.cursor.behind)) three c.take_next-2.result c.take_next-2.ensures
