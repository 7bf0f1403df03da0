use Rattle.std.proofs.Common.{refl, sym, subst}
use Rattle.tab_history.specs.declared.reply.Refusal.TheVariants.{NoMemory}
use Rattle.tab_wire.specs.Replies as sent
use Rattle.tab_wire.specs.Heard.{heard_by}
use Rattle.tab_wire.specs.declared.asked.Asked.{Asked}
use Rattle.tab_serve.specs.Turns.{Tells}
use Rattle.tab_serve.proofs.turn.tell.Goals as goal

pub returns-in-Bad-clause-told : goal.returns-in-Bad-clause-told
returns-in-Bad-clause-told g c =
    let at = c.args.service.now in
    let by = c.args.conn.now.user in
    (sent.BadFrame c.in-Bad.reason, subst (λ (a : Asked). Tells g.S.Service at (heard_by by a) (sent.BadFrame c.in-Bad.reason) at) (sym c.in-Bad.is) (refl, refl), c.write_bad_frame.ensures)

pub returns-in-Broken-clause-told : goal.returns-in-Broken-clause-told
returns-in-Broken-clause-told g c =
    let at = c.args.service.now in
    let by = c.args.conn.now.user in
    (sent.BadFrame c.in-Broken.reason, subst (λ (a : Asked). Tells g.S.Service at (heard_by by a) (sent.BadFrame c.in-Broken.reason) at) (sym c.in-Broken.is) (refl, refl), c.write_bad_frame-in-Broken.ensures)

pub returns-in-NoMemory-clause-told : goal.returns-in-NoMemory-clause-told
returns-in-NoMemory-clause-told g c =
    let at = c.args.service.now in
    let by = c.args.conn.now.user in
    (sent.Refused NoMemory, subst (λ (a : Asked). Tells g.S.Service at (heard_by by a) (sent.Refused NoMemory) at) (sym c.in-NoMemory.is) (refl, refl), c.answer-in-NoMemory.ensures.bytes)
