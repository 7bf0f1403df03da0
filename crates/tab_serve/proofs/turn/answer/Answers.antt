use Rattle.std.proofs.Common.{ℕ, List, [], Option, ap, sym, subst, ◌∙◌}
use Rattle.std.specs.Prelude.{unwrap_or, option_copied}
use Rattle.tab_io.specs.Writing.{Puts}
use Rattle.tab_wire.specs.Replies.{sent_of, sent_bytes}
use Rattle.tab_serve.proofs.turn.answer.Goals as goal

pub returns-clause-told : goal.returns-clause-told
returns-clause-told g c =
    let reply = g.S.Service.told c.answer.new.self in
    let by = ap (λ (o : Option (List ℕ)). unwrap_or o []) (ap option_copied (sym c.unwrap.ensures) ∙ c.user.ensures) in (
      sent_of c.args.conn.now.opened c.cells_asked-count.result reply,
      (
        reply,
        subst (λ (u : List ℕ). g.S.Service.answers c.args.service.now u c.args.request.now reply c.answer.new.self) by c.answer.ensures.answers,
        (λ i. sent_of (c.requires.opened i) (c.cells_asked-count.ensures i) reply),
      ),
      subst (λ t. Puts g.W.Output c.args.output.now c.answer-2.new.output (sent_bytes (sent_of c.args.conn.now.opened c.cells_asked-count.result t)) c.answer-2.result) c.reply.ensures c.answer-2.ensures.bytes,
    )
