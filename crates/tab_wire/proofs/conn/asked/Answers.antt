use Rattle.std.proofs.Common.{Bool, rules, ap, sym, ◌∙◌}
use Rattle.tab_wire.specs.Requests.{request_of}
use Rattle.tab_wire.proofs.Framed.{asked_so}
use Rattle.tab_wire.proofs.Turns.{may_ask, asked_by_known}
use Rattle.tab_wire.proofs.conn.asked.Goals as goal

pub greet-requires : goal.greet-requires
greet-requires c =
    may_ask c.args.user.now c.args.frame.now c.in-Ok.request (λ i. search (rules, c.type_inv.frame)) (ap (λ (b : Bool). request_of b c.args.frame.now) (sym c.is_some.ensures) ∙ c.in-Ok.ensures)

pub returns-in-Ok-clause-framed : goal.returns-in-Ok-clause-framed
returns-in-Ok-clause-framed c = asked_so _ c.args.frame.now c.in-Ok.request c.in-Ok.ensures

pub returns-in-Ok-clause-by : goal.returns-in-Ok-clause-by
returns-in-Ok-clause-by c = asked_by_known c.args.user.now c.greet.new.user c.in-Ok.request c.greet.ensures.known c.greet.ensures.by
