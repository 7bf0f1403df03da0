use Rattle.std.proofs.Common.{rules, ◌≡◌, arith}
use Rattle.std.specs.Prelude.{is_some}
use Rattle.tab_journal.specs.Said.{batch_in}
use Rattle.tab_journal.proofs.Damaging.{none_summed, none_tagged, none_settled, settled_before, settled_behind, by_call}
use Rattle.tab_journal.proofs.damage.is_later.Goals as goal

pub returns-in_default : goal.returns-in_default
returns-in_default c = none_summed c.args.seal c.args.window.now c.args.read c.args.place _ c.split_at.ensures.back c.in_default.ensures

pub returns-in_default-take_tag : goal.returns-in_default-take_tag
returns-in_default-take_tag c = none_tagged c.args.seal c.args.window.now c.args.read c.args.place _ c.split_at.ensures.back c.in-Some.before c.in-Some.from_place.now c.in-Some.ensures c.in_default-take_tag.ensures

pub returns-in_default-take_long : goal.returns-in_default-take_long
returns-in_default-take_long c =
    none_settled c.args.seal c.args.window.now c.args.read c.args.place _ c.split_at.ensures.back c.in-Some.before c.in-Some.from_place.now c.in-Some.ensures c.in-Some-take_tag.rest.now c.in-Some-take_tag.ensures
    c.in_default-take_long.ensures

pub returns-then-settled-read : goal.returns-then-settled-read
returns-then-settled-read c =
    settled_before c.args.seal c.args.window.now c.args.read c.args.place _ c.split_at.ensures.back c.in-Some.before c.in-Some.from_place.now c.in-Some.ensures c.in-Some-take_tag.rest.now c.in-Some-take_tag.ensures
    _ c.in-Some-take_long.settled c.in-Some-take_long.ensures (omega (arith, c.if-settled-read.true))

pub returns-then-settled-read-2 : goal.returns-then-settled-read-2
returns-then-settled-read-2 c =
    settled_behind c.args.seal c.args.window.now c.args.read c.args.place _ c.split_at.ensures.back c.in-Some.before c.in-Some.from_place.now c.in-Some.ensures c.in-Some-take_tag.rest.now c.in-Some-take_tag.ensures
    _ c.in-Some-take_long.settled c.in-Some-take_long.ensures (omega (arith, c.if-settled-read.false, c.if-settled-read-2.true, c.requires.low))

pub returns : goal.returns
returns c =
    let told : c.is_some.result ≡ is_some c.take_summed.result = search rules in
    by_call c.args.seal c.args.window.now c.args.read c.args.place _ c.split_at.ensures.back c.in-Some.before c.in-Some.from_place.now c.in-Some.ensures c.in-Some-take_tag.rest.now c.in-Some-take_tag.ensures
    c.take_summed.result (λ x. (batch_in x.0, x.1.now)) c.is_some.result _ c.in-Some-take_long.settled
    c.take_summed.ensures told (λ i. omega (arith, c.type_inv.window i)) c.requires.low c.requires.inside c.in-Some-take_long.ensures (omega (arith, c.if-settled-read.false))
    (omega (arith, c.if-settled-read.false, c.if-settled-read-2.false, c.requires.low))
