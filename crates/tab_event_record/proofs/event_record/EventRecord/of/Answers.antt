use Rattle.std.proofs.Common.{rules, ◌≡◌, sym, subst, ◌∙◌, to_z, of_z, w64}
use Rattle.tab_key.specs.Names.{IsName}
use Rattle.tab_event_record.proofs.Said.{is_body, said}
use Rattle.tab_event_record.proofs.event_record.EventRecord.of.Goals as goal

pub invariant_of-result : goal.invariant_of-result
invariant_of-result c = record {
  user = subst IsName (sym (c.in_ok-user.ensures ∙ c.as_bytes.ensures.value)) c.as_bytes.ensures.valid;
  body = is_body c.args.act.now c.act_fits.ensures c.in_ok-body.body c.in_ok-body.ensures.bytes c.in_ok-body.ensures.short c.in_ok-body.ensures.fits;
}

pub returns : goal.returns
returns c =
    let user_is = c.in_ok-user.ensures ∙ c.as_bytes.ensures.value in
    let trip : to_z w64 (of_z w64 c.args.moment) ≡ c.args.moment = search rules in
    let act_is = said c.args.act.now c.act_fits.ensures c.in_ok-body.body c.in_ok-body.ensures.bytes c.in_ok-body.ensures.short c.in_ok-body.ensures.fits in
    λ i. record { user = user_is i; moment = trip i; act = act_is i }
