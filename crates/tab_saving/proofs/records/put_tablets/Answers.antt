use Rattle.std.proofs.Common.{◌<◌, ◌≤◌, length, subst}
use Rattle.tab_saving.specs.Typed.{IsTypedRecord}
use Rattle.tab_saving.proofs.Listings.{within, all_told, tablet_more, tablet_failed, tablets_done, all_more, all_done}
use Rattle.tab_saving.proofs.records.put_tablets.Goals as goal

pub put_tablet-requires : goal.put_tablet-requires
put_tablet-requires g c = within (length c.args.table.now.tablets) c.loop-place.place (subst (λ n. c.loop-place.place < n) c.tablet_count-place-end.ensures c.loop-place-test.true)

pub returns-in-Err-clause-put : goal.returns-in-Err-clause-put
returns-in-Err-clause-put g c =
    let ts = c.args.table.now.tablets in
    let lt = within (length ts) c.loop-place.place (subst (λ n. c.loop-place.place < n) c.tablet_count-place-end.ensures c.loop-place-test.true) in
    tablet_failed g.W.Output ts c.args.output.now c.loop-place.output c.put_tablet.new.output c.loop-place.place c.in-Err.fault c.requires.apart lt c.loop-place.invariant.put c.in-Err.ensures.put

pub loop-place-preserved : goal.loop-place-preserved
loop-place-preserved g c =
    let ts = c.args.table.now.tablets in
    let lt = within (length ts) c.loop-place.place (subst (λ n. c.loop-place.place < n) c.tablet_count-place-end.ensures c.loop-place-test.true) in
    record {
      put = tablet_more g.W.Output ts c.args.output.now c.loop-place.output c.put_tablet.new.output c.loop-place.place lt c.loop-place.invariant.put c.in-Ok.ensures.put;
      typed = all_more IsTypedRecord ts c.loop-place.place lt c.loop-place.invariant.typed c.in-Ok.ensures.typed;
    }

pub returns-clause-put : goal.returns-clause-put
returns-clause-put g c =
    let ts = c.args.table.now.tablets in
    let all = subst (λ n. n ≤ c.loop-place.place) c.tablet_count-place-end.ensures c.loop-place-test.false in
    tablets_done g.W.Output ts c.args.output.now c.loop-place.output c.loop-place.place c.requires.apart (all_told (length ts) c.loop-place.place c.requires.few all) c.loop-place.invariant.put

pub returns-clause-typed : goal.returns-clause-typed
returns-clause-typed g c =
    let ts = c.args.table.now.tablets in
    let all = subst (λ n. n ≤ c.loop-place.place) c.tablet_count-place-end.ensures c.loop-place-test.false in
    all_done IsTypedRecord ts c.loop-place.place c.requires.apart (all_told (length ts) c.loop-place.place c.requires.few all) c.loop-place.invariant.typed
