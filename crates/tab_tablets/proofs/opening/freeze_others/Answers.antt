use Rattle.std.proofs.Common.{◌<◌, length, subst, arith, below_more}
use Rattle.std.proofs.lemmas.List.Elements.{All-from_recursion}
use Rattle.tab_tablet.specs.Tablets.{frozen}
use Rattle.tab_tablets.specs.Places.{IsSettled}
use Rattle.tab_tablets.proofs.PutIn.{makes_both, still_settled, among_at}
use Rattle.tab_tablets.proofs.opening.freeze_others.Goals as goal

pub freeze_outside-requires-clause-inside : goal.freeze_outside-requires-clause-inside
freeze_outside-requires-clause-inside c = All-from_recursion (λ w. w < length c.args.tablet_list.now) c.args.places.now c.requires.inside c.loop-place.place-index 0 c.loop-place-test.true

pub freeze_outside-requires-clause-settled : goal.freeze_outside-requires-clause-settled
freeze_outside-requires-clause-settled c = λ k a b. still_settled frozen c.args.tablet_list.now _ _ k c.loop-place.invariant.more (c.requires.settled k a b)

pub loop-place-preserved : goal.loop-place-preserved
loop-place-preserved c = record {
  more = makes_both frozen c.args.tablet_list.now _ _ _ c.loop-place.invariant.more c.in_ok-freeze_outside.ensures.more;
  settled = below_more _ _ (λ j lt. still_settled frozen c.args.tablet_list.now _ _ _ c.in_ok-freeze_outside.ensures.more (c.loop-place.invariant.settled j lt)) c.in_ok-freeze_outside.ensures.settled;
}

pub returns-clause-settled : goal.returns-clause-settled
returns-clause-settled c = λ k e.
    let h = among_at c.args.places.now k e in
    let lt = h.1 in
    subst (IsSettled frozen c.args.tablet_list.now c.loop-place.made.items) h.2 (c.loop-place.invariant.settled h.0 (omega (arith, lt)))
