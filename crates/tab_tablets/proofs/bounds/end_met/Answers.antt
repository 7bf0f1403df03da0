use Rattle.std.proofs.Common.{◌∙◌, ap, subst, arith}
use Rattle.tab_key.specs.Ranges.{is_below}
use Rattle.tab_tablets.specs.Places.{IsPlaceOf}
use Rattle.tab_tablets.proofs.Ranges.{none_below}
use Rattle.tab_tablets.proofs.bounds.end_met.Goals as goal

pub returns-in-Inclusive-clause-high : goal.returns-in-Inclusive-clause-high
returns-in-Inclusive-clause-high c = λ k row le q. ap (λ b. is_below b row) c.in-Inclusive.is ∙ (none_below c.args.tablet_list.now c.in-Inclusive.row row c.place_of.result k (subst (λ r. IsPlaceOf r c.args.tablet_list.now c.place_of.result) c.as_bytes.ensures c.place_of.ensures) (omega arith) q).0

pub returns-in-Exclusive-clause-high : goal.returns-in-Exclusive-clause-high
returns-in-Exclusive-clause-high c = λ k row le q. ap (λ b. is_below b row) c.in-Exclusive.is ∙ (none_below c.args.tablet_list.now c.in-Exclusive.row row c.place_of-in-Exclusive.result k (subst (λ r. IsPlaceOf r c.args.tablet_list.now c.place_of-in-Exclusive.result) c.as_bytes-in-Exclusive.ensures c.place_of-in-Exclusive.ensures) (omega arith) q).1
