use Rattle.std.proofs.Common.{◌∙◌, ap, subst}
use Rattle.tab_key.specs.Ranges.{is_above}
use Rattle.tab_tablets.specs.Places.{IsPlaceOf}
use Rattle.tab_tablets.proofs.Ranges.{none_above}
use Rattle.tab_tablets.proofs.bounds.first_met.Goals as goal

pub returns-in-Inclusive-clause-low : goal.returns-in-Inclusive-clause-low
returns-in-Inclusive-clause-low c = λ k row lt q. ap (λ b. is_above b row) c.in-Inclusive.is ∙ (none_above c.args.tablet_list.now c.in-Inclusive.row row c.place_of.result k (subst (λ r. IsPlaceOf r c.args.tablet_list.now c.place_of.result) c.as_bytes.ensures c.place_of.ensures) lt q).0

pub returns-in-Exclusive-clause-low : goal.returns-in-Exclusive-clause-low
returns-in-Exclusive-clause-low c = λ k row lt q. ap (λ b. is_above b row) c.in-Exclusive.is ∙ (none_above c.args.tablet_list.now c.in-Exclusive.row row c.place_of-in-Exclusive.result k (subst (λ r. IsPlaceOf r c.args.tablet_list.now c.place_of-in-Exclusive.result) c.as_bytes-in-Exclusive.ensures c.place_of-in-Exclusive.ensures) lt q).1
