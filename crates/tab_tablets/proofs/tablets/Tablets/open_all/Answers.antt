use Rattle.std.proofs.Common.{◌≡◌, ◌∙◌, ℕ, ◌≤◌, ◌<◌, List, map, length, refl, sym, ap, subst, rules}
use Rattle.tab_key.specs.Sorted.{sorted}
use Rattle.tab_cells.proofs.Lists.{by_bool}
use Rattle.tab_tablet.specs.Opened.{ShowsRowsOf}
use Rattle.tab_tablet.specs.Tablets.{Tablet, frozen}
use Rattle.tab_tablet.proofs.Compacted.{frozen_in}
use Rattle.tab_tablets.specs.ByRow.{LieApart, records_of_all}
use Rattle.tab_tablets.specs.Places.{AreKept, IsSettled, is_among}
use Rattle.tab_tablets.proofs.Idle.{waits_settled}
use Rattle.tab_tablets.proofs.PutIn.{installed_all}
use Rattle.tab_tablets.proofs.Kept.{kept_all}
use Rattle.tab_tablets.proofs.Ranges.{clips_rise, clips_show}
use Rattle.tab_tablets.proofs.tablets.Tablets.open_all.Goals as goal

pub of-requires : goal.of-requires
of-requires c =
    let order : c.first_met-from.result ≤ c.max-end.result = search rules in
    let reach : c.end_met.result ≤ c.max-end.result = search rules in
    clips_rise c.args.bounds.now c.self.inside.tablet_list c.self.invariant.rows (subst LieApart (sym c.self.view_is) c.requires) c.first_met-from.result c.end_met.result c.max-end.result order reach c.first_met-from.ensures.low c.end_met.ensures.high c.in_ok-clips.clips.items c.in_ok-clips.ensures.clips

pub invariant_of-self : goal.invariant_of-self
invariant_of-self c =
    let tablet_list : List Tablet = c.self.inside.tablet_list in
    let made = c.freeze_others.new.made.items in
    let settled : (k : ℕ) → k < length tablet_list → IsSettled frozen tablet_list made k = λ k lt. by_bool (is_among c.deref.result.now k) (λ t. c.in_ok-freeze_others.ensures.settled k t) (λ f. waits_settled tablet_list made k (c.self.invariant.waiting k (ap (λ ws. is_among ws k) (sym c.deref.ensures.value) ∙ f))) in
    let all : c.install.new.self ≡ map frozen tablet_list = c.install.ensures ∙ installed_all frozen (λ t. refl) tablet_list made (c.in_ok-freeze_others.ensures.more.made c.in_ok-clips.ensures.made) settled in
    subst (λ ts. AreKept ts c.clear.new.self.items) (sym all) (subst (AreKept (map frozen tablet_list)) (sym c.clear.ensures.items)
    (kept_all tablet_list c.self.inside.written.items c.self.invariant frozen (λ t. refl) frozen_in (λ t. refl)))

pub returns-clause-ok : goal.returns-clause-ok
returns-clause-ok c =
    let tablet_list : List Tablet = c.self.inside.tablet_list in
    let made = c.freeze_others.new.made.items in
    let settled : (k : ℕ) → k < length tablet_list → IsSettled frozen tablet_list made k = λ k lt. by_bool (is_among c.deref.result.now k) (λ t. c.in_ok-freeze_others.ensures.settled k t) (λ f. waits_settled tablet_list made k (c.self.invariant.waiting k (ap (λ ws. is_among ws k) (sym c.deref.ensures.value) ∙ f))) in
    c.install.ensures ∙ installed_all frozen (λ t. refl) tablet_list made (c.in_ok-freeze_others.ensures.more.made c.in_ok-clips.ensures.made) settled ∙ ap (map frozen) c.self.view_is

pub returns-clause-answers : goal.returns-clause-answers
returns-clause-answers c =
    let order : c.first_met-from.result ≤ c.max-end.result = search rules in
    let reach : c.end_met.result ≤ c.max-end.result = search rules in
    subst (λ ts. ShowsRowsOf c.args.bounds.now (sorted (records_of_all ts)) c.of.result) c.self.view_is
    (clips_show c.args.bounds.now c.self.inside.tablet_list c.self.invariant.rows (subst LieApart (sym c.self.view_is) c.requires) c.first_met-from.result c.end_met.result c.max-end.result order reach c.first_met-from.ensures.low c.end_met.ensures.high c.in_ok-clips.clips.items c.in_ok-clips.ensures.clips c.of.result c.of.ensures)
