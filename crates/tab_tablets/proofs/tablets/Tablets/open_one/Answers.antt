use Rattle.std.proofs.Common.{◌≡◌, ◌≢◌, ◌∙◌, ℕ, ◌≤◌, List, [], map, refl, sym, ap, subst, rules}
use Rattle.tab_key.specs.Sorted.{sorted}
use Rattle.tab_iter.specs.Bags.{flat}
use Rattle.tab_tablet.specs.Opened.{ShowsRowsOf}
use Rattle.tab_tablet.specs.Tablets.{Tablet, frozen}
use Rattle.tab_tablet.proofs.Compacted.{frozen_in}
use Rattle.tab_tablets.specs.ByRow.{LieApart, records_of_all}
use Rattle.tab_tablets.specs.Places.{AreKept, tablet_at}
use Rattle.tab_tablets.proofs.Idle.{busy, freeze_there, frozen_only}
use Rattle.tab_tablets.proofs.Kept.{kept_all}
use Rattle.tab_tablets.proofs.Ranges.{clips_rise, clips_show}
use Rattle.tab_tablets.proofs.tablets.Tablets.open_one.Goals as goal

pub of-requires : goal.of-requires
of-requires c =
    let order : c.first_met-from.result ≤ c.max-end.result = search rules in
    let reach : c.end_met.result ≤ c.max-end.result = search rules in
    clips_rise c.args.bounds.now c.self.inside.tablet_list c.self.invariant.rows (subst LieApart (sym c.self.view_is) c.requires.apart) c.first_met-from.result c.end_met.result c.max-end.result order reach c.first_met-from.ensures.low c.end_met.ensures.high c.in_ok-clips.clips.items c.in_ok-clips.ensures

pub prepare-requires : goal.prepare-requires
prepare-requires c = busy (tablet_at c.self.inside.tablet_list c.args.place) c.tablet.result.now c.tablet.ensures (subst (λ ts. (tablet_at ts c.args.place).active ≢ []) (sym c.self.view_is) c.requires.waits)

pub clips_with-requires-clause-freeze : goal.clips_with-requires-clause-freeze
clips_with-requires-clause-freeze c = freeze_there (tablet_at c.self.inside.tablet_list c.args.place) c.tablet.result.now c.in_ok-prepared.prepared c.tablet.ensures c.in_ok-prepared.ensures

pub invariant_of-self : goal.invariant_of-self
invariant_of-self c = subst (λ ts. AreKept ts c.self.inside.written.items) (sym c.in_err-freeze.ensures.err) c.self.invariant

pub invariant_of-self-2 : goal.invariant_of-self-2
invariant_of-self-2 c =
    let tablet_list : List Tablet = c.self.inside.tablet_list in
    let idle : (k : ℕ) → k ≢ c.args.place → (tablet_at tablet_list k).active ≡ [] = λ k ne. ap (λ ts. (tablet_at ts k).active) c.self.view_is ∙ c.requires.idle k ne in
    subst (λ ts. AreKept ts c.clear.new.self.items) (sym (c.in_ok-freeze.ensures.ok ∙ frozen_only tablet_list c.args.place idle)) (subst (AreKept (map frozen tablet_list)) (sym c.clear.ensures.items)
    (kept_all tablet_list c.self.inside.written.items c.self.invariant frozen (λ t. refl) frozen_in (λ t. refl)))

pub returns-clause-ok : goal.returns-clause-ok
returns-clause-ok c =
    let idle : (k : ℕ) → k ≢ c.args.place → (tablet_at c.self.inside.tablet_list k).active ≡ [] = λ k ne. ap (λ ts. (tablet_at ts k).active) c.self.view_is ∙ c.requires.idle k ne in
    c.in_ok-freeze.ensures.ok ∙ frozen_only c.self.inside.tablet_list c.args.place idle ∙ ap (map frozen) c.self.view_is

pub returns-clause-answers : goal.returns-clause-answers
returns-clause-answers c =
    let order : c.first_met-from.result ≤ c.max-end.result = search rules in
    let reach : c.end_met.result ≤ c.max-end.result = search rules in
    subst (λ ts. ShowsRowsOf c.args.bounds.now (sorted (records_of_all ts)) c.of.result) c.self.view_is
    (clips_show c.args.bounds.now c.self.inside.tablet_list c.self.invariant.rows (subst LieApart (sym c.self.view_is) c.requires.apart) c.first_met-from.result c.end_met.result c.max-end.result order reach c.first_met-from.ensures.low c.end_met.ensures.high c.in_ok-clips.clips.items c.in_ok-clips.ensures c.of.result c.of.ensures)
