use Rattle.std.proofs.Common.{◌≡◌, ◌∙◌, ℕ, ◌<◌, ◌+◌, List, Option, true, refl, sym, ap, subst, arith}
use Rattle.tab_tablet.specs.Tablets.{compacted}
use Rattle.tab_tablets.specs.Places.{ended, tablet_at, AreMade, is_made}
use Rattle.tab_tablets.specs.declared.bounded_tablet.MadeTablet.{MadeTablet}
use Rattle.tab_tablets.proofs.PutIn.{made_more, made_next}
use Rattle.tab_tablets.proofs.Merged.{compacted_ended}
use Rattle.tab_tablets.proofs.tablets.compacted_all.Goals as goal

pub loop-place-preserved : goal.loop-place-preserved
loop-place-preserved c =
    let m : MadeTablet = record { place = c.loop-place.place; tablet = c.in_ok-tablet.tablet } in
    let end : Option (List ℕ) = (tablet_at c.args.tablet_list.now c.loop-place.place).end in
    let is : ended end c.in_ok-tablet.tablet ≡ compacted c.args.kind _ c.args.versions (tablet_at c.args.tablet_list.now c.loop-place.place) =
    ap (ended end) c.in_ok-tablet.ensures ∙ compacted_ended c.args.kind _ c.args.versions end c.tablet.result.now ∙ ap (compacted c.args.kind _ c.args.versions) c.tablet.ensures in
    record {
      made = subst (AreMade _ c.args.tablet_list.now) (sym c.in_ok-push.ensures.items) (made_more _ c.args.tablet_list.now c.loop-place.made.items m c.loop-place.invariant.made (record { inside = omega arith; is = is }));
      all = subst (λ ms. (k : ℕ) → k < c.loop-place.place + 1 → is_made ms k ≡ true) (sym c.in_ok-push.ensures.items) (made_next c.loop-place.made.items m c.loop-place.place refl c.loop-place.invariant.all);
    }
