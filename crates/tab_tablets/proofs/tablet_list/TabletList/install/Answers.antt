use Rattle.std.proofs.Common.{◌∙◌, length, sym, ap, subst}
use Rattle.tab_tablet.specs.Tablets.{Tablet}
use Rattle.tab_tablets.specs.Places.{ended, installed}
use Rattle.tab_tablets.proofs.At.{same_length}
use Rattle.tab_tablets.proofs.PutIn.{Inside, installed_more, inside_front}
use Rattle.tab_tablets.proofs.tablet_list.TabletList.install.Goals as goal

pub loop-next-preserved : goal.loop-next-preserved
loop-next-preserved c = record {
  same = ap (installed c.pop.new.self.items) c.put_made.ensures ∙ sym (installed_more c.pop.new.self.items c.in-Some.next c.loop-next.self) ∙ ap (λ ms. installed ms c.loop-next.self) (sym c.in-Some.ensures.items) ∙ c.loop-next.invariant.same;
  inside = subst (λ n. Inside n c.pop.new.self.items) (sym (ap length c.put_made.ensures ∙ same_length (λ (t : Tablet). ended t.end c.in-Some.next.tablet) c.loop-next.self c.in-Some.next.place))
      (inside_front (length c.loop-next.self) c.pop.new.self.items c.in-Some.next (subst (Inside (length c.loop-next.self)) c.in-Some.ensures.items c.loop-next.invariant.inside));
}
