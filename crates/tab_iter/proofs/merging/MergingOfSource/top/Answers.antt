-- The first record of the last place is the first of all.
use Rattle.std.proofs.Common.{ap, sym, subst, ◌∙◌, map}
use Rattle.std.specs.Prelude.{is_some}
use Rattle.tab_iter.specs.Lists.{first_of}
use Rattle.tab_iter.specs.Bags.{flat, Covers}
use Rattle.tab_key.specs.Sorted.{sorted}
use Rattle.tab_iter.specs.SourceLaws.{unless_positioned}
use Rattle.tab_iter.proofs.Orders.{first_step, none_left, none_at_all}
use Rattle.tab_iter.proofs.merging.MergingOfSource.top.Goals as goal

pub returns-in-None : goal.returns-in-None
returns-in-None g c =
    let out = none_at_all c.deref.result.now (ap is_some (sym c.in-None.ensures.value)) in
    sym (ap first_of (unless_positioned c.args.self.now.unpositioned (sorted (flat (map g.S.Source.rest c.args.self.now.sources.items))) c.if-self.false
    ∙ none_left g.S.Source.rest c.args.self.now.sources.items c.deref.result.now out (subst (Covers (map g.S.Source.rest c.args.self.now.sources.items)) (sym c.deref.ensures.value) (c.args.self.now.covers c.if-self.false))))

pub returns-in-Some : goal.returns-in-Some
returns-in-Some g c =
    c.top_at.ensures
    ∙ first_step g.S.Source.rest g.S.Source.whole g.met.S.Source.rest_is_suffix g.met.S.Source.whole_rises c.args.self.now.sources.items c.deref-in-Some.result.now c.args.self.now.order.items c.deref.result.now c.in-Some.place.now c.deref-in-Some.ensures.value c.deref.ensures.value c.in-Some.ensures.value c.args.self.now.distinct (c.args.self.now.descending c.if-self.false) (c.args.self.now.covers c.if-self.false)
    ∙ ap first_of (sym (unless_positioned c.args.self.now.unpositioned (sorted (flat (map g.S.Source.rest c.args.self.now.sources.items))) c.if-self.false))
