-- An advance of the last place drops the first record of all.
use Rattle.std.proofs.Common.{◌≡◌, ap, subst, refl, sym, ◌∙◌, map, length, arith, rules}
use Rattle.tab_iter.specs.Lists.{tail}
use Rattle.tab_iter.specs.Bags.{flat, IsDescending, Covers}
use Rattle.tab_iter.proofs.MergingLaws.{distinct_same, kept, advance_step, synced_tail}
use Rattle.tab_key.specs.Sorted.{sorted}
use Rattle.tab_iter.specs.SourceLaws.{unless_positioned}
use Rattle.tab_iter.proofs.Orders.{first_last, inside_last, descending_step, covers_step, outside_front, none_left, none_of_none}
use Rattle.tab_iter.proofs.merging.MergingOfSource.advance.Goals as goal

pub returns-in-None-clause-rest : goal.returns-in-None-clause-rest
returns-in-None-clause-rest g c =
    let none : length c.args.self.now.order.items ≡ 0 = search rules in
    let e = unless_positioned c.args.self.now.unpositioned (sorted (flat (map g.S.Source.rest c.args.self.now.sources.items))) c.if-self.false
    ∙ none_left g.S.Source.rest c.args.self.now.sources.items c.args.self.now.order.items (none_of_none c.args.self.now.order.items none) (c.args.self.now.covers c.if-self.false) in
    e ∙ sym (ap tail e)

pub advance_at-requires : goal.advance_at-requires
advance_at-requires g c = inside_last g.S.Source.rest c.args.self.now.sources.items c.deref_mut.result.now c.args.self.now.order.items c.pop.new.self.items c.in-Some.place c.deref_mut.ensures.value c.in-Some.ensures.items (c.args.self.now.descending c.if-self.false) (c.args.self.now.covers c.if-self.false)

pub put-requires-clause-descending : goal.put-requires-clause-descending
put-requires-clause-descending g c =
    let v = c.deref_mut.ensures.value in
    let e = kept c.advance_at.new.sources c.args.self.now.sources.items c.args.self.now.sources.len (c.advance_at.auto.sources ∙ ap length v) (omega arith) in
    descending_step g.S.Source.rest c.args.self.now.sources.items c.deref_mut.result.now c.advance_at.new.sources c.deref.result.now c.args.self.now.order.items c.pop.new.self.items c.in-Some.place v (c.deref.ensures.value ∙ e) c.in_ok-advance_at-in-Some.ensures.rest c.in-Some.ensures.items (c.args.self.now.descending c.if-self.false)

pub put-requires-clause-outside : goal.put-requires-clause-outside
put-requires-clause-outside g c = outside_front (map g.S.Source.rest c.args.self.now.sources.items) c.pop.new.self.items c.in-Some.place (subst (IsDescending (map g.S.Source.rest c.args.self.now.sources.items)) c.in-Some.ensures.items (c.args.self.now.descending c.if-self.false))

pub invariant_of-self-in-Some : goal.invariant_of-self-in-Some
invariant_of-self-in-Some g c =
    let v = c.deref_mut.ensures.value in
    let e = kept c.advance_at.new.sources c.args.self.now.sources.items c.args.self.now.sources.len (c.advance_at.auto.sources ∙ ap length v) (omega arith) in
    let w = ap (map g.S.Source.whole) e ∙ c.advance_at.ensures.whole ∙ ap (map g.S.Source.whole) v in
    record {
      distinct = distinct_same (map g.S.Source.whole c.args.self.now.sources.items) _ w c.args.self.now.distinct;
      synced = λ _. synced_tail c.args.self.now.unpositioned (flat (map g.S.Source.rest c.args.self.now.sources.items)) _ (map g.S.Source.whole c.args.self.now.sources.items) _ c.args.self.now.synced c.if-self.false
          (advance_step g.S.Source.rest g.S.Source.whole g.met.S.Source.rest_is_suffix g.met.S.Source.whole_rises c.args.self.now.sources.items _ c.advance_at.new.sources c.deref_mut.result.now c.args.self.now.sources.items c.in-Some.place e v refl c.in_ok-advance_at-in-Some.ensures.rest c.args.self.now.distinct
          (first_last g.S.Source.rest c.args.self.now.sources.items c.args.self.now.order.items c.pop.new.self.items c.in-Some.place c.in-Some.ensures.items (c.args.self.now.descending c.if-self.false) (c.args.self.now.covers c.if-self.false)))
          w;
      descending = λ _. subst (λ l. IsDescending (map g.S.Source.rest l) c.put.new.order.items) c.deref.ensures.value c.in_ok-put-in-Some.ensures.descending;
      covers = λ _. subst (λ l. Covers (map g.S.Source.rest l) c.put.new.order.items) c.deref.ensures.value
          (covers_step g.S.Source.rest c.args.self.now.sources.items c.deref_mut.result.now c.advance_at.new.sources c.deref.result.now c.args.self.now.order.items c.pop.new.self.items c.put.new.order.items c.in-Some.place v (c.deref.ensures.value ∙ e) c.in_ok-advance_at-in-Some.ensures.rest c.in-Some.ensures.items (c.args.self.now.covers c.if-self.false) c.in_ok-put-in-Some.ensures.kept c.in_ok-put-in-Some.ensures.inside);
    }

pub returns-in_ok-put-in-Some-clause-rest : goal.returns-in_ok-put-in-Some-clause-rest
returns-in_ok-put-in-Some-clause-rest g c =
    let v = c.deref_mut.ensures.value in
    let e = kept c.advance_at.new.sources c.args.self.now.sources.items c.args.self.now.sources.len (c.advance_at.auto.sources ∙ ap length v) (omega arith) in
    advance_step g.S.Source.rest g.S.Source.whole g.met.S.Source.rest_is_suffix g.met.S.Source.whole_rises c.args.self.now.sources.items _ c.advance_at.new.sources c.deref_mut.result.now c.args.self.now.sources.items c.in-Some.place e v refl c.in_ok-advance_at-in-Some.ensures.rest c.args.self.now.distinct
    (first_last g.S.Source.rest c.args.self.now.sources.items c.args.self.now.order.items c.pop.new.self.items c.in-Some.place c.in-Some.ensures.items (c.args.self.now.descending c.if-self.false) (c.args.self.now.covers c.if-self.false))
    ∙ sym (ap tail (unless_positioned c.args.self.now.unpositioned (sorted (flat (map g.S.Source.rest c.args.self.now.sources.items))) c.if-self.false))
