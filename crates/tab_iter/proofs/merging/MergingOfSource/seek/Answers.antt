-- What each source has left from the key on is, merged, what the merged list has.
use Rattle.std.proofs.Common.{subst, ap, ◌∙◌, map, length, arith}
use Rattle.tab_key.specs.KeyOf.{key_of}
use Rattle.tab_key.specs.Sorted.{sorted}
use Rattle.tab_iter.specs.Lists.{from_key}
use Rattle.tab_iter.specs.Bags.{flat, IsDescending, Covers}
use Rattle.tab_iter.proofs.BagLaws.{sought_key, each_rises}
use Rattle.tab_iter.proofs.MergingLaws.{synced_key, distinct_same, kept}
use Rattle.tab_iter.proofs.merging.MergingOfSource.seek.Goals as goal

pub invariant_of-self-2 : goal.invariant_of-self-2
invariant_of-self-2 g c =
    let v = c.deref_mut.ensures.value in
    let e = kept c.seek_all.new.sources c.args.self.now.sources.items c.args.self.now.sources.len (c.seek_all.auto.sources ∙ ap length v) (omega arith) in
    let w = ap (map g.S.Source.whole) e ∙ c.seek_all.ensures.whole ∙ ap (map g.S.Source.whole) v in
    record {
      distinct = distinct_same (map g.S.Source.whole c.args.self.now.sources.items) _ w c.args.self.now.distinct;
      synced = λ _. synced_key (key_of c.args.key) _ (map g.S.Source.whole c.args.self.now.sources.items) _ (ap (map g.S.Source.rest) e ∙ c.in_ok-seek_all.ensures.rest ∙ ap (λ l. map (from_key (key_of c.args.key)) (map g.S.Source.whole l)) v) w (each_rises g.S.Source.whole g.met.S.Source.whole_rises c.args.self.now.sources.items) c.args.self.now.distinct;
      descending = λ _. subst (λ l. IsDescending (map g.S.Source.rest l) c.put_all.new.order.items) c.deref.ensures.value c.in_ok-put_all.ensures.descending;
      covers = λ _. subst (λ l. Covers (map g.S.Source.rest l) c.put_all.new.order.items) c.deref.ensures.value c.in_ok-put_all.ensures.covers;
    }

pub returns-clause-rest : goal.returns-clause-rest
returns-clause-rest g c =
    let v = c.deref_mut.ensures.value in
    let e = kept c.seek_all.new.sources c.args.self.now.sources.items c.args.self.now.sources.len (c.seek_all.auto.sources ∙ ap length v) (omega arith) in
    ap (λ l. sorted (flat (map g.S.Source.rest l))) e
    ∙ ap (λ l. sorted (flat l)) c.in_ok-seek_all.ensures.rest
    ∙ ap (λ l. sorted (flat (map (from_key (key_of c.args.key)) (map g.S.Source.whole l)))) v
    ∙ sought_key (key_of c.args.key) (map g.S.Source.whole c.args.self.now.sources.items) (each_rises g.S.Source.whole g.met.S.Source.whole_rises c.args.self.now.sources.items) c.args.self.now.distinct
