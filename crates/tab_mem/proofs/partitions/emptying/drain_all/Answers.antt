use Rattle.std.proofs.Common.{◌≡◌, ◌+◌, ◌<◌, [], ◌∷◌, suc, ◌∙◌, subst, arith, append-nil, length, take, slice_set}
use Rattle.std.proofs.lemmas.List.{length-set}
use Rattle.tab_iter.specs.Bags.{flat}
use Rattle.tab_iter.proofs.BagLaws.{apart_left}
use Rattle.tab_mem.proofs.Apart.{drained, drained_at, emptied}
use Rattle.tab_mem.proofs.ByClass.{distinct_at}
use Rattle.tab_mem.proofs.partitions.emptying.drain_all.Goals as goal

pub drain-requires : goal.drain-requires
drain-requires c = apart_left c.args.partitions.now.lowest (flat c.args.partitions.now.higher.items) c.requires.distinct

pub returns-in_err-drain-clause-kept : goal.returns-in_err-drain-clause-kept
returns-in_err-drain-clause-kept c =
    let b = c.args.partitions.now in
    (drained b.lows.items 0 b.lowest c.drain.new.written b.higher.items c.args.records.now c.drain.new.records c.requires.parted.placed c.requires.distinct c.drain.ensures.within c.drain.ensures.distinct c.drain.ensures.kept).kept

pub loop-place-init : goal.loop-place-init
loop-place-init c =
    let b = c.args.partitions.now in
    let first = drained b.lows.items 0 b.lowest c.drain.new.written b.higher.items c.args.records.now c.drain.new.records c.requires.parted.placed c.requires.distinct c.drain.ensures.within c.drain.ensures.distinct c.drain.ensures.kept in
    record {
      inside = omega arith;
      none = append-nil c.drain.new.written ∙ c.in_ok-drain.ensures.empty;
      kept = first.kept;
      distinct = first.distinct;
      parted = record { many = c.requires.parted.many; few = c.requires.parted.few; rising = c.requires.parted.rising; placed = first.placed };
    }

pub drain-requires-in-loop-place : goal.drain-requires-in-loop-place
drain-requires-in-loop-place c =
    let b = c.loop-place.partitions in
    let lt : suc c.loop-place.place < length (b.lowest ∷ b.higher.items) = omega (arith, c.loop-place-test.true, c.len.ensures) in
    distinct_at (b.lowest ∷ b.higher.items) (suc c.loop-place.place) c.index_mut.result.now lt c.index_mut.ensures.value c.loop-place.invariant.distinct

pub returns-in_err-drain-2-clause-kept : goal.returns-in_err-drain-2-clause-kept
returns-in_err-drain-2-clause-kept c =
    let b = c.loop-place.partitions in
    let inv = c.loop-place.invariant in
    let d = c.drain-in-loop-place in
    let lt : suc c.loop-place.place < length (b.lowest ∷ b.higher.items) = omega (arith, c.loop-place-test.true, c.len.ensures) in
    let more : c.loop-place.place + 1 ≡ suc c.loop-place.place = omega arith in
    (drained_at b.lows.items 0 (suc c.loop-place.place) (b.lowest ∷ b.higher.items) c.index_mut.result.now d.new.written c.loop-place.records d.new.records inv.parted.placed inv.distinct
    (subst (λ n. flat (take n (b.lowest ∷ b.higher.items)) ≡ []) more inv.none) lt c.index_mut.ensures.value d.ensures.within d.ensures.distinct d.ensures.kept).kept ∙ inv.kept

pub returns-in_err-drain-2-clause-parted : goal.returns-in_err-drain-2-clause-parted
returns-in_err-drain-2-clause-parted c =
    let b = c.loop-place.partitions in
    let inv = c.loop-place.invariant in
    let d = c.drain-in-loop-place in
    let lt : suc c.loop-place.place < length (b.lowest ∷ b.higher.items) = omega (arith, c.loop-place-test.true, c.len.ensures) in
    let more : c.loop-place.place + 1 ≡ suc c.loop-place.place = omega arith in
    record {
      many = length-set b.higher.items c.loop-place.place d.new.written ∙ inv.parted.many;
      few = inv.parted.few;
      rising = inv.parted.rising;
      placed = (drained_at b.lows.items 0 (suc c.loop-place.place) (b.lowest ∷ b.higher.items) c.index_mut.result.now d.new.written c.loop-place.records d.new.records inv.parted.placed inv.distinct
          (subst (λ n. flat (take n (b.lowest ∷ b.higher.items)) ≡ []) more inv.none) lt c.index_mut.ensures.value d.ensures.within d.ensures.distinct d.ensures.kept).placed;
    }

pub loop-place-preserved : goal.loop-place-preserved
loop-place-preserved c =
    let b = c.loop-place.partitions in
    let inv = c.loop-place.invariant in
    let d = c.drain-in-loop-place in
    let lt : suc c.loop-place.place < length (b.lowest ∷ b.higher.items) = omega (arith, c.loop-place-test.true, c.len.ensures) in
    let more : c.loop-place.place + 1 ≡ suc c.loop-place.place = omega arith in
    let none = subst (λ n. flat (take n (b.lowest ∷ b.higher.items)) ≡ []) more inv.none in
    let next = drained_at b.lows.items 0 (suc c.loop-place.place) (b.lowest ∷ b.higher.items) c.index_mut.result.now d.new.written c.loop-place.records d.new.records inv.parted.placed inv.distinct
    none lt c.index_mut.ensures.value d.ensures.within d.ensures.distinct d.ensures.kept in
    let past : suc c.loop-place.place + 1 ≡ c.loop-place.place + 1 + 1 = omega arith in
    let long = length-set b.higher.items c.loop-place.place d.new.written in
    record {
      inside = omega (arith, lt, long);
      none = subst (λ n. flat (take n (b.lowest ∷ slice_set b.higher.items c.loop-place.place d.new.written)) ≡ []) past (emptied (b.lowest ∷ b.higher.items) (suc c.loop-place.place) d.new.written none lt c.in_ok-drain-2.ensures.empty);
      kept = next.kept ∙ inv.kept;
      distinct = next.distinct;
      parted = record { many = long ∙ inv.parted.many; few = inv.parted.few; rising = inv.parted.rising; placed = next.placed };
    }
