-- One cursor more.
use Rattle.std.proofs.Common.{◌<◌, ◌∙◌, length, map, subst, arith}
use Rattle.std.proofs.lemmas.List.{take_all}
use Rattle.tab_iter.specs.Bags.{flat}
use Rattle.tab_mem.specs.Lists.{HasShortParts}
use Rattle.tab_version.specs.Sources.{Sorted}
use Rattle.tab_version.proofs.Gathering.{put_one, short_next}
use Rattle.tab_version.proofs.clips.put_tables.Goals as goal

pub loop-clip-preserved : goal.loop-clip-preserved
loop-clip-preserved c =
    let clips = c.args.clips.now in
    let i = c.loop-clip.clip-index in
    let lt : i < length clips = omega arith in
    record {
      whole = put_one _ (λ (t : Sorted). t.records) _ c.loop-clip.cursors.items c.push.new.self.items _ clips i c.clip-item.result lt c.clip-item.is c.in_ok-push.ensures.items c.in_ok-cursor.ensures.whole c.loop-clip.invariant.whole;
      rest = put_one _ (λ (t : Sorted). t.records) _ c.loop-clip.cursors.items c.push.new.self.items _ clips i c.clip-item.result lt c.clip-item.is c.in_ok-push.ensures.items (c.in_ok-cursor.ensures.at_start ∙ c.in_ok-cursor.ensures.whole) c.loop-clip.invariant.rest;
      short = short_next (λ (t : Sorted). t.records) clips i c.clip-item.result lt c.clip-item.is c.loop-clip.invariant.short c.in_ok-cursor.ensures.short;
    }

pub returns-clause-short : goal.returns-clause-short
returns-clause-short c = subst (λ l. HasShortParts (flat (map (λ (t : Sorted). t.records) l))) (take_all c.loop-clip.clip-index c.args.clips.now c.loop-clip-test.false) c.loop-clip.invariant.short
