-- One cursor more.
use Rattle.std.proofs.Common.{◌<◌, length, arith}
use Rattle.tab_version.specs.Sources.{Sorted}
use Rattle.tab_version.proofs.Gathering.{put_one}
use Rattle.tab_version.proofs.clips.put_unread.Goals as goal

pub loop-clip-preserved : goal.loop-clip-preserved
loop-clip-preserved c =
    let clips = c.args.clips.now in
    let i = c.loop-clip.clip-index in
    let lt : i < length clips = omega arith in
    put_one _ (λ (t : Sorted). t.records) _ c.loop-clip.cursors.items c.push.new.self.items _ clips i c.clip-item.result lt c.clip-item.is c.in_ok-push.ensures.items c.unread_cursor-cursor.ensures c.loop-clip.invariant
