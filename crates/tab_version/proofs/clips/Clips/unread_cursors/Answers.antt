-- Cursors over the runs, and behind them those over the tables.
use Rattle.tab_version.proofs.Gathering.{gathered}
use Rattle.tab_version.proofs.clips.Clips.unread_cursors.Goals as goal

pub returns : goal.returns
returns c = gathered _ c.in_ok-cursors.cursors.items c.put_runs.new.cursors.items c.put_unread.new.cursors.items c.deref.result.now c.deref-2.result.now c.self.inside.runs.items c.self.inside.tables.items c.args.self.now
    c.in_ok-cursors.ensures.items c.in_ok-put_runs.ensures.whole c.in_ok-put_unread.ensures c.deref.ensures.value c.deref-2.ensures.value c.self.view_is
