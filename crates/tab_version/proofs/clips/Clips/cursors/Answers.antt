-- Cursors over the runs, and behind them those over the tables.
use Rattle.tab_version.proofs.Gathering.{gathered, all_short}
use Rattle.tab_version.proofs.clips.Clips.cursors.Goals as goal

pub returns-clause-whole : goal.returns-clause-whole
returns-clause-whole c = gathered _ c.in_ok-cursors.cursors.items c.put_runs.new.cursors.items c.put_tables.new.cursors.items c.deref.result.now c.deref-2.result.now c.self.inside.runs.items c.self.inside.tables.items c.args.self.now
    c.in_ok-cursors.ensures.items c.in_ok-put_runs.ensures.whole c.in_ok-put_tables.ensures.whole c.deref.ensures.value c.deref-2.ensures.value c.self.view_is

pub returns-clause-short : goal.returns-clause-short
returns-clause-short c = all_short c.deref.result.now c.deref-2.result.now c.self.inside.runs.items c.self.inside.tables.items c.args.self.now
    c.in_ok-put_runs.ensures.short c.in_ok-put_tables.ensures.short c.deref.ensures.value c.deref-2.ensures.value c.self.view_is
