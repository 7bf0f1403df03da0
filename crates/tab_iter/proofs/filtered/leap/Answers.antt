-- A step or a seek past the record on top loses nothing that passes.
use Rattle.std.proofs.Common.{ap, refl}
use Rattle.tab_iter.specs.Lists.{tail, column_start}
use Rattle.tab_iter.proofs.ListLaws.{begins_at}
use Rattle.tab_iter.proofs.Skips.{leaps_same, leaps_shorter}
use Rattle.tab_iter.proofs.filtered.leap.Goals as goal

pub returns-clause-rest : goal.returns-clause-rest
returns-clause-rest g c =
    let w = g.S.Source.whole c.args.source.now in
    leaps_same (g.R.Rule.admits c.args.rule.now w) (g.R.Rule.aims_at c.aim.new.self) _ w (g.S.Source.rest c.seek.new.self) c.in-Some.record (ap column_start c.target.ensures) c.in_ok-seek.ensures.rest (g.met.S.Source.has_i64_timestamps c.args.source.now) (g.met.S.Source.whole_rises c.args.source.now) (c.in_ok-aim.ensures.ahead c.if-not-branch.false)
    (g.S.Source.rest c.args.source.now) c.in-Some.ensures (g.met.S.Source.rest_is_suffix c.args.source.now) c.requires.held
    (λ end held. c.in_ok-aim.ensures.idle c.if-not-branch.false w (tail (g.S.Source.rest c.args.source.now)) (g.met.S.Source.whole_rises c.args.source.now) end c.requires.observed held)

pub returns-clause-shorter : goal.returns-clause-shorter
returns-clause-shorter g c =
    let w = g.S.Source.whole c.args.source.now in
    leaps_shorter (g.R.Rule.admits c.args.rule.now w) (g.R.Rule.aims_at c.aim.new.self) _ w (g.S.Source.rest c.seek.new.self) c.in-Some.record (ap column_start c.target.ensures) c.in_ok-seek.ensures.rest (g.met.S.Source.has_i64_timestamps c.args.source.now) (g.met.S.Source.whole_rises c.args.source.now) (c.in_ok-aim.ensures.ahead c.if-not-branch.false)
    (g.S.Source.rest c.args.source.now) c.in-Some.ensures (g.met.S.Source.rest_is_suffix c.args.source.now) c.requires.held

pub returns-clause-observed : goal.returns-clause-observed
returns-clause-observed g c =
    let w = g.S.Source.whole c.args.source.now in
    c.reset.ensures.observed w (g.S.Source.rest c.seek.new.self) (g.met.S.Source.whole_rises c.args.source.now) (begins_at (g.R.Rule.aims_at c.aim.new.self) _ w w (g.S.Source.rest c.seek.new.self) (ap column_start c.target.ensures) refl c.in_ok-seek.ensures.rest (g.met.S.Source.has_i64_timestamps c.args.source.now) (g.met.S.Source.whole_rises c.args.source.now))
