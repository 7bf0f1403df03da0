-- Behind the lists that don't reach the key stands the one that does.
use Rattle.std.proofs.Common.{◌∙◌, sym}
use Rattle.tab_key.specs.KeyOf.{key_of}
use Rattle.tab_version.proofs.InTurnLaws.{none_left, sought_left, sought_ended}
use Rattle.tab_version.proofs.in_turn.go_to.Goals as goal

pub returns-then-count-eq0-clause-left : goal.returns-then-count-eq0-clause-left
returns-then-count-eq0-clause-left g c = none_left g.S.Source.rest g.S.Source.whole g.met.S.Source.rest_is_suffix c.args.current.now c.args.next.now (g.L.Lists.listed c.args.lists.now) (sym c.count.ensures ∙ c.if-count-eq0.true) c.requires.over (key_of c.args.key)

pub returns-clause-left : goal.returns-clause-left
returns-clause-left g c = sought_left g.S.Source.rest g.S.Source.whole c.read_from.new.current c.seek_in.new.current c.read_from.new.next c.find-at.result (g.L.Lists.listed c.args.lists.now) (key_of c.args.key) c.find-at.ensures.inside c.in_ok-read_from.ensures.there c.find-at.ensures.passed c.find-at.ensures.found c.read_from.ensures.over c.in_ok-seek_in.ensures.rest

pub returns-clause-ended : goal.returns-clause-ended
returns-clause-ended g c = sought_ended g.S.Source.rest g.S.Source.whole c.read_from.new.current c.seek_in.new.current c.read_from.new.next c.find-at.result (g.L.Lists.listed c.args.lists.now) (key_of c.args.key) c.in_ok-read_from.ensures.there c.find-at.ensures.found c.read_from.ensures.over c.in_ok-seek_in.ensures.rest
