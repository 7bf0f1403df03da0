use Rattle.std.proofs.Common.{rules}
use Rattle.tab_session.proofs.Marks.{at_first}
use Rattle.tab_session.proofs.bookmark.Bookmark.of.Goals as goal

pub returns-in_ok-record-in-Some : goal.returns-in_ok-record-in-Some
returns-in_ok-record-in-Some g c = at_first c.in_ok-record-in-Some.record c.in-Some.next (g.S.Source.rest c.args.source.now) (g.S.Source.whole c.args.source.now) (search rules) c.in-Some.ensures (g.met.S.Source.whole_rises c.args.source.now) (g.met.S.Source.rest_is_suffix c.args.source.now)
