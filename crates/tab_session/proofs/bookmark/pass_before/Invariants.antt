use Rattle.std.proofs.Common.{◌≡◌, length}
use Rattle.tab_session.specs.Bookmarks.{from_record}
use Rattle.tab_session.proofs.bookmark.pass_before.Given as goal

abbrev pub invariant-loop-next : goal.invariant-loop-next
invariant-loop-next g l = record {
  whole : g.S.Source.whole l.source ≡ g.S.Source.whole l.initial.source;
  rest : from_record l.first (g.S.Source.rest l.source) ≡ from_record l.first (g.S.Source.rest l.initial.source);
}

abbrev pub decreases-loop-next : goal.decreases-loop-next
decreases-loop-next g l = length (g.S.Source.rest l.source)
