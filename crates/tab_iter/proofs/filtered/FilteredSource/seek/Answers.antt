-- The rule observes the column from its start, and the layer lands at the key.
use Rattle.std.proofs.Common.{refl}
use Rattle.tab_key.specs.KeyOf.{key_of}
use Rattle.tab_iter.proofs.ListLaws.{begins_at, key_lands}
use Rattle.tab_iter.proofs.filtered.FilteredSource.seek.Goals as goal

pub pass-requires : goal.pass-requires
pass-requires g c = c.reset.ensures.observed _ _ (g.met.S.Source.whole_rises c.seek.new.self) (begins_at (key_of c.args.key) _ _ _ _ refl c.seek.ensures.whole c.in_ok-seek.ensures.rest (g.met.S.Source.has_i64_timestamps c.args.self.now.source) (g.met.S.Source.whole_rises c.args.self.now.source))

pub returns-clause-rest : goal.returns-clause-rest
returns-clause-rest g c = key_lands (key_of c.args.key) _ _ _ _ _ _ _ _ _ _ _ _ refl c.reset.ensures.same c.pass.ensures.same c.settle.ensures.same c.seek.ensures.whole c.pass.ensures.whole c.settle.ensures.whole c.in_ok-settle.ensures.rest c.in_ok-pass.ensures.rest c.in_ok-seek.ensures.rest (g.met.S.Source.has_i64_timestamps c.args.self.now.source) (g.met.S.Source.whole_rises c.args.self.now.source)
