-- One source more, and at the end all of them.
use Rattle.std.proofs.Common.{◌≡◌, ◌++◌, ◌∷◌, [], ◌∙◌, sym, ap, map, rules}
use Rattle.std.proofs.lemmas.Iterator.Adapters.{YieldsList-from_vec}
use Rattle.std.proofs.lemmas.Iterator.Consumers.{YieldsList-end}
use Rattle.std.proofs.lemmas.List.{map-id}
use Rattle.tab_iter.proofs.PrefixLaws.{one_more}
use Rattle.tab_iter.proofs.prefixed.with_prefixes.Goals as goal

pub loop-source-preserved : goal.loop-source-preserved
loop-source-preserved g c =
    let grown : c.push.new.self.items ≡ c.loop-source.kept.items ++ c.new.result ∷ [] = search rules in
    record {
      whole = one_more _ g.S.Source.whole c.loop-source.kept.items c.push.new.self.items c.loop-source.yielded c.new.result c.in-Some.source grown c.new.ensures.whole c.loop-source.invariant.whole;
      rest = one_more _ g.S.Source.rest c.loop-source.kept.items c.push.new.self.items c.loop-source.yielded c.new.result c.in-Some.source grown c.new.ensures.rest c.loop-source.invariant.rest;
    }

pub returns-clause-whole : goal.returns-clause-whole
returns-clause-whole g c =
    let all = YieldsList-end (YieldsList-from_vec c.args.sources.items (search rules) (search rules)) c.loop-source.yielded c.loop-source.source-iterator c.loop-source.yielded_by _ c.next.new.self c.in-None.is c.next.ensures.steps in
    c.loop-source.invariant.whole ∙ ap (map g.S.Source.whole) (sym (map-id c.loop-source.yielded) ∙ all.0)

pub returns-clause-rest : goal.returns-clause-rest
returns-clause-rest g c =
    let all = YieldsList-end (YieldsList-from_vec c.args.sources.items (search rules) (search rules)) c.loop-source.yielded c.loop-source.source-iterator c.loop-source.yielded_by _ c.next.new.self c.in-None.is c.next.ensures.steps in
    c.loop-source.invariant.rest ∙ ap (map g.S.Source.rest) (sym (map-id c.loop-source.yielded) ∙ all.0)
