use Rattle.std.proofs.Common.{◌≡◌, [], ◌∷◌, ◌++◌, ◌∙◌, sym, ap, refl, rules, Vec, Global}
use Rattle.std.specs.Prelude.{Ok}
use Rattle.std.proofs.lemmas.Iterator.Adapters.{YieldsList-from_vec}
use Rattle.std.proofs.lemmas.Iterator.Consumers.{YieldsList-end}
use Rattle.std.proofs.lemmas.List.{map-id, map-append, flat_map_more}
use Rattle.tab_compact.specs.declared.pending.MadeTable.{MadeTable}
use Rattle.tab_compact.proofs.many.joined.Goals as goal

pub loop-chunk-init : goal.loop-chunk-init
loop-chunk-init c = ([], refl, search rules)

pub loop-chunk-preserved : goal.loop-chunk-preserved
loop-chunk-preserved c =
    let before = c.loop-chunk.invariant in
    let part = c.in_ok-made.made in
    let is : c.in-Some.chunk ≡ Ok part = search rules in
    let grown : c.append.new.self.items ≡ c.loop-chunk.tables.items ++ part.items = search rules in (
      before.0 ++ part ∷ [],
      (λ i. before.1 i ++ is i ∷ []) ∙ sym (map-append Ok before.0 (part ∷ [])),
      grown ∙ ap (λ l. l ++ part.items) before.2 ∙ flat_map_more (λ (p : Vec MadeTable Global). p.items) [] before.0 part,
    )

pub returns : goal.returns
returns c =
    let all = YieldsList-end (YieldsList-from_vec c.args.chunks.items (search rules) (search rules)) c.loop-chunk.yielded c.loop-chunk.chunk-iterator c.loop-chunk.yielded_by _ c.next.new.self c.in-None.is c.next.ensures.steps in
    let before = c.loop-chunk.invariant in
    (before.0, sym (sym (map-id c.loop-chunk.yielded) ∙ all.0) ∙ before.1, before.2)
