use Rattle.tests_engine.proofs.Apart.{three_distinct, lent_apart}
use Rattle.tests_engine.proofs.layers.dealt.Goals as goal

pub returns-clause-distinct : goal.returns-clause-distinct
returns-clause-distinct g c = three_distinct _ _ _ _ _ _ _ _ _ _ _
    c.new-sources.ensures.items c.in_ok-push.ensures.items c.in_ok-push-2.ensures.items c.in_ok-push-3.ensures.items
    c.source_of.ensures.whole c.source_of-2.ensures.whole c.source_of-3.ensures.whole
    c.source_of.ensures.rising c.source_of-2.ensures.rising c.source_of-3.ensures.rising
    (lent_apart _ _ _ _ c.deref.ensures.value c.deref-2.ensures.value c.check_apart.ensures)
    (lent_apart _ _ _ _ c.deref-3.ensures.value c.deref-4.ensures.value c.check_apart-2.ensures)
    (lent_apart _ _ _ _ c.deref-5.ensures.value c.deref-6.ensures.value c.check_apart-3.ensures)
