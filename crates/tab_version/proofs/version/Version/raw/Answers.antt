use Rattle.std.proofs.Common.{sym, subst}
use Rattle.tab_mem.specs.Lists.{HasShortParts}
use Rattle.tab_version.specs.InTurn.{AreInTurn, in_order}
use Rattle.tab_version.proofs.InOrder.{one_by_one}
use Rattle.tab_version.proofs.version.Version.raw.Goals as goal

pub new-requires : goal.new-requires
new-requires c = subst (λ l. AreInTurn (in_order l)) (sym c.as_slice.ensures.value) c.self.invariant.in_turn

pub returns-clause-whole : goal.returns-clause-whole
returns-clause-whole c = one_by_one c.self.inside.tablets.items _ _ _ c.self.invariant.in_turn.rising c.in_ok-all.ensures.whole c.as_slice.ensures.value c.self.view_is

pub returns-clause-short : goal.returns-clause-short
returns-clause-short c = subst HasShortParts c.self.view_is c.self.invariant.short
