use Rattle.std.proofs.Common.{◌∙◌, ap}
use Rattle.tab_journal.specs.Stretches.{Stretch, begun}
use Rattle.tab_journal.proofs.Keeping.{none_kept, begun_is}
use Rattle.tab_journal.proofs.gathered.Gathered.clear.Goals as goal

pub invariant_of-self : goal.invariant_of-self
invariant_of-self c = none_kept _ c.clear.ensures.bytes

pub returns : goal.returns
returns c = begun_is c.self.inside.clock _ c.clear.ensures.bytes ∙ ap (λ (s : Stretch). begun s.clock) c.self.view_is
