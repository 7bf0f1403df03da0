-- What is read stands at places of its own.
use Rattle.std.proofs.Common.{◌∙◌, sym, subst}
use Rattle.tab_key.specs.Sorted.{IsDistinct}
use Rattle.tab_version.specs.Sources.{Sources, records_of}
use Rattle.tab_tablet.proofs.Moved.{distinct_right}
use Rattle.tab_tablet.proofs.tablet.Tablet.begin_frozen.Goals as goal

pub capture-requires : goal.capture-requires
capture-requires c = subst (λ (s : Sources). IsDistinct (records_of s)) (sym (c.sources-sources.ensures ∙ c.lists_or.ensures)) (distinct_right c.self.inside.active (records_of c.self.inside.sources) c.self.invariant)
