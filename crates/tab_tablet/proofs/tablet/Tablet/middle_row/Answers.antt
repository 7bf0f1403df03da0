use Rattle.std.proofs.Common.{◌∙◌, sym, subst}
use Rattle.tab_key.specs.Sorted.{IsDistinct}
use Rattle.tab_version.specs.Sources.{Sources, records_of}
use Rattle.tab_tablet.proofs.Moved.{distinct_right}
use Rattle.tab_tablet.proofs.tablet.Tablet.middle_row.Goals as goal

pub middle_row-requires : goal.middle_row-requires
middle_row-requires c = subst (λ (s : Sources). IsDistinct (records_of s)) (sym (c.sources.ensures ∙ c.lists_or.ensures)) (distinct_right c.self.inside.active (records_of c.self.inside.sources) c.self.invariant)
