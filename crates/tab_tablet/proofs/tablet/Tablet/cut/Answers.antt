use Rattle.std.proofs.Common.{◌≡◌, ◌∙◌, [], ◌++◌, sym, ap, subst, rules}
use Rattle.tab_key.specs.Ranges.{is_in_range}
use Rattle.tab_key.specs.Sorted.{IsDistinct}
use Rattle.tab_version.specs.Sources.{clipped, records_of}
use Rattle.tab_tablet.proofs.Cut.{clipped_distinct}
use Rattle.tab_tablet.proofs.tablet.Tablet.cut.Goals as goal

pub invariant_of-result : goal.invariant_of-result
invariant_of-result c =
    let none : c.new.result ≡ [] = search rules in
    subst (λ a. IsDistinct (a ++ records_of c.in_ok-sources.sources)) (sym none)
    (subst (λ s. IsDistinct (records_of s)) (sym (c.in_ok-sources.ensures ∙ c.in_ok-source_lists.ensures ∙ ap (clipped (is_in_range c.args.bounds.now)) c.lists_or.ensures)) (clipped_distinct (is_in_range c.args.bounds.now) c.self.inside.active c.self.inside.sources c.self.invariant))
