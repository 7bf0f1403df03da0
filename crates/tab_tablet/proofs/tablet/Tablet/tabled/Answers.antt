use Rattle.std.proofs.Common.{◌≡◌, ◌∙◌, [], ◌++◌, sym, subst, rules}
use Rattle.tab_key.specs.Sorted.{IsDistinct}
use Rattle.tab_iter.specs.Lists.{IsRising}
use Rattle.tab_version.specs.Sources.{records_of}
use Rattle.tab_tablet.proofs.Tabled.{tabled_distinct}
use Rattle.tab_tablet.proofs.tablet.Tablet.tabled.Goals as goal

pub invariant_of-result : goal.invariant_of-result
invariant_of-result c =
    let none : c.new.result ≡ [] = search rules in
    let rising : IsRising c.args.records.now = search rules in
    subst (λ a. IsDistinct (a ++ records_of c.in_ok-sources.sources)) (sym none) (tabled_distinct c.args.records.now c.in_ok-sources.sources (c.in_ok-sources.ensures ∙ c.of_tables-source_lists.ensures ∙ c.in_ok-tables.ensures) rising)
