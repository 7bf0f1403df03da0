use Rattle.std.proofs.Common.{◌≡◌, ◌∙◌, List, [], ◌∷◌, map, ap, sym, subst, append-nil, rules}
use Rattle.tab_key.specs.Sorted.{sorted}
use Rattle.tab_key.proofs.Rising.{rising_sorted}
use Rattle.tab_iter.specs.Bags.{flat}
use Rattle.tab_iter.specs.Lists.{IsRising}
use Rattle.tab_version.specs.Sources.{Sources, records_of}
use Rattle.tab_tablet.proofs.listing.version_of.Goals as goal

pub of-requires : goal.of-requires
of-requires c =
    let one : c.push.new.self.items ≡ c.args.sources ∷ [] = search rules in
    subst (λ (ts : List Sources). IsRising (flat (map (λ (t : Sources). sorted (records_of t)) ts))) (sym one)
    (subst IsRising (sym (append-nil (sorted (records_of c.args.sources)))) (rising_sorted (records_of c.args.sources) c.requires))

pub returns : goal.returns
returns c =
    let one : c.push.new.self.items ≡ c.args.sources ∷ [] = search rules in
    c.of.ensures ∙ ap (λ (ts : List Sources). flat (map records_of ts)) one ∙ append-nil (records_of c.args.sources)
