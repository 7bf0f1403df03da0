use Rattle.std.proofs.Common.{◌≡◌, ◌∙◌, ap, sym, subst, rules, to_z, of_z, w64}
use Rattle.std.specs.Prelude.{IfOk}
use Rattle.tab_tablet.specs.Tablets.{Tablet}
use Rattle.tab_tablet.proofs.Compacted.{compacted_is, merged_from}
use Rattle.tab_tablet.proofs.tablet.Tablet.compacted.Goals as goal

pub returns : goal.returns
returns c =
    let trip : to_z w64 (of_z w64 c.args.floor) ≡ c.args.floor = search rules in
    let f : Tablet = c.in_ok-frozen.field-0 in
    subst (λ (s : Tablet). IfOk c.merged.result (λ t. t ≡ s))
    ((λ i. merged_from c.args.kind (trip i) c.args.versions f)
    ∙ ap (merged_from c.args.kind c.args.floor c.args.versions) c.in_ok-frozen.ensures
    ∙ sym (compacted_is c.args.kind c.args.floor c.args.versions c.args.self.now))
    c.merged.ensures
