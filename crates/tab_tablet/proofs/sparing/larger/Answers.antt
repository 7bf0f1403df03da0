use Rattle.std.proofs.Common.{◌≡◌, ◌∙◌, ap, rules, true, false, ◌==◌, length, not}
use Rattle.std.specs.Prelude.{filter, nat_le}
use Rattle.tab_version.specs.Sources.{Sorted}
use Rattle.tab_tablet.proofs.Larger.{all_stay, larger_stay}
use Rattle.tab_tablet.proofs.sparing.larger.Goals as goal

pub returns-then-is_empty : goal.returns-then-is_empty
returns-then-is_empty c =
    let none : (length c.args.inputs.now == 0) ≡ true = search rules in
    all_stay c.args.tables.items c.args.inputs.now c.requires none

pub returns : goal.returns
returns c =
    let some : (length c.args.inputs.now == 0) ≡ false = search rules in
    c.keep_above.ensures ∙ ap (λ n. filter (λ (t : Sorted). not (nat_le t.size n)) c.args.tables.items) c.largest.ensures ∙ larger_stay c.args.tables.items c.args.inputs.now c.requires some
