use Rattle.std.proofs.Common.{◌≡◌, ◌∙◌, [], sym, subst, rules}
use Rattle.tab_tablets.specs.Places.{AreKept}
use Rattle.tab_tablets.specs.Restored.{restored}
use Rattle.tab_tablets.proofs.Restored.{restored_kept, restored_line}
use Rattle.tab_tablets.proofs.tablets.Tablets.restored.Goals as goal

pub invariant_of-result : goal.invariant_of-result
invariant_of-result c =
    let records : c.whole-left.result ≡ c.args.records = search rules in
    let ends : c.into_vec.result.items ≡ c.args.ends = search rules in
    let none : c.new-written.result.items ≡ [] = search rules in
    let tablet_list : c.in_ok-tablet_list.tablet_list ≡ restored c.args.number c.args.ends c.args.records =
    restored_line c.args.number c.lower_of.new.next c.into_vec.result.items c.whole-left.result c.in_ok-lower.lower.items c.in_ok-tablet_list.tablet_list c.in_ok-last.last c.lower_of.new.left c.in_ok-tablet_list.ensures c.in_ok-last.ensures c.in_ok-lower.ensures
    ∙ (λ i. restored c.args.number (ends i) (records i)) in
    subst (AreKept c.in_ok-tablet_list.tablet_list) (sym none) (subst (λ ts. AreKept ts []) (sym tablet_list) (restored_kept c.args.number c.args.ends c.args.records c.requires.ends))

pub returns : goal.returns
returns c =
    let records : c.whole-left.result ≡ c.args.records = search rules in
    let ends : c.into_vec.result.items ≡ c.args.ends = search rules in
    restored_line c.args.number c.lower_of.new.next c.into_vec.result.items c.whole-left.result c.in_ok-lower.lower.items c.in_ok-tablet_list.tablet_list c.in_ok-last.last c.lower_of.new.left c.in_ok-tablet_list.ensures c.in_ok-last.ensures c.in_ok-lower.ensures
    ∙ (λ i. restored c.args.number (ends i) (records i))
