use Rattle.std.proofs.Common.{◌≡◌, [], ◌++◌, ◌∙◌, sym, ap, rules}
use Rattle.std.proofs.lemmas.Iterator.Adapters.{YieldsList-from_vec}
use Rattle.std.proofs.lemmas.Iterator.Consumers.{YieldsList-end}
use Rattle.std.proofs.lemmas.List.{map-id}
use Rattle.tab_tablets.specs.Restored.{restored}
use Rattle.tab_tablets.proofs.Restored.{goes_on_one, goes_on_end}
use Rattle.tab_tablets.proofs.splitting.lower_of.Goals as goal

pub loop-end-init : goal.loop-end-init
loop-end-init c =
    let none : c.in_ok-lower.lower.items ≡ [] = search rules in
    λ es s. ap (λ ts. ts ++ restored c.args.next.now es c.args.left.now) none

pub loop-end-preserved : goal.loop-end-preserved
loop-end-preserved c =
    goes_on_one c.args.next.now c.loop-end.next _ c.loop-end.yielded c.args.left.now c.loop-end.lower.items c.push.new.self.items c.loop-end.left c.take_lower.new.left c.in-Some.end c.in_ok-take_lower.field-0
    (search rules) c.in_ok-push.ensures.items c.in_ok-take_lower.ensures.lower c.in_ok-take_lower.ensures.left c.loop-end.invariant

pub returns : goal.returns
returns c =
    let all = YieldsList-end (YieldsList-from_vec c.args.ends.items (search rules) (search rules)) c.loop-end.yielded c.loop-end.end-iterator c.loop-end.yielded_by _ c.next.new.self c.in-None.is c.next.ensures.steps in
    goes_on_end c.args.next.now c.loop-end.next c.loop-end.yielded c.args.ends.items c.args.left.now c.loop-end.lower.items c.loop-end.left (sym (map-id c.loop-end.yielded) ∙ all.0) c.requires c.loop-end.invariant
