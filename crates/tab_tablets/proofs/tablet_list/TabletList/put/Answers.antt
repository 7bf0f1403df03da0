use Rattle.std.proofs.Common.{◌≡◌, ◌∙◌, ◌<◌, ◌≤◌, List, [], ◌∷◌, ◌++◌, None, length, set, sym, ap, subst, rules}
use Rattle.tab_tablet.specs.Tablets.{Tablet}
use Rattle.tab_tablets.specs.Places.{ended, put_at}
use Rattle.tab_tablets.proofs.At.{at_lower, at_last}
use Rattle.tab_tablets.proofs.EndPrefixes.{prefixes_put}
use Rattle.tab_tablets.proofs.tablet_list.TabletList.put.Goals as goal

pub returns-then-place-len : goal.returns-then-place-len
returns-then-place-len c =
    let last : Tablet = ended None c.self.inside.last in
    let lower : List Tablet = c.self.inside.lower.items in
    let lt : c.args.place < length lower = search rules in
    ap (λ (t : Tablet). set lower c.args.place t ++ last ∷ []) c.put.ensures
    ∙ at_lower (λ (t : Tablet). ended t.end c.args.tablet) lower last c.args.place c.index_mut.result.now lt c.index_mut.ensures.value
    ∙ ap (put_at c.args.place c.args.tablet) c.self.view_is

pub returns-else-place-len : goal.returns-else-place-len
returns-else-place-len c =
    let last : Tablet = ended None c.self.inside.last in
    let lower : List Tablet = c.self.inside.lower.items in
    let ge : length lower ≤ c.args.place = search rules in
    let lt : c.args.place < length (lower ++ last ∷ []) = subst (λ (ts : List Tablet). c.args.place < length ts) (sym c.self.view_is) c.requires in
    let new : c.replace.new.dest ≡ c.args.tablet = search rules in
    ap (λ (t : Tablet). lower ++ ended None t ∷ []) new
    ∙ at_last (λ (t : Tablet). ended t.end c.args.tablet) lower last c.args.place ge lt ∙ ap (put_at c.args.place c.args.tablet) c.self.view_is

pub invariant_of-self : goal.invariant_of-self
invariant_of-self c = prefixes_put c.self.inside.prefixes.items c.self.inside.lower.items c.args.place c.index_mut.result.now c.put.new.self c.index_mut.ensures.value (ap (λ (t : Tablet). t.end) c.put.ensures) c.self.invariant
