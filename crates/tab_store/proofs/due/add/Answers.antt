use Rattle.std.proofs.Common.{◌≡◌, ◌∙◌, List, true, false, sym, ap}
use Rattle.std.specs.Prelude.{Bool, ◌==◌}
use Rattle.std.specs.List.{list_any}
use Rattle.tab_store.specs.Due.{listed_on}
use Rattle.tab_store.specs.declared.due.Due.{Due}
use Rattle.tab_store.proofs.DueList.{had, put}
use Rattle.tab_store.proofs.due.add.Goals as goal

pub returns-then-has_on-clause-listed : goal.returns-then-has_on-clause-listed
returns-then-has_on-clause-listed c =
    let on : List Due → Bool = list_any (λ (e : Due). e.tablet == c.args.work.tablet) in
    λ max rest. had max c.args.list.now.items c.args.work rest (sym (ap on c.deref.ensures.value) ∙ sym c.has_on.ensures ∙ c.if-has_on.true)

pub returns-clause-listed : goal.returns-clause-listed
returns-clause-listed c =
    let on : List Due → Bool = list_any (λ (e : Due). e.tablet == c.args.work.tablet) in
    λ max rest.
    ap (λ (l : List Due). listed_on max l rest) c.in_ok-push.ensures.items
    ∙ put max c.args.list.now.items c.args.work rest (sym (ap on c.deref.ensures.value) ∙ sym c.has_on.ensures ∙ c.if-has_on.false)
