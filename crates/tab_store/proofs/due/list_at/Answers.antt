use Rattle.std.proofs.Common.{◌≡◌, ◌∙◌, List, ◌∷◌, [], ◌++◌, sym, ap, subst, length, rules}
use Rattle.std.specs.Prelude.{OnOk}
use Rattle.tab_tablets.specs.Places.{tablet_at}
use Rattle.tab_store.specs.Due.{due_among, listed_on}
use Rattle.tab_store.specs.declared.due.Due.{Due}
use Rattle.tab_store.proofs.DueList.{full, is_idle, is_at_work}
use Rattle.tab_store.proofs.due.list_at.Goals as goal

pub returns-then-len-max-clause-listed : goal.returns-then-len-max-clause-listed
returns-then-len-max-clause-listed c = λ rest.
    let list : List Due = c.args.list.now.items in
    let whole : length list ≡ c.args.max = search rules in
    full c.args.max list rest whole ∙ sym (full c.args.max list (due_among c.args.kind (tablet_at c.args.tablets.now c.args.place ∷ []) ++ rest) whole)

pub returns-in-Some-clause-listed : goal.returns-in-Some-clause-listed
returns-in-Some-clause-listed c = λ rest.
    subst (λ (l : List Due). OnOk c.add.result (listed_on c.args.max c.add.new.list.items rest ≡ listed_on c.args.max c.args.list.now.items (l ++ rest)))
    (sym (is_at_work c.args.kind (tablet_at c.args.tablets.now c.args.place) c.in-Some.tablet (sym c.in-Some.is ∙ c.due_at.ensures)))
    (c.add.ensures.listed c.args.max rest)

pub returns-in-None-clause-listed : goal.returns-in-None-clause-listed
returns-in-None-clause-listed c = λ rest.
    ap (λ (l : List Due). listed_on c.args.max c.args.list.now.items (l ++ rest)) (sym (is_idle c.args.kind (tablet_at c.args.tablets.now c.args.place) (sym c.in-None.is ∙ c.due_at.ensures)))
