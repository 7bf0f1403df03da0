use Rattle.std.proofs.Common.{◌≡◌, ◌∙◌, List, [], ◌++◌, sym, ap, append-nil}
use Rattle.tab_tablets.specs.declared.DueKind.TheVariants.{Minor, Partial, Split}
use Rattle.tab_store.specs.Due.{all_due, listed_on, due_listed}
use Rattle.tab_store.specs.declared.due.Due.{Due}
use Rattle.tab_store.proofs.DueList.{begun, ended}
use Rattle.tab_store.proofs.tables.Tables.due_list.Goals as goal

pub returns : goal.returns
unfolding due_listed
returns c =
    let ts = c.args.self.now in
    let max = c.args.max in
    let later : List Due = all_due Split ts in
    let last : List Due = c.list_as-3.new.list.items in
    sym (ended max last c.in_ok-list_as-3.ensures.few)
    ∙ c.in_ok-list_as-3.ensures.listed []
    ∙ ap (listed_on max c.list_as-2.new.list.items) (append-nil later)
    ∙ c.in_ok-list_as-2.ensures.listed later
    ∙ c.in_ok-list_as.ensures.listed (all_due Partial ts ++ later)
    ∙ ap (λ l. listed_on max l (all_due Minor ts ++ (all_due Partial ts ++ later))) c.new-list.ensures.items
    ∙ begun max (all_due Minor ts ++ (all_due Partial ts ++ later))
