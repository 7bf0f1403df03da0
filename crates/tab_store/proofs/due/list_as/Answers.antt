use Rattle.std.proofs.Common.{◌≡◌, ◌∙◌, List, ◌∷◌, [], ◌++◌, map, sym, ap, append_assoc, rules}
use Rattle.tab_tablets.specs.Tablets.{Tablet}
use Rattle.tab_store.specs.Stores.{TableContents}
use Rattle.tab_store.specs.Due.{due_among, all_due, listed_on}
use Rattle.tab_store.specs.Tables.{named_table}
use Rattle.tab_store.specs.declared.due.Due.{Due}
use Rattle.tab_store.proofs.DueList.{all_from}
use Rattle.tab_store.proofs.due.list_as.Goals as goal

pub loop-table-init : goal.loop-table-init
loop-table-init c =
    let all : map named_table c.into_iter-table-iterator.result ≡ c.args.tables.now = search rules in
    record { few = c.requires; listed = λ rest. ap (λ ts. listed_on c.args.max c.args.list.now.items (all_due c.args.kind ts ++ rest)) all }

pub loop-table-preserved : goal.loop-table-preserved
loop-table-preserved c =
    let at = c.loop-table in
    let rest_of : List TableContents = map named_table c.next.new.self in
    let one : TableContents = named_table (c.in-Some.field-0-0.now, c.in-Some.table.now) in
    let front : map named_table at.table-iterator ≡ one ∷ rest_of = ap (map named_table) c.in-Some.ensures.steps in
    let behind : List Due = all_due c.args.kind rest_of in
    record {
      few = c.in_ok-list_among.ensures.few;
      listed = λ rest.
          c.in_ok-list_among.ensures.listed (behind ++ rest)
          ∙ ap (λ (ts : List Tablet). listed_on c.args.max at.list.items (due_among c.args.kind ts ++ (behind ++ rest))) c.tablets.ensures
          ∙ ap (listed_on c.args.max at.list.items) (sym (append_assoc (due_among c.args.kind one.tablets) behind rest) ∙ ap (λ l. l ++ rest) (sym (all_from c.args.kind one rest_of)))
          ∙ ap (λ ts. listed_on c.args.max at.list.items (all_due c.args.kind ts ++ rest)) (sym front)
          ∙ at.invariant.listed rest;
    }

pub returns-clause-listed : goal.returns-clause-listed
returns-clause-listed c = λ rest.
    sym (ap (λ l. listed_on c.args.max c.loop-table.list.items (all_due c.args.kind (map named_table l) ++ rest)) c.in-None.ensures.steps.0) ∙ c.loop-table.invariant.listed rest
