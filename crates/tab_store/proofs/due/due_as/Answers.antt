use Rattle.std.proofs.Common.{◌≡◌, ◌∙◌, ◌∷◌, List, map, Some, None, sym, ap, rules}
use Rattle.tab_store.specs.Stores.{TableContents}
use Rattle.tab_store.specs.Due.{due_as}
use Rattle.tab_store.specs.Tables.{named_table}
use Rattle.tab_store.proofs.DueTables.{due_front}
use Rattle.tab_store.proofs.due.due_as.Goals as goal

pub loop-table-init : goal.loop-table-init
loop-table-init c =
    let all : map named_table c.into_iter-table-iterator.result ≡ c.args.tables.now = search rules in
    ap (due_as c.args.kind) all

pub returns-in-Some-due : goal.returns-in-Some-due
returns-in-Some-due c =
    let rest : List TableContents = map named_table c.next.new.self in
    let one : TableContents = named_table (c.in-Some.field-0-0.now, c.in-Some.table.now) in
    let front : map named_table c.loop-table.table-iterator ≡ one ∷ rest = ap (map named_table) c.in-Some.ensures.steps in
    due_front c.args.kind one rest (Some c.in-Some-due.tablet) (sym c.in-Some-due.is ∙ c.due.ensures) ∙ ap (due_as c.args.kind) (sym front) ∙ c.loop-table.invariant

pub loop-table-preserved : goal.loop-table-preserved
loop-table-preserved c =
    let rest : List TableContents = map named_table c.next.new.self in
    let one : TableContents = named_table (c.in-Some.field-0-0.now, c.in-Some.table.now) in
    let front : map named_table c.loop-table.table-iterator ≡ one ∷ rest = ap (map named_table) c.in-Some.ensures.steps in
    let none : c.due.result ≡ None = search rules in
    due_front c.args.kind one rest None (sym none ∙ c.due.ensures) ∙ ap (due_as c.args.kind) (sym front) ∙ c.loop-table.invariant
