use Rattle.std.proofs.Common.{◌≡◌, ◌∙◌, ◌∷◌, List, map, Some, None, sym, ap, rules}
use Rattle.std.specs.Option.{option_or}
use Rattle.tab_store.specs.Stores.{TableContents}
use Rattle.tab_store.specs.Due.{target_at, target_of}
use Rattle.tab_store.specs.Tables.{named_table}
use Rattle.tab_store.proofs.tables.Tables.target.Goals as goal

pub loop-name-init : goal.loop-name-init
loop-name-init c =
    let all : map named_table c.into_iter-name-iterator.result ≡ c.args.self.now = search rules in
    ap (target_of c.args.due.now) all

pub returns-in-Ok-Some : goal.returns-in-Ok-Some
returns-in-Ok-Some c =
    let rest : List TableContents = map named_table c.next.new.self in
    let one : TableContents = named_table (c.in-Some.name.now, c.in-Some.table.now) in
    let front : map named_table c.loop-name.name-iterator ≡ one ∷ rest = ap (map named_table) c.in-Some.ensures.steps in
    let found : Some c.in-Ok-Some.target ≡ target_at c.args.due.now.tablet one = sym c.in-Ok-Some.field-0-is ∙ c.in-Ok-Some.ensures in
    ap (λ o. option_or o (target_of c.args.due.now rest)) found ∙ ap (target_of c.args.due.now) (sym front) ∙ c.loop-name.invariant

pub loop-name-preserved : goal.loop-name-preserved
loop-name-preserved c =
    let rest : List TableContents = map named_table c.next.new.self in
    let one : TableContents = named_table (c.in-Some.name.now, c.in-Some.table.now) in
    let front : map named_table c.loop-name.name-iterator ≡ one ∷ rest = ap (map named_table) c.in-Some.ensures.steps in
    let none : None ≡ target_at c.args.due.now.tablet one = sym c.in-Ok-None.field-0-is ∙ c.in-Ok-None.ensures in
    ap (λ o. option_or o (target_of c.args.due.now rest)) none ∙ ap (target_of c.args.due.now) (sym front) ∙ c.loop-name.invariant
