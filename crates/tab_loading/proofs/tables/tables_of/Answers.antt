use Rattle.std.proofs.Common.{◌≡◌, [], ◌∷◌, ◌∙◌, sym, ap, subst, length, arith}
use Rattle.std.specs.List.{AllByRecursion, fold}
use Rattle.std.specs.Vec.Iter.{into_iter_items}
use Rattle.tab_store.specs.Tables.{table_at}
use Rattle.tab_loading.specs.Tables.{IsOrdered, number_behind, numbered_from}
use Rattle.tab_loading.proofs.Found.{nothing_left}
use Rattle.tab_loading.proofs.Placing.{placed, all_said}
use Rattle.tab_loading.proofs.tables.tables_of.Goals as goal

pub loop-table-preserved : goal.loop-table-preserved
loop-table-preserved c =
    let at = c.loop-table in
    let steps : into_iter_items at.table-iterator ≡ c.in-Some.table ∷ into_iter_items c.next.new.self = c.in-Some.ensures.steps.0 in
    record {
      left =
          let was = at.invariant.left in
          let gone = c.in-Some.ensures.steps.1 in
          let short = ap length steps in
          omega (arith, was, gone, short);
      each = (subst (AllByRecursion IsOrdered) steps at.invariant.each).1;
      names = c.in-Ok.ensures.names;
      read =
          (λ i. fold placed (λ q. c.in-Ok.ensures.tables q i) (numbered_from (c.in-Ok.ensures.number i) (into_iter_items c.next.new.self)))
          ∙ ap (λ ts. fold placed (table_at at.made) (numbered_from at.number ts)) (sym steps)
          ∙ at.invariant.read;
      number =
          ap (λ n. fold number_behind n (into_iter_items c.next.new.self)) c.in-Ok.ensures.number
          ∙ ap (fold number_behind at.number) (sym steps)
          ∙ at.invariant.number;
    }

pub returns-clause-tables : goal.returns-clause-tables
returns-clause-tables c =
    let at = c.loop-table in
    let empty : into_iter_items at.table-iterator ≡ [] = nothing_left _ (sym at.invariant.left ∙ c.in-None.ensures.steps.0) in
    all_said c.args.tables.items c.requires.names at.made at.invariant.names (ap (λ ts. fold placed (table_at at.made) (numbered_from at.number ts)) (sym empty) ∙ at.invariant.read)

pub returns-clause-number : goal.returns-clause-number
returns-clause-number c =
    let at = c.loop-table in
    let empty : into_iter_items at.table-iterator ≡ [] = nothing_left _ (sym at.invariant.left ∙ c.in-None.ensures.steps.0) in
    ap (fold number_behind at.number) (sym empty) ∙ at.invariant.number
