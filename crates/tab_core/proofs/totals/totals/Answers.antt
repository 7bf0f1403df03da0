use Rattle.std.proofs.Common.{◌≡◌, ◌∙◌, ◌≤◌, List, ◌∷◌, [], map, ap, arith, rules}
use Rattle.tab_history.specs.declared.counts.Counts.{Counts}
use Rattle.tab_store.specs.Stores.{TableContents, counts_of}
use Rattle.tab_store.specs.Tables.{named_table}
use Rattle.tab_core.specs.Totals.{added}
use Rattle.tab_core.proofs.Summed.{none_summed, one_more, stays_told, all_summed}
use Rattle.tab_core.proofs.totals.totals.Goals as goal

pub loop-table-init : goal.loop-table-init
loop-table-init c =
    let all : map named_table c.into_iter-table-iterator.result ≡ c.args.tables.now = search rules in
    record {
      tablets = none_summed (λ k. k.tablets) (map named_table c.into_iter-table-iterator.result) c.args.tables.now all;
      sources = none_summed (λ k. k.sources) (map named_table c.into_iter-table-iterator.result) c.args.tables.now all;
      records = none_summed (λ k. k.records) (map named_table c.into_iter-table-iterator.result) c.args.tables.now all;
      few_tablets = omega arith;
      few_sources = omega arith;
      few_records = omega arith;
    }

pub loop-table-preserved : goal.loop-table-preserved
loop-table-preserved c =
    let at = c.loop-table in
    let rest : List TableContents = map named_table c.next.new.self in
    let one : TableContents = named_table (c.in-Some.field-0-0.now, c.in-Some.table.now) in
    let front : map named_table at.table-iterator ≡ one ∷ rest = ap (map named_table) c.in-Some.ensures.steps in
    let sums : c.added-sums.result ≡ added at.sums (counts_of one.tablets) = c.added-sums.ensures ∙ ap (added at.sums) c.counts.ensures in
    let tablets = ap (λ (k : Counts). k.tablets) sums in
    let sources = ap (λ (k : Counts). k.sources) sums in
    let records = ap (λ (k : Counts). k.records) sums in
    record {
      tablets = one_more (λ k. k.tablets) at.sums.tablets c.added-sums.result.tablets one rest (map named_table at.table-iterator) tablets front ∙ at.invariant.tablets;
      sources = one_more (λ k. k.sources) at.sums.sources c.added-sums.result.sources one rest (map named_table at.table-iterator) sources front ∙ at.invariant.sources;
      records = one_more (λ k. k.records) at.sums.records c.added-sums.result.records one rest (map named_table at.table-iterator) records front ∙ at.invariant.records;
      few_tablets = stays_told at.sums.tablets _ c.added-sums.result.tablets tablets;
      few_sources = stays_told at.sums.sources _ c.added-sums.result.sources sources;
      few_records = stays_told at.sums.records _ c.added-sums.result.records records;
    }

pub returns : goal.returns
returns c =
    let at = c.loop-table in
    let left : List TableContents = map named_table at.table-iterator in
    let none : left ≡ [] = ap (map named_table) c.in-None.ensures.steps.0 in
    let tablets = all_summed (λ k. k.tablets) at.sums.tablets left at.invariant.few_tablets none ∙ at.invariant.tablets in
    let sources = all_summed (λ k. k.sources) at.sums.sources left at.invariant.few_sources none ∙ at.invariant.sources in
    let records = all_summed (λ k. k.records) at.sums.records left at.invariant.few_records none ∙ at.invariant.records in
    λ i. record { tablets = tablets i; sources = sources i; records = records i }
