-- One more.
use Rattle.std.proofs.Common.{◌<◌, ◌≤◌, true, ◌∙◌, sym, ap, map, length, arith}
use Rattle.std.specs.List.{list_any}
use Rattle.std.proofs.lemmas.List.{take_all}
use Rattle.tab_key.specs.Records.{Record}
use Rattle.tab_iter.specs.Bags.{flat}
use Rattle.tab_version.proofs.HeldLaws.{any_here, none_more, filled_any}
use Rattle.tab_version.proofs.has_records.any_filled.Goals as goal

pub returns-then-is_filled : goal.returns-then-is_filled
returns-then-is_filled g c =
    let lt : c.loop-one.one-index < length c.args.several.now = omega arith in
    sym (filled_any _ ∙ any_here g.H.HasRecords.held (λ (u : Record). true) c.args.several.now c.loop-one.one-index c.one-item.result lt c.one-item.is (sym (filled_any (g.H.HasRecords.held c.one-item.result)) ∙ sym c.is_filled.ensures ∙ c.if-is_filled.true))

pub loop-one-preserved : goal.loop-one-preserved
loop-one-preserved g c =
    let lt : c.loop-one.one-index < length c.args.several.now = omega arith in
    none_more g.H.HasRecords.held (λ (u : Record). true) c.args.several.now c.loop-one.one-index c.one-item.result lt c.one-item.is c.loop-one.invariant (sym (filled_any (g.H.HasRecords.held c.one-item.result)) ∙ sym c.is_filled.ensures ∙ c.if-is_filled.false)

pub returns : goal.returns
returns g c =
    let upto : length c.args.several.now ≤ c.loop-one.one-index = omega arith in
    sym (filled_any _ ∙ ap (λ l. list_any (λ (u : Record). true) (flat (map g.H.HasRecords.held l))) (sym (take_all c.loop-one.one-index c.args.several.now upto)) ∙ c.loop-one.invariant)
