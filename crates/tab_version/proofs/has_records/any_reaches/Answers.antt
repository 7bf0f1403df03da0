-- One more.
use Rattle.std.proofs.Common.{◌<◌, ◌∙◌, sym, not, length, arith}
use Rattle.std.specs.Ordering.{is_lt}
use Rattle.tab_key.specs.KeyOf.{key_of}
use Rattle.tab_key.specs.Order.{key_cmp}
use Rattle.tab_key.specs.Records.{Record}
use Rattle.tab_version.proofs.HeldLaws.{any_here, none_more}
use Rattle.tab_version.proofs.has_records.any_reaches.Goals as goal

pub returns-then-reaches : goal.returns-then-reaches
returns-then-reaches g c =
    let lt : c.loop-one.one-index < length c.args.several.now = omega arith in
    sym (any_here g.H.HasRecords.held (λ (u : Record). not (is_lt (key_cmp u.key (key_of c.args.key)))) c.args.several.now c.loop-one.one-index c.one-item.result lt c.one-item.is (sym c.reaches.ensures ∙ c.if-reaches.true))

pub loop-one-preserved : goal.loop-one-preserved
loop-one-preserved g c =
    let lt : c.loop-one.one-index < length c.args.several.now = omega arith in
    none_more g.H.HasRecords.held (λ (u : Record). not (is_lt (key_cmp u.key (key_of c.args.key)))) c.args.several.now c.loop-one.one-index c.one-item.result lt c.one-item.is c.loop-one.invariant (sym c.reaches.ensures ∙ c.if-reaches.false)
