-- One input more is served.
use Rattle.std.proofs.Common.{◌<◌, ◌&&◌, length, refl, arith}
use Rattle.std.specs.Prelude.{◌==◌}
use Rattle.tab_version.specs.Sources.{same_table, without, or_else, without_tables}
use Rattle.tab_version.proofs.TakenOut.{input_served}
use Rattle.tab_version.proofs.taking.take_tables.Goals as goal

pub loop-input-preserved : goal.loop-input-preserved
loop-input-preserved c =
    let lt : c.loop-input.input-index < length c.args.inputs.now = omega arith in
    input_served (λ x ys. or_else (without (λ y. same_table x y && x.size == y.size) ys) (without (same_table x) ys)) without_tables (λ y ys zs. refl) c.args.inputs.now c.args.tables.now.items c.loop-input.tables.items c.take_table.new.tables.items c.loop-input.input-index c.input-item.result c.take_table.result lt c.input-item.is c.take_table.ensures c.if-not-take_table.false c.loop-input.invariant
