use Rattle.std.proofs.Common.{◌+◌, ◌<◌, length, sym, ◌∙◌, ap, arith}
use Rattle.std.specs.Prelude.{slice_index_or}
use Rattle.tab_key.specs.Records.{Record}
use Rattle.tab_version.proofs.PartsByIndex.{length_part, part_at}
use Rattle.tab_version.proofs.clip.ClipOf.row_of.Goals as goal

pub overflow_add-whole_index : goal.overflow_add-whole_index
overflow_add-whole_index g c =
    omega (arith, c.requires, ap length c.self.view_is, length_part c.self.inside.from c.self.inside.end (g.W.FrozenRecords.listed c.self.inside.whole.value) c.self.invariant.inside)

pub row_of-requires : goal.row_of-requires
row_of-requires g c =
    omega (arith, c.requires, ap length c.self.view_is, ap length (ap g.W.FrozenRecords.listed c.deref.ensures), length_part c.self.inside.from c.self.inside.end (g.W.FrozenRecords.listed c.self.inside.whole.value) c.self.invariant.inside, c.self.invariant.inside)

pub returns : goal.returns
returns g c = λ u.
    let listed = g.W.FrozenRecords.listed c.self.inside.whole.value in
    let inside : c.self.inside.from + c.args.index < c.self.inside.end = omega (arith, c.requires, ap length c.self.view_is, length_part c.self.inside.from c.self.inside.end listed c.self.invariant.inside) in
    c.in_ok-row.ensures u
    ∙ ap (λ rs. (slice_index_or rs (c.self.inside.from + c.args.index) u).key.row) (ap g.W.FrozenRecords.listed c.deref.ensures)
    ∙ ap (λ (r : Record). r.key.row) (sym (part_at c.self.inside.from c.self.inside.end listed c.args.index u inside) ∙ ap (λ rs. slice_index_or rs c.args.index u) c.self.view_is)
