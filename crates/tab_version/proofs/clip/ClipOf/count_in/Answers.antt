use Rattle.std.proofs.Common.{◌≤◌, length, sym, ◌∙◌, ap, arith}
use Rattle.std.specs.Prelude.{filter}
use Rattle.tab_key.specs.Ranges.{is_in_range}
use Rattle.tab_key.specs.Records.{Record}
use Rattle.tab_mem.specs.Lists.{part}
use Rattle.tab_version.proofs.PartsByIndex.{length_part}
use Rattle.tab_version.proofs.clip.ClipOf.count_in.Goals as goal

pub returns : goal.returns
returns g c =
    let rows = c.rows_in-counted.result in
    let same = ap g.W.FrozenRecords.listed c.deref.ensures in
    let inside : rows.end ≤ length (g.W.FrozenRecords.listed c.deref.result.now) = omega (arith, c.rows_in-counted.ensures.high, c.self.invariant.inside, ap length same) in
    sym (length_part rows.start rows.end (g.W.FrozenRecords.listed c.deref.result.now) inside)
    ∙ ap length (c.rows_in-counted.ensures.rows ∙ ap (filter (λ (u : Record). is_in_range c.args.bounds.now u.key.row)) (ap (part c.self.inside.from c.self.inside.end) same ∙ c.self.view_is))
