-- A mutation more has the next number.
use Rattle.std.proofs.Common.{◌≡◌, ◌++◌, ◌+◌, ◌<◌, refl, sym, subst, arith, rules}
use Rattle.std.specs.Prelude.{pos, Contains}
use Rattle.tab_key.specs.Records.{Record}
use Rattle.tab_cells.specs.Written.{mutation_records}
use Rattle.tab_tablet.specs.Tablets.{Tablet, records_in, written}
use Rattle.tab_version.specs.Sources.{records_of}
use Rattle.tests_engine.proofs.Numbers.{written_below}
use Rattle.tests_engine.proofs.tablets.merged_runs.Numbered.write.Goals as goal

pub invariant_of-self : goal.invariant_of-self
invariant_of-self g c =
    let t : Tablet = c.self.inside.tablet in
    let is : c.write.new.self ≡ written (mutation_records c.self.inside.next (pos 1) c.args.mutation.now) t = search rules in
    subst (λ (x : Tablet). (u : Record) → Contains (records_in x) u → u.seq < c.self.inside.next + 1) (sym is)
    (written_below t.active (t.active ++ mutation_records c.self.inside.next (pos 1) c.args.mutation.now) (records_of t.sources) c.self.inside.next c.self.inside.next (pos 1) c.args.mutation.now refl (omega arith) c.self.invariant)
