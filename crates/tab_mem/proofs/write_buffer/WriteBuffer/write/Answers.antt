use Rattle.std.proofs.Common.{◌≡◌, ◌++◌, List, ℤ, subst, rules, to_z, of_z, w64}
use Rattle.std.specs.List.Sorted.{IsPermutation}
use Rattle.std.proofs.lemmas.List.Sorted.{IsPermutation-trans}
use Rattle.tab_key.specs.Records.{Record}
use Rattle.tab_cells.specs.Written.{mutation_records}
use Rattle.tab_mem.specs.Layouts.{written_in}
use Rattle.tab_mem.proofs.write_buffer.WriteBuffer.write.Goals as goal

pub returns-then-have_become_many-clause-ok : goal.returns-then-have_become_many-clause-ok
returns-then-have_become_many-clause-ok c =
    let before = written_in c.self.inside.layout in
    let written = written_in c.write.new.self in
    let now = written_in c.spread.new.self in
    let trip : to_z w64 (of_z w64 c.args.clock) ≡ c.args.clock = search rules in
    subst (λ (l : List Record). IsPermutation (l ++ mutation_records c.args.seq c.args.clock c.args.mutation.now) now) c.self.view_is
    (subst (λ (z : ℤ). IsPermutation (before ++ mutation_records c.args.seq z c.args.mutation.now) now) trip
    (IsPermutation-trans (before ++ mutation_records c.args.seq _ c.args.mutation.now) written now c.in_ok-have_become_many.ensures.ok c.spread.ensures.moved))
