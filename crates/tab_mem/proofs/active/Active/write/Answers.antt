use Rattle.std.proofs.Common.{◌≡◌, sym, subst, rules, ◌++◌, ◌∙◌, List, to_z, of_z, w64}
use Rattle.std.specs.Prelude.{Contains, ◌<◌, OnErr}
use Rattle.std.proofs.lemmas.Result.{on_ok_weaker}
use Rattle.tab_key.specs.Records.{Record}
use Rattle.tab_cells.specs.Written.{mutation_records}
use Rattle.tab_mem.specs.Writing.{as_written}
use Rattle.tab_mem.proofs.Writing.{held_after, written_after, written_refused}
use Rattle.tab_mem.proofs.active.Active.write.Goals as goal

pub invariant_of-self : goal.invariant_of-self
invariant_of-self c =
    let a = c.self.inside in
    held_after c.args.seq c.args.mutation.now.row _ a.written a.kept c.write.new.self c.self.invariant (subst (λ us. (u : _) → Contains us u → u.seq < c.args.seq) (sym c.self.view_is) c.requires.unused) c.write.result c.write.ensures.ok c.write.ensures.timestamps c.write.ensures.err

pub returns-clause-ok : goal.returns-clause-ok
returns-clause-ok c =
    let a = c.self.inside in
    let trip : to_z w64 (of_z w64 c.args.clock) ≡ c.args.clock = search rules in
    on_ok_weaker c.write.result
    (λ e. e ∙ (λ i. c.self.view_is i ++ mutation_records c.args.seq (trip i) c.args.mutation.now))
    (written_after c.args.seq c.args.mutation.now.row _ a.written a.kept c.write.new.self c.self.invariant (subst (λ us. (u : _) → Contains us u → u.seq < c.args.seq) (sym c.self.view_is) c.requires.unused) c.write.result c.write.ensures.ok c.write.ensures.timestamps)

pub returns-clause-err : goal.returns-clause-err
returns-clause-err c =
    let a = c.self.inside in
    let back = a.kept in
    subst (λ (l : List Record). OnErr c.write.result (as_written (c.write.new.self ++ back) ≡ l)) c.self.view_is (written_refused a.written back c.write.new.self c.write.result c.write.ensures.err)
