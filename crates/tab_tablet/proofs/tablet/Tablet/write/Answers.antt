use Rattle.std.proofs.Common.{◌≡◌, [], ◌∙◌, ap, subst, sym, rules, ◌<◌, to_z, of_z, w64}
use Rattle.std.specs.Prelude.{Contains, None}
use Rattle.std.proofs.lemmas.Result.{on_ok_weaker}
use Rattle.tab_key.specs.Records.{Record}
use Rattle.tab_cells.specs.Written.{mutation_records}
use Rattle.tab_version.specs.Sources.{records_of}
use Rattle.tab_tablet.specs.Tablets.{records_in, written}
use Rattle.tab_tablet.proofs.Gathered.{active_below, distinct_after}
use Rattle.tab_tablet.proofs.Clipped.{below_sorted}
use Rattle.tab_tablet.proofs.tablet.Tablet.write.Goals as goal

pub write-requires : goal.write-requires
write-requires c = record {
  unused = active_below c.args.seq c.args.mutation.now.row [] c.self.inside.active (records_of c.self.inside.sources)
      (below_sorted c.args.seq _ (subst (λ t. (u : Record) → Contains (records_in t) u → u.seq < c.args.seq) (sym c.self.view_is) c.requires.unused)) c.self.invariant;
}

pub invariant_of-self : goal.invariant_of-self
invariant_of-self c = distinct_after c.args.seq c.args.mutation.now.row _ c.self.inside.active (records_of c.self.inside.sources)
    (below_sorted c.args.seq _ (subst (λ t. (u : Record) → Contains (records_in t) u → u.seq < c.args.seq) (sym c.self.view_is) c.requires.unused)) c.self.invariant
    c.write.new.self c.write.result c.write.ensures.ok c.write.ensures.err

pub returns-clause-ok : goal.returns-clause-ok
returns-clause-ok c =
    let trip : to_z w64 (of_z w64 c.args.clock) ≡ c.args.clock = search rules in
    on_ok_weaker c.write.result
    (λ e. ap (λ a. record { number = c.self.inside.number; end = None; active = a; sources = c.self.inside.sources; jobs = c.self.inside.jobs }) e ∙ (λ i. written (mutation_records c.args.seq (trip i) c.args.mutation.now) (c.self.view_is i)))
    c.write.ensures.ok
