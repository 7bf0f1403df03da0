use Rattle.std.proofs.Common.{◌≡◌, ◌+◌, List, [], ◌∷◌, ◌++◌, sym, ◌∙◌, ap, subst, map, rules}
use Rattle.std.specs.List.{AllZip}
use Rattle.std.proofs.lemmas.List.{map-append}
use Rattle.tab_key.specs.Records.{Record}
use Rattle.tab_compact.specs.Merges.{output}
use Rattle.tab_compact.proofs.Together.{ends_alike, none_left, finishes_last}
use Rattle.tab_compact.proofs.many.finish_all.Goals as goal
use Rattle.tab_compact.proofs.many.finish_all.Goals.{in-Some+in_default-pop, in_default}

pub loop-job-preserved : goal.loop-job-preserved
loop-job-preserved g c =
    let before = c.loop-job.invariant in
    let f : g.row.J.Denot → List Record = λ job. output (g.J.Pending.merge job) in
    let jobs : c.loop-job.jobs.items ≡ c.pop.new.self.items ++ c.in-Some.job ∷ [] = search rules in
    let tables : c.loop-job.tables.items ≡ c.pop-in-Some.new.self.items ++ c.in-Some-pop.table ∷ [] = search rules in
    let alike = ends_alike c.pop-in-Some.new.self.items (map f c.pop.new.self.items) c.in-Some-pop.table (f c.in-Some.job) (sym tables ∙ before.made ∙ ap (map f) jobs ∙ map-append f c.pop.new.self.items (c.in-Some.job ∷ [])) in
    record {
      made = alike.0;
      room = search rules;
      done = finishes_last g.J.Pending.finishes c.args.jobs.items c.loop-job.jobs.items c.pop.new.self.items c.loop-job.done.items c.push_reserved.new.self.items c.in-Some.job c.finish.result jobs c.push_reserved.ensures.items c.finish.ensures before.done;
    }

pub returns : goal.returns
returns g c =
    let before = c.loop-job.invariant in
    let f : g.row.J.Denot → List Record = λ job. output (g.J.Pending.merge job) in
    let none : c.loop-job.jobs.items ≡ [] = elim c.match-pop.branch [
      | in-Some+in_default-pop w ↦ none_left f c.loop-job.jobs.items c.loop-job.tables.items before.made (search rules)
      | in_default w ↦ search rules
    ] in
    subst (λ l. AllZip g.J.Pending.finishes c.args.jobs.items l) (sym c.reverse.ensures.items) (before.done [] (subst (λ l. AllZip g.J.Pending.finishes l []) (sym none) tt))
