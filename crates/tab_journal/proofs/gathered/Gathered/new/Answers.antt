use Rattle.std.proofs.Common.{◌≡◌, ◌∙◌, ap, rules, ℤ, to_z, of_z, w64}
use Rattle.tab_journal.specs.Stretches.{begun}
use Rattle.tab_journal.proofs.Keeping.{none_kept, begun_is}
use Rattle.tab_journal.proofs.gathered.Gathered.new.Goals as goal

pub invariant_of-result : goal.invariant_of-result
invariant_of-result c = none_kept _ c.new.ensures

pub returns : goal.returns
returns c =
    let trip : to_z w64 (of_z w64 c.args.clock) ≡ c.args.clock = search rules in
    begun_is _ _ c.new.ensures ∙ ap (λ (t : ℤ). begun t) trip
