use Rattle.std.proofs.Common.{◌≡◌, List, map, ap, ◌∙◌, subst, IfOk, Bor}
use Rattle.tab_key.specs.Records.{Record}
use Rattle.tab_compact.specs.Merges.{Merge, output}
use Rattle.tab_compact.proofs.Together.{made_through}
use Rattle.tab_compact.proofs.many.make_pending.Goals as goal

pub returns : goal.returns
returns g c =
    let merge_of : Bor Merge → Merge = λ job. job.now in
    let lent = ap (map merge_of) c.as_slice.ensures.value ∙ c.in_ok-lent.ensures in
    subst (λ (l : List (List Record)). IfOk c.make_all.result (λ v. v.items ≡ l)) (made_through output merge_of g.J.Pending.merge c.as_slice.result.now c.args.jobs.now lent) c.make_all.ensures
