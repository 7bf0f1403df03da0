use Rattle.std.proofs.Common.{◌≡◌, ℕ, ◌+◌, ◌/◌, ◌%◌, ◌<◌, List, length, min, map, subst, rules, IfOk, Bor}
use Rattle.std.specs.Prelude.{slice_index_or}
use Rattle.tab_key.specs.Records.{Record}
use Rattle.tab_compact.specs.Merges.{Merge, output}
use Rattle.tab_compact.proofs.Together.{all_made}
use Rattle.tab_compact.proofs.many.make_all.Goals as goal

pub returns : goal.returns
returns g c =
    let f : Bor Merge → List Record = λ job. output job.now in
    let size : ℕ = c.div_ceil-size.result in
    let some : 0 < size = search rules in
    let told = c.in_ok-chunks.chunks.items in
    let count : length told ≡ length c.args.jobs.now / size + min 1 (length c.args.jobs.now % size) = search rules in
    all_made f size c.joined.result told c.args.jobs.now
    (λ n d lt. let one = (c.in_ok-chunks.ensures.each n d lt).1 in subst (λ (l : List (Bor Merge)). IfOk (slice_index_or told n d) (λ v. v.items ≡ map f l)) one.argument_is.value one.call)
    count some c.joined.ensures
