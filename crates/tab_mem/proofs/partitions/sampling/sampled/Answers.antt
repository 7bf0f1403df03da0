use Rattle.std.proofs.Common.{◌≡◌, ◌-◌, suc, sym, subst, arith}
use Rattle.tab_key.specs.Encoding.{places_from, AreAt, span_at}
use Rattle.tab_mem.proofs.Filled.{first_at, rest_at}
use Rattle.tab_mem.proofs.partitions.sampling.sampled.Goals as goal

pub end_of-end-requires : goal.end_of-end-requires
end_of-end-requires c =
    let more : c.loop-left.left ≡ suc (c.loop-left.left - 1) = omega (arith, c.loop-left-test.true) in
    first_at c.args.body.now c.loop-left.place c.loop-left.left (c.loop-left.left - 1) more c.loop-left.invariant

pub push_if-requires-clause-within : goal.push_if-requires-clause-within
push_if-requires-clause-within c =
    let more : c.loop-left.left ≡ suc (c.loop-left.left - 1) = omega (arith, c.loop-left-test.true) in
    first_at c.args.body.now c.loop-left.place c.loop-left.left (c.loop-left.left - 1) more c.loop-left.invariant

pub loop-left-preserved : goal.loop-left-preserved
loop-left-preserved c =
    let body = c.args.body.now in
    let left = c.loop-left.left in
    let more : left ≡ suc (left - 1) = omega (arith, c.loop-left-test.true) in
    let next : c.end_of-end.result ≡ (span_at body c.loop-left.place).end = c.end_of-end.ensures in
    subst (λ q. AreAt body (places_from body q (left - 1))) (sym next) (rest_at body c.loop-left.place left (left - 1) more c.loop-left.invariant)
