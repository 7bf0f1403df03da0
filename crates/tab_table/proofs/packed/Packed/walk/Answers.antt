-- One step more.
use Rattle.std.proofs.Common.{◌≡◌, ◌+◌, ◌*◌, ◌/◌, ◌<◌, suc, subst, sym, arith}
use Rattle.tab_key.specs.Encoding.{IsAt}
use Rattle.tab_key.specs.KeyOf.{key_of}
use Rattle.tab_table.specs.Agreements.{IsWalked}
use Rattle.tab_table.proofs.Walked.{entry_here, entry_next}
use Rattle.tab_table.proofs.packed.Packed.walk.Goals as goal

pub next_of-walked-requires-clause-here : goal.next_of-walked-requires-clause-here
next_of-walked-requires-clause-here c =
    let self = c.args.self.now in
    let n = 16 * (c.args.index / 16) + c.loop-step._step in
    let lt : n < self.count = omega (arith, c.requires) in
    subst (λ p. IsAt self.bytes (p + 16)) (sym c.loop-step.invariant.walked.here) (entry_here self.bytes self.count self.laid n lt)

pub next_of-walked-requires-clause-there : goal.next_of-walked-requires-clause-there
next_of-walked-requires-clause-there c =
    let self = c.args.self.now in
    let n = 16 * (c.args.index / 16) + c.loop-step._step in
    let lt : suc n < self.count = omega (arith, c.requires) in
    entry_next self.bytes self.count self.laid n c.loop-step.walked.place lt c.loop-step.invariant.walked.here

pub loop-step-init : goal.loop-step-init
loop-step-init c =
    let self = c.args.self.now in
    let n = 16 * (c.args.index / 16) in
    let first : n ≡ n + 0 = omega arith in
    record {
      walked = subst (λ m. IsWalked self.bytes self.count c.first_of-walked.result.agreement c.first_of-walked.result.place m (key_of c.args.sought)) first c.first_of-walked.ensures.walked;
      inside = c.first_of-walked.ensures.inside;
    }

pub loop-step-preserved : goal.loop-step-preserved
loop-step-preserved c =
    let self = c.args.self.now in
    let n = 16 * (c.args.index / 16) + c.loop-step._step in
    let lt : suc n < self.count = omega (arith, c.requires) in
    let next : suc n ≡ 16 * (c.args.index / 16) + (c.loop-step._step + 1) = omega arith in
    record {
      walked = subst (λ m. IsWalked self.bytes self.count c.next_of-walked.result.agreement c.next_of-walked.result.place m (key_of c.args.sought)) next (c.next_of-walked.ensures.walked n lt c.loop-step.invariant.walked);
      inside = c.next_of-walked.ensures.inside;
    }

pub returns : goal.returns
returns c =
    let self = c.args.self.now in
    let last : 16 * (c.args.index / 16) + c.loop-step._step ≡ c.args.index = omega arith in
    subst (λ m. IsWalked self.bytes self.count c.loop-step.walked.agreement c.loop-step.walked.place m (key_of c.args.sought)) last c.loop-step.invariant.walked
