-- One step more.
use Rattle.std.proofs.Common.{◌≡◌, ◌+◌, ◌*◌, ◌/◌, ◌<◌, suc, subst, sym, arith}
use Rattle.tab_key.specs.Encoding.{IsAt}
use Rattle.tab_table.specs.PartBytes.{IsFound}
use Rattle.tab_table.proofs.Walked.{entry_here, entry_next}
use Rattle.tab_table.proofs.packed.Packed.find_byte.Goals as goal

pub next_byte-found-requires-clause-here : goal.next_byte-found-requires-clause-here
next_byte-found-requires-clause-here c =
    let self = c.args.self.now in
    let n = 16 * (c.args.mine / 16) + c.loop-step._step in
    let lt : n < self.count = omega (arith, c.requires) in
    subst (λ p. IsAt self.bytes (p + 16)) (sym c.loop-step.invariant.here) (entry_here self.bytes self.count self.laid n lt)

pub next_byte-found-requires-clause-there : goal.next_byte-found-requires-clause-there
next_byte-found-requires-clause-there c =
    let self = c.args.self.now in
    let n = 16 * (c.args.mine / 16) + c.loop-step._step in
    let lt : suc n < self.count = omega (arith, c.requires) in
    entry_next self.bytes self.count self.laid n c.loop-step.found.place lt c.loop-step.invariant.here

pub loop-step-init : goal.loop-step-init
loop-step-init c =
    let self = c.args.self.now in
    let n = 16 * (c.args.mine / 16) in
    let first : n ≡ n + 0 = omega arith in
    subst (λ m. IsFound self.bytes self.count c.first_byte-found.result.byte c.first_byte-found.result.place m c.args.part c.args.index) first c.first_byte-found.ensures

pub loop-step-preserved : goal.loop-step-preserved
loop-step-preserved c =
    let self = c.args.self.now in
    let n = 16 * (c.args.mine / 16) + c.loop-step._step in
    let lt : suc n < self.count = omega (arith, c.requires) in
    let next : suc n ≡ 16 * (c.args.mine / 16) + (c.loop-step._step + 1) = omega arith in
    subst (λ m. IsFound self.bytes self.count c.next_byte-found.result.byte c.next_byte-found.result.place m c.args.part c.args.index) next (c.next_byte-found.ensures n lt c.loop-step.invariant)

pub returns : goal.returns
returns c =
    let self = c.args.self.now in
    let last : 16 * (c.args.mine / 16) + c.loop-step._step ≡ c.args.mine = omega arith in
    subst (λ m. IsFound self.bytes self.count c.loop-step.found.byte c.loop-step.found.place m c.args.part c.args.index) last c.loop-step.invariant
