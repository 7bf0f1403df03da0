-- One step more.
use Rattle.std.proofs.Common.{◌≡◌, ◌+◌, ◌*◌, ◌/◌, ◌<◌, ◌∙◌, suc, subst, sym, arith}
use Rattle.tab_key.specs.Encoding.{IsAt}
use Rattle.tab_mem.proofs.Seeking.{blank}
use Rattle.tab_table.specs.PartBytes.{IsRowFound}
use Rattle.tab_table.proofs.Walked.{entry_here, entry_next}
use Rattle.tab_table.proofs.packed.Packed.row_of.Goals as goal

pub next_row-requires-clause-here : goal.next_row-requires-clause-here
next_row-requires-clause-here c =
    let self = c.args.self.now in
    let n = 16 * (c.args.index / 16) + c.loop-step._step in
    let lt : n < self.count = omega (arith, c.requires) in
    subst (λ p. IsAt self.bytes (p + 16)) (sym c.loop-step.invariant.here) (entry_here self.bytes self.count self.laid n lt)

pub next_row-requires-clause-there : goal.next_row-requires-clause-there
next_row-requires-clause-there c =
    let self = c.args.self.now in
    let n = 16 * (c.args.index / 16) + c.loop-step._step in
    let lt : suc n < self.count = omega (arith, c.requires) in
    entry_next self.bytes self.count self.laid n c.loop-step.place lt c.loop-step.invariant.here

pub loop-step-init : goal.loop-step-init
loop-step-init c =
    let self = c.args.self.now in
    let n = 16 * (c.args.index / 16) in
    let first : n ≡ n + 0 = omega arith in
    let begun : IsRowFound self.bytes self.count c.in_ok-row.row.items c.restart_at-place.result.place n = record { here = (c.restart_at-place.ensures.is blank).there; read = c.in_ok-row.ensures } in
    subst (λ m. IsRowFound self.bytes self.count c.in_ok-row.row.items c.restart_at-place.result.place m) first begun

pub loop-step-preserved : goal.loop-step-preserved
loop-step-preserved c =
    let self = c.args.self.now in
    let n = 16 * (c.args.index / 16) + c.loop-step._step in
    let lt : suc n < self.count = omega (arith, c.requires) in
    let next : suc n ≡ 16 * (c.args.index / 16) + (c.loop-step._step + 1) = omega arith in
    subst (λ m. IsRowFound self.bytes self.count c.next_row.new.row.items c.in_ok-place.place m) next (c.in_ok-place.ensures n lt c.loop-step.invariant)

pub returns : goal.returns
returns c =
    let self = c.args.self.now in
    let last : 16 * (c.args.index / 16) + c.loop-step._step ≡ c.args.index = omega arith in
    let found = subst (λ m. IsRowFound self.bytes self.count c.loop-step.row.items c.loop-step.place m) last c.loop-step.invariant in
    λ u. c.from_vec.ensures ∙ found.read u
