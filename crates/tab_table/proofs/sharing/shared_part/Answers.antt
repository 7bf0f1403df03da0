-- Of the step no more counts than both have.
use Rattle.std.proofs.Common.{◌≡◌, ◌+◌, ◌-◌, ℕ, List, sym, ◌∙◌, ap, take, drop, min, arith}
use Rattle.tab_table.specs.Sizes.{shared}
use Rattle.tab_table.proofs.SameBytes.{shared_cut}
use Rattle.tab_table.proofs.sharing.shared_part.Goals as goal

pub returns-then-are_short : goal.returns-then-are_short
returns-then-are_short c =
    let from = c.args.from in
    let place = c.args.place in
    let len = c.args.len in
    let other = c.args.other in
    let xs : List ℕ = drop from c.args.first.now in
    let ys : List ℕ = drop place c.args.second.now in
    let a : from + 16 - from ≡ 16 = omega arith in
    let b : place + 16 - place ≡ 16 = omega arith in
    let d : from + len - from ≡ len = omega arith in
    let e : place + other - place ≡ other = omega arith in
    let step : c.shared_step-step.result ≡ shared (take 16 xs) (take 16 ys) = c.shared_step-step.ensures ∙ (λ i. shared (take (a i) xs) (take (b i) ys)) in
    c.min.ensures
    ∙ ap (λ n. min n other) (c.min-few.ensures ∙ ap (λ n. min n len) step)
    ∙ shared_cut 16 len other xs ys (c.requires.len c.if-are_short.true) (c.requires.other c.if-are_short.true)
    ∙ sym (λ i. shared (take (d i) xs) (take (e i) ys))
