-- The lowest bit is that of the first byte that differs.
use Rattle.std.proofs.Common.{◌≡◌, ◌+◌, ◌-◌, ℕ, List, refl, ◌∙◌, length, take, drop, arith}
use Rattle.std.proofs.lemmas.List.{length-drop, length-take-le}
use Rattle.tab_table.specs.Sizes.{shared}
use Rattle.tab_table.proofs.SameBytes.{step_shared}
use Rattle.tab_table.proofs.sharing.shared_step.Goals as goal

pub returns : goal.returns
returns c =
    let xs : List ℕ = take 16 (drop c.args.from c.args.first.now) in
    let ys : List ℕ = take 16 (drop c.args.place c.args.second.now) in
    let ex : length xs ≡ 16 = length-take-le 16 (drop c.args.from c.args.first.now) (omega (arith, c.requires.first, length-drop c.args.from c.args.first.now)) in
    let ey : length ys ≡ 16 = length-take-le 16 (drop c.args.place c.args.second.now) (omega (arith, c.requires.second, length-drop c.args.place c.args.second.now)) in
    let here : 16 ≡ c.args.from + 16 - c.args.from = omega arith in
    let there : 16 ≡ c.args.place + 16 - c.args.place = omega arith in
    step_shared xs ys _ c.lowest.result ex ey refl c.lowest.ensures
    ∙ (λ i. shared (take (here i) (drop c.args.from c.args.first.now)) (take (there i) (drop c.args.place c.args.second.now)))
