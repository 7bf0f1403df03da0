use Rattle.std.proofs.Common.{◌≡◌, ◌+◌, ◌++◌, List, ℕ, length, take, arith, length-drop, subst, ap, ◌∙◌}
use Rattle.tab_shell.specs.Ahead.{Pends, ReadsLine, IsLineEnd}
use Rattle.tab_shell.proofs.Taking.{takes_line}
use Rattle.tab_shell.proofs.pending.take_line.Goals as goal

pub returns-clause-taken : goal.returns-clause-taken
returns-clause-taken g c =
    let front : List ℕ = g.R.Input.front c.args.input.now in
    let at : ℕ = c.in-Some.at in
    let ends : IsLineEnd front at = subst (λ (xs : List ℕ). IsLineEnd xs at) c.front.ensures.value c.in-Some.ensures.some in
    let part : c.split_at.result.0.now ≡ take at front = c.split_at.ensures.front ∙ ap (take at) c.front-2.ensures.value in
    let says : (gone : List ℕ) → Pends c.args.pending.now gone → ReadsLine c.said-said.result (gone ++ take at front) =
    λ gone h. subst (λ (xs : List ℕ). ReadsLine c.said-said.result (gone ++ xs)) part (c.said-said.ensures.line gone h) in (
      omega (arith, ap (λ (xs : List ℕ). length xs) c.consume.ensures.front, length-drop (at + 1) front, ends.1),
      takes_line _ _ c.args.pending.now c.clear.new.self c.said-said.result front at ends.0 ends.1 c.consume.ensures.bytes says c.clear.ensures,
    )
