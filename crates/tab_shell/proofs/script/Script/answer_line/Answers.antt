use Rattle.std.proofs.Common.{◌≡◌, ◌+◌, ◌++◌, List, ℕ, length, take, arith, length-drop, subst, sym, ap, ◌∙◌}
use Rattle.tab_shell.specs.Ahead.{Pends, ReadsLine}
use Rattle.tab_shell.specs.Scripts.{IsInside}
use Rattle.tab_shell.proofs.Taking.{takes_line, inside_before}
use Rattle.tab_shell.proofs.script.Script.answer_line.Goals as goal

pub answer-answered-requires : goal.answer-answered-requires
answer-answered-requires g c =
    let front : List ℕ = g.R.Input.front c.args.input.now in
    let part : c.split_at.result.0.now ≡ take c.args.at front = c.split_at.ensures.front ∙ ap (take c.args.at) c.front.ensures.value in
    subst (λ (xs : List ℕ). IsInside xs) (sym part) (inside_before front c.args.at c.requires.0 c.requires.1)

pub returns-clause-lines : goal.returns-clause-lines
returns-clause-lines g c =
    let front : List ℕ = g.R.Input.front c.args.input.now in
    let answers = c.answer-answered.ensures in
    let part : c.split_at.result.0.now ≡ take c.args.at front = c.split_at.ensures.front ∙ ap (take c.args.at) c.front.ensures.value in
    let says : (gone : List ℕ) → Pends c.args.pending.now gone → ReadsLine answers.0 (gone ++ take c.args.at front) =
    λ gone h. subst (λ (xs : List ℕ). ReadsLine answers.0 (gone ++ xs)) part (answers.1 gone h) in
    (answers.0, takes_line _ _ c.args.pending.now c.clear.new.self answers.0 front c.args.at c.requires.0 c.requires.1 c.consume.ensures.bytes says c.clear.ensures, answers.2)

pub returns-clause-shorter : goal.returns-clause-shorter
returns-clause-shorter g c =
    let front : List ℕ = g.R.Input.front c.args.input.now in
    omega (arith, ap (λ (xs : List ℕ). length xs) c.consume.ensures.front, length-drop (c.args.at + 1) front, c.requires.1)
