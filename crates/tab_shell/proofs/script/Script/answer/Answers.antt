use Rattle.std.proofs.Common.{◌≡◌, ◌<◌, ◌++◌, List, [], ℕ, false, length, sym, rules, subst}
use Rattle.tab_shell.specs.Ahead.{ReadsLine}
use Rattle.tab_shell.proofs.Ending.{when_false}
use Rattle.tab_shell.proofs.script.Script.answer.Goals as goal

pub returns-then-has_begun : goal.returns-then-has_begun
returns-then-has_begun g c =
    let read = c.answer_pending.ensures in
    (read.0, λ gone h. read.1 (gone ++ c.args.part.now) (c.add.ensures gone h), read.2)

pub returns : goal.returns
returns g c =
    let read = c.answer_text.ensures in
    let none : c.has_begun.result ≡ false = search rules in (
      read.0,
      λ gone h. subst (λ (xs : List ℕ). ReadsLine read.0 (xs ++ c.args.part.now)) (sym (when_false c.has_begun.result (0 < length gone) (gone ≡ []) none (c.has_begun.ensures gone h))) read.1,
      read.2,
    )
