use Rattle.std.proofs.Common.{rules, ◌≡◌, ◌∷◌, [], sym, subst, ◌∙◌, Some, true, false}
use Rattle.std.specs.Prelude.{codes}
use Rattle.std.specs.Str.{bytes_eq}
use Rattle.tab_text.specs.Gives.{SaysNone}
use Rattle.tab_lines.specs.Words.{words_left}
use Rattle.tab_lines.specs.Updates.{updated, update_of}
use Rattle.tab_lines.proofs.UpdateLemmas.{step_last, step_more, step_other, step_len, step_fails}
use Rattle.tab_lines.proofs.updates.add_some.Goals as goal

pub returns-in-Err : goal.returns-in-Err
returns-in-Err c =
    let m = c.updates.mutation in
    let ws = words_left c.updates.words in
    let fails : SaysNone c.in-Err.error (updated m (update_of ws)) = search rules in
    subst (SaysNone c.in-Err.error) c.updates.invariant (step_fails c.in-Err.error m ws fails)

pub returns-in_default : goal.returns-in_default
returns-in_default c =
    let m = c.updates.mutation in
    let ws = words_left c.updates.words in
    let left = words_left c.add_update.new.words in
    let read : updated m (update_of ws) ≡ Some (c.add_update.new.mutation, left) = search rules in
    let last : left ≡ [] = search rules in
    sym c.updates.invariant ∙ step_last m c.add_update.new.mutation ws left read last

pub returns-then-not-parts : goal.returns-then-not-parts
returns-then-not-parts c =
    let m = c.updates.mutation in
    let ws = words_left c.updates.words in
    let left = words_left c.add_update.new.words in
    let rest = words_left c.next.new.self in
    let word = c.in-Some.word.now in
    let read : updated m (update_of ws) ≡ Some (c.add_update.new.mutation, left) = search rules in
    let more : left ≡ word ∷ rest = search rules in
    let other : bytes_eq word (codes ";") ≡ false = search rules in
    sym c.updates.invariant ∙ step_other m c.add_update.new.mutation ws left rest word read more other

pub updates-smaller : goal.updates-smaller
updates-smaller c =
    let m = c.updates.mutation in
    let ws = words_left c.updates.words in
    let left = words_left c.add_update.new.words in
    let rest = words_left c.next.new.self in
    let word = c.in-Some.word.now in
    let read : updated m (update_of ws) ≡ Some (c.add_update.new.mutation, left) = search rules in
    let more : left ≡ word ∷ rest = search rules in
    step_len m c.add_update.new.mutation ws left rest word read more

pub updates-preserved : goal.updates-preserved
updates-preserved c =
    let m = c.updates.mutation in
    let ws = words_left c.updates.words in
    let left = words_left c.add_update.new.words in
    let rest = words_left c.next.new.self in
    let word = c.in-Some.word.now in
    let read : updated m (update_of ws) ≡ Some (c.add_update.new.mutation, left) = search rules in
    let more : left ≡ word ∷ rest = search rules in
    let semicolon : bytes_eq word (codes ";") ≡ true = search rules in
    sym (step_more m c.add_update.new.mutation ws left rest word read more semicolon) ∙ c.updates.invariant
