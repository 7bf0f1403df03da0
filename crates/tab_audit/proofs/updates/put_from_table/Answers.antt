use Rattle.std.proofs.Common.{ℕ, List, [], ◌∷◌, ◌++◌, subst, rules}
use Rattle.tab_io.specs.Writing.{Puts, HasPutPart, HasPut}
use Rattle.tab_io.proofs.Putting.{puts_more, part_longer}
use Rattle.tab_text.specs.Words.{word}
use Rattle.tab_text.specs.Lines.{after_spaces}
use Rattle.tab_audit.specs.Words.{updates_words}
use Rattle.tab_audit.proofs.Writing.{two_first}
use Rattle.tab_audit.proofs.updates.put_from_table.Goals as goal

pub returns : goal.returns
returns g c =
    let t = word c.args.table.now in
    let r = word c.args.mutation.now.row in
    let ws = updates_words c.args.mutation.now.updates in
    let two : HasPut g.W.Output c.args.output.now c.put_spaced.new.output (after_spaces (t ∷ r ∷ [])) = search rules in
    subst (λ (x : List ℕ). Puts g.W.Output c.args.output.now c.put_end.new.output x c.put_end.result) (two_first t r ws)
    (puts_more g.W.Output c.args.output.now c.put_spaced.new.output c.put_end.new.output (after_spaces (t ∷ r ∷ [])) (after_spaces ws ++ 10 ∷ []) c.put_end.result two c.put_end.ensures)

pub returns-in_err-put_spaced : goal.returns-in_err-put_spaced
returns-in_err-put_spaced g c =
    let t = word c.args.table.now in
    let r = word c.args.mutation.now.row in
    let ws = updates_words c.args.mutation.now.updates in
    let two : HasPutPart g.W.Output c.args.output.now c.put_spaced.new.output (after_spaces (t ∷ r ∷ [])) = search rules in
    let part : HasPutPart g.W.Output c.args.output.now c.put_spaced.new.output (after_spaces (t ∷ r ∷ ws) ++ 10 ∷ []) =
    subst (λ (x : List ℕ). HasPutPart g.W.Output c.args.output.now c.put_spaced.new.output x) (two_first t r ws)
    (part_longer {t = after_spaces (t ∷ r ∷ [])} (after_spaces ws ++ 10 ∷ []) two) in
    search (rules, part)
