use Rattle.std.proofs.Common.{ℕ, ◌≡◌, List, ◌++◌, ◌∙◌, ap, drop, subst, rules}
use Rattle.std.specs.List.{flat_map}
use Rattle.tab_io.specs.Writing.{Puts, HasPutPart}
use Rattle.tab_io.proofs.Putting.{puts_more, part_longer}
use Rattle.tab_text.specs.Lines.{after_spaces}
use Rattle.tab_audit.specs.Words.{update_words, updates_words}
use Rattle.tab_audit.specs.Lists.{later_update}
use Rattle.tab_audit.proofs.Writing.{some_updates}
use Rattle.tab_audit.proofs.updates.put_some.Goals as goal

pub returns : goal.returns
returns g c =
    let us = c.args.mutation.now.updates in
    let u = c.update.result in
    let whole : after_spaces (update_words u) ++ flat_map later_update (drop 1 us) ≡ after_spaces (updates_words us) =
    ap (λ v. after_spaces (update_words v) ++ flat_map later_update (drop 1 us)) c.update.ensures ∙ some_updates us u c.requires in
    subst (λ (t : List ℕ). Puts g.W.Output c.args.output.now c.put_later.new.output t c.put_later.result) whole
    (puts_more g.W.Output c.args.output.now c.put_update.new.output c.put_later.new.output (after_spaces (update_words u)) (flat_map later_update (drop 1 us)) c.put_later.result c.in_ok-put_update.ensures c.put_later.ensures)

pub returns-in_err-put_update : goal.returns-in_err-put_update
returns-in_err-put_update g c =
    let us = c.args.mutation.now.updates in
    let u = c.update.result in
    let whole : after_spaces (update_words u) ++ flat_map later_update (drop 1 us) ≡ after_spaces (updates_words us) =
    ap (λ v. after_spaces (update_words v) ++ flat_map later_update (drop 1 us)) c.update.ensures ∙ some_updates us u c.requires in
    let part : HasPutPart g.W.Output c.args.output.now c.put_update.new.output (after_spaces (updates_words us)) =
    subst (λ (t : List ℕ). HasPutPart g.W.Output c.args.output.now c.put_update.new.output t) whole
    (part_longer {t = after_spaces (update_words u)} (flat_map later_update (drop 1 us)) c.in_err-put_update.ensures) in
    search (rules, part)
