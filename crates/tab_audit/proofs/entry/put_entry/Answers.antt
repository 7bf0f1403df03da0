use Rattle.std.proofs.Common.{ℕ, ℤ, ◌≡◌, List, [], ◌∷◌, ◌++◌, subst, rules, to_z, of_z, w64}
use Rattle.std.specs.Prelude.{codes}
use Rattle.std.specs.Int.{int_max}
use Rattle.std.specs.Fmt.{signed_decimal}
use Rattle.tab_io.specs.Writing.{HasPut, HasPutPart}
use Rattle.tab_io.proofs.Putting.{puts_more, part_longer}
use Rattle.tab_text.specs.Words.{word}
use Rattle.tab_text.specs.Lines.{line_text}
use Rattle.tab_core.specs.EventReplies.{told_in}
use Rattle.tab_audit.specs.Words.{act_words}
use Rattle.tab_audit.specs.Entries.{is_replayed, mark, told_text}
use Rattle.tab_audit.proofs.entry.put_entry.Goals as goal

pub returns : goal.returns
returns g c =
    let told = told_in c.args.told.now in
    let act = c.args.event.now.act in
    let trip : to_z w64 (of_z w64 c.args.clock) ≡ c.args.clock = search rules in
    let at : HasPut g.W.Output c.args.output.now c.put_moment.new.output (line_text (codes "at" ∷ signed_decimal (int_max c.args.clock c.args.event.now.moment) ∷ [])) =
    subst (λ (z : ℤ). HasPut g.W.Output c.args.output.now c.put_moment.new.output (line_text (codes "at" ∷ signed_decimal (int_max z c.args.event.now.moment) ∷ []))) trip c.in_ok-put_moment.ensures in
    puts_more g.W.Output c.args.output.now c.put_moment.new.output c.put_from_user.new.output (line_text (codes "at" ∷ signed_decimal (int_max c.args.clock c.args.event.now.moment) ∷ []))
    (line_text (codes "as" ∷ word c.args.event.now.user ∷ []) ++ (mark (is_replayed act told) ++ (line_text (act_words act) ++ (codes "# " ++ told_text told)))) c.put_from_user.result at c.put_from_user.ensures

pub returns-in_err-put_moment : goal.returns-in_err-put_moment
returns-in_err-put_moment g c =
    let told = told_in c.args.told.now in
    let act = c.args.event.now.act in
    let front : List ℕ = line_text (codes "at" ∷ signed_decimal (int_max c.args.clock c.args.event.now.moment) ∷ []) in
    let rest : List ℕ = line_text (codes "as" ∷ word c.args.event.now.user ∷ []) ++ (mark (is_replayed act told) ++ (line_text (act_words act) ++ (codes "# " ++ told_text told))) in
    let trip : to_z w64 (of_z w64 c.args.clock) ≡ c.args.clock = search rules in
    let at : HasPutPart g.W.Output c.args.output.now c.put_moment.new.output front =
    subst (λ (z : ℤ). HasPutPart g.W.Output c.args.output.now c.put_moment.new.output (line_text (codes "at" ∷ signed_decimal (int_max z c.args.event.now.moment) ∷ []))) trip c.in_err-put_moment.ensures in
    let part : HasPutPart g.W.Output c.args.output.now c.put_moment.new.output (front ++ rest) = part_longer {t = front} rest at in
    search (rules, part)
