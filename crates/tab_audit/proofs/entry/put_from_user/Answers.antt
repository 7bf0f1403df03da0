use Rattle.std.proofs.Common.{ℕ, List, [], ◌∷◌, ◌++◌, rules}
use Rattle.std.specs.Prelude.{codes}
use Rattle.tab_io.specs.Writing.{HasPutPart}
use Rattle.tab_io.proofs.Putting.{puts_more, part_longer}
use Rattle.tab_text.specs.Words.{word}
use Rattle.tab_text.specs.Lines.{line_text}
use Rattle.tab_core.specs.EventReplies.{told_in}
use Rattle.tab_audit.specs.Words.{act_words}
use Rattle.tab_audit.specs.Entries.{is_replayed, mark, told_text}
use Rattle.tab_audit.proofs.entry.put_from_user.Goals as goal

pub returns : goal.returns
returns g c =
    let told = told_in c.args.told.now in
    let act = c.args.event.now.act in
    puts_more g.W.Output c.args.output.now c.put_user.new.output c.put_from_mark.new.output (line_text (codes "as" ∷ word c.args.event.now.user ∷ []))
    (mark (is_replayed act told) ++ (line_text (act_words act) ++ (codes "# " ++ told_text told))) c.put_from_mark.result c.in_ok-put_user.ensures c.put_from_mark.ensures

pub returns-in_err-put_user : goal.returns-in_err-put_user
returns-in_err-put_user g c =
    let told = told_in c.args.told.now in
    let act = c.args.event.now.act in
    let front : List ℕ = line_text (codes "as" ∷ word c.args.event.now.user ∷ []) in
    let rest : List ℕ = mark (is_replayed act told) ++ (line_text (act_words act) ++ (codes "# " ++ told_text told)) in
    let part : HasPutPart g.W.Output c.args.output.now c.put_user.new.output (front ++ rest) = part_longer {t = front} rest c.in_err-put_user.ensures in
    search (rules, part)
