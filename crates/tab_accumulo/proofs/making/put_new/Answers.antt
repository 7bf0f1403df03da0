use Rattle.std.proofs.Common.{rules, ℕ, List, ◌++◌}
use Rattle.tab_io.specs.Writing.{HasPutPart}
use Rattle.tab_io.proofs.Putting.{part_longer, puts_more}
use Rattle.tab_image.specs.declared.table.TableHead.{TableHead}
use Rattle.tab_accumulo.specs.Lines.{leaving_text, creating_text, bare_text, time_text}
use Rattle.tab_accumulo.proofs.making.put_new.Goals as goal

pub returns-in_err-put_leaving : goal.returns-in_err-put_leaving
returns-in_err-put_leaving g c =
    let h : TableHead = c.args.head.now in
    let t : List ℕ = leaving_text in
    let rest : List ℕ = creating_text h ++ (bare_text h ++ time_text h) in
    let part : HasPutPart g.W.Output c.args.output.now c.put_leaving.new.output (t ++ rest) = part_longer {t = t} rest c.in_err-put_leaving.ensures in
    search (rules, part)

pub returns : goal.returns
returns g c =
    let h : TableHead = c.args.head.now in
    puts_more g.W.Output c.args.output.now c.put_leaving.new.output c.put_made.new.output (leaving_text) (creating_text h ++ (bare_text h ++ time_text h)) c.put_made.result c.in_ok-put_leaving.ensures c.put_made.ensures
