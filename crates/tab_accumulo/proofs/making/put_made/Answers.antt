use Rattle.std.proofs.Common.{rules, ℕ, List, ◌++◌}
use Rattle.tab_io.specs.Writing.{HasPutPart}
use Rattle.tab_io.proofs.Putting.{part_longer, puts_more}
use Rattle.tab_image.specs.declared.table.TableHead.{TableHead}
use Rattle.tab_accumulo.specs.Lines.{creating_text, bare_text, time_text}
use Rattle.tab_accumulo.proofs.making.put_made.Goals as goal

pub returns-in_err-put_created : goal.returns-in_err-put_created
returns-in_err-put_created g c =
    let h : TableHead = c.args.head.now in
    let t : List ℕ = creating_text h in
    let rest : List ℕ = bare_text h ++ time_text h in
    let part : HasPutPart g.W.Output c.args.output.now c.put_created.new.output (t ++ rest) = part_longer {t = t} rest c.in_err-put_created.ensures in
    search (rules, part)

pub returns : goal.returns
returns g c =
    let h : TableHead = c.args.head.now in
    puts_more g.W.Output c.args.output.now c.put_created.new.output c.put_settled.new.output (creating_text h) (bare_text h ++ time_text h) c.put_settled.result c.in_ok-put_created.ensures c.put_settled.ensures
