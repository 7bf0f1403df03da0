use Rattle.std.proofs.Common.{rules, ℕ, List, ◌++◌, subst}
use Rattle.tab_io.specs.Writing.{HasPut, HasPutPart, Puts}
use Rattle.tab_io.proofs.Putting.{puts_more, part_longer}
use Rattle.tab_image.specs.declared.table.ImageRight.{ImageRight}
use Rattle.tab_image.specs.Spelling.{field, counted, right_bytes}
use Rattle.tab_image.proofs.writing.put_lists.Goals as goal

pub returns : goal.returns
returns g c = puts_more g.W.Output c.args.output.now c.put_list.new.output c.put_list-2.new.output (counted right_bytes c.args.head.now.rights) (counted field c.args.head.now.ends) c.put_list-2.result (subst (λ (xs : List ImageRight). HasPut g.W.Output c.args.output.now c.put_list.new.output (counted right_bytes xs)) c.as_slice.ensures c.in_ok-put_list.ensures) (subst (λ (xs : List (List ℕ)). Puts g.W.Output c.put_list.new.output c.put_list-2.new.output (counted field xs) c.put_list-2.result) c.as_slice-2.ensures c.put_list-2.ensures)

pub returns-in_err-put_list : goal.returns-in_err-put_list
returns-in_err-put_list g c =
    let part : HasPutPart g.W.Output c.args.output.now c.put_list.new.output ((counted right_bytes c.args.head.now.rights) ++ (counted field c.args.head.now.ends)) = part_longer {t = counted right_bytes c.args.head.now.rights} (counted field c.args.head.now.ends) (subst (λ (xs : List ImageRight). HasPutPart g.W.Output c.args.output.now c.put_list.new.output (counted right_bytes xs)) c.as_slice.ensures c.in_err-put_list.ensures) in
    search (rules, part)
