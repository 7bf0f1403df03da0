-- Of the record that is lent.
use Rattle.std.proofs.Common.{◌∙◌, ap}
use Rattle.tab_mem.specs.Starts.{is_before}
use Rattle.tab_table.proofs.window.Window.precedes.Goals as goal

pub returns : goal.returns
returns c = λ blocks count u known. c.is_after.ensures ∙ ap (is_before c.args.target.now.start) (c.get.ensures blocks count u known)
