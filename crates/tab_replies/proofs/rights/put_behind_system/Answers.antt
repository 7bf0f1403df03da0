use Rattle.std.proofs.Common.{◌++◌, rules}
use Rattle.std.specs.Prelude.{codes}
use Rattle.std.specs.List.{flat_map}
use Rattle.tab_replies.specs.Texts.{auth_text, table_text}
use Rattle.tab_io.proofs.Putting.{puts_more, part_longer}
use Rattle.tab_replies.proofs.rights.put_behind_system.Goals as goal

pub returns : goal.returns
returns g c = puts_more g.W.Output c.args.output.now c.put_table.new.output c.put_behind_table.new.output (table_text c.args.rights.now.table) (flat_map auth_text c.args.rights.now.authorizations ++ codes "end\n") c.put_behind_table.result c.in_ok-put_table.ensures c.put_behind_table.ensures

pub returns-in_err-put_table : goal.returns-in_err-put_table
returns-in_err-put_table g c =
    let part = part_longer {t = table_text c.args.rights.now.table} (flat_map auth_text c.args.rights.now.authorizations ++ codes "end\n") c.in_err-put_table.ensures in
    search (rules, part)
