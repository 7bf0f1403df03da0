use Rattle.std.proofs.Common.{◌++◌, rules}
use Rattle.std.specs.Prelude.{codes}
use Rattle.std.specs.List.{flat_map}
use Rattle.tab_replies.specs.Texts.{auth_text, system_text, table_text}
use Rattle.tab_io.proofs.Putting.{puts_more, part_longer}
use Rattle.tab_replies.proofs.rights.put_rights.Goals as goal

pub returns : goal.returns
returns g c = puts_more g.W.Output c.args.output.now c.put_system.new.output c.put_behind_system.new.output (system_text c.args.rights.now.system) (table_text c.args.rights.now.table ++ (flat_map auth_text c.args.rights.now.authorizations ++ codes "end\n")) c.put_behind_system.result c.in_ok-put_system.ensures c.put_behind_system.ensures

pub returns-in_err-put_system : goal.returns-in_err-put_system
returns-in_err-put_system g c =
    let part = part_longer {t = system_text c.args.rights.now.system} (table_text c.args.rights.now.table ++ (flat_map auth_text c.args.rights.now.authorizations ++ codes "end\n")) c.in_err-put_system.ensures in
    search (rules, part)
