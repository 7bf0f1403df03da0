use Rattle.std.proofs.Common.{◌≡◌, Some, false, rules}
use Rattle.tab_policy.specs.Permissions.{same_table}
use Rattle.tab_policy.specs.Entries.{at_name, same_life}
use Rattle.tab_policy.proofs.RightsLemmas.{same_tables, written_rights}
use Rattle.tab_policy.proofs.rights.take.Goals as goal

pub returns-in-Some-clause-tables : goal.returns-in-Some-clause-tables
returns-in-Some-clause-tables c =
    let had : at_name c.args.table.now c.args.tables.now.entries ≡ Some c.in-Some.rights.now = search rules in
    let after = (c.get_mut.follows.holds c.take.new.self).3 (search rules) in
    λ t. same_tables c.args.table.now t c.args.tables.now.entries _ c.in-Some.rights.now c.take.new.self had (after.0 t)

pub returns-in-Some-clause-rights : goal.returns-in-Some-clause-rights
returns-in-Some-clause-rights c =
    let had : at_name c.args.table.now c.args.tables.now.entries ≡ Some c.in-Some.rights.now = search rules in
    let after = (c.get_mut.follows.holds c.take.new.self).3 (search rules) in
    λ t l p. written_rights c.args.table.now t c.args.tables.now.entries _ c.in-Some.rights.now c.take.new.self l p (same_life c.args.life l) (same_table c.args.permission p) false had (after.0 t) (c.take.ensures l p)
