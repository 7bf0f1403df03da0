use Rattle.std.proofs.Common.{◌≡◌, ◌&&◌, ◌∙◌, Some, true, cond, ap, sym, rules, bytes_eq, is_some}
use Rattle.std.proofs.lemmas.Result.{on_ok_weaker, on_err_weaker}
use Rattle.std.proofs.lemmas.Map.Steps.{set_value_same}
use Rattle.std.specs.Ordering.{is_eq}
use Rattle.tab_key.specs.Bytes.{bytes_cmp}
use Rattle.tab_policy.specs.Permissions.{same_table}
use Rattle.tab_policy.specs.Entries.{at_name, same_life}
use Rattle.tab_policy.specs.State.{table_gives}
use Rattle.tab_policy.proofs.RightsLemmas.{same_tables, written_rights, written_bare}
use Rattle.tab_policy.proofs.rights.give.Goals as goal

pub returns-in-Some-clause-tables : goal.returns-in-Some-clause-tables
returns-in-Some-clause-tables c =
    let had : at_name c.args.table.now c.args.tables.now.entries ≡ Some c.in-Some.rights.now = search rules in
    let after = (c.get_mut.follows.holds c.give.new.self).3 (search rules) in
    λ t. same_tables c.args.table.now t c.args.tables.now.entries _ c.in-Some.rights.now c.give.new.self had (after.0 t)

pub returns-in-Some-clause-living : goal.returns-in-Some-clause-living
returns-in-Some-clause-living c =
    let had : at_name c.args.table.now c.args.tables.now.entries ≡ Some c.in-Some.rights.now = search rules in
    let after = (c.get_mut.follows.holds c.give.new.self).3 (search rules) in
    on_ok_weaker c.give.result
    (λ given t l p lives. written_rights c.args.table.now t c.args.tables.now.entries _ c.in-Some.rights.now c.give.new.self l p (same_life c.args.life l) (same_table c.args.permission p) true had (after.0 t) (given l p lives)
    ∙ sym (ap (λ o. cond (is_some o && (same_life c.args.life l && (same_table c.args.permission p && bytes_eq c.args.table.now t))) true (table_gives (at_name t c.args.tables.now.entries) (Some l) p)) had))
    c.give.ensures.living

pub returns-in-Some-clause-bare : goal.returns-in-Some-clause-bare
returns-in-Some-clause-bare c =
    let had : at_name c.args.table.now c.args.tables.now.entries ≡ Some c.in-Some.rights.now = search rules in
    let after = (c.get_mut.follows.holds c.give.new.self).3 (search rules) in
    λ t l p another. written_bare c.args.table.now t c.args.tables.now.entries _ c.in-Some.rights.now c.give.new.self l p had (after.0 t) (c.give.ensures.bare l p another)

pub returns-in-Some-clause-err : goal.returns-in-Some-clause-err
returns-in-Some-clause-err c =
    let had : at_name c.args.table.now c.args.tables.now.entries ≡ Some c.in-Some.rights.now = search rules in
    let after = (c.get_mut.follows.holds c.give.new.self).0 in
    on_err_weaker c.give.result
    (λ same. after ∙ set_value_same (λ m. is_eq (bytes_cmp c.args.table.now m)) c.args.tables.now.entries c.give.new.self (had ∙ sym (ap Some same)))
    c.give.ensures.err
