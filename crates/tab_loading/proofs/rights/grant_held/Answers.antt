use Rattle.std.proofs.Common.{rules, ◌≡◌, true}
use Rattle.std.proofs.lemmas.Result.{on_ok_weaker}
use Rattle.tab_policy.specs.Sets.{table_contains}
use Rattle.tab_loading.proofs.Granting.{grants_one_on}
use Rattle.tab_loading.proofs.rights.grant_held.Goals as goal

pub returns : goal.returns
returns c =
    let held : table_contains c.args.held c.args.permission ≡ true = search rules in
    on_ok_weaker c.grant.result (grants_one_on c.args.table.now c.args.user.now c.args.held c.args.policy.now c.grant.new.self c.args.permission held) c.grant.ensures.ok
