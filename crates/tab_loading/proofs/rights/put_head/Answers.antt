use Rattle.std.proofs.lemmas.Result.{on_ok_weaker}
use Rattle.tab_loading.proofs.PuttingRights.{puts_head}
use Rattle.tab_loading.proofs.rights.put_head.Goals as goal

pub returns : goal.returns
returns c = on_ok_weaker c.put_rights.result (puts_head c.args.head.now c.as_slice.result.now c.args.policy.now c.put_table.new.self c.put_rights.new.policy c.as_slice.ensures c.in_ok-put_table.ensures.ok) c.put_rights.ensures
