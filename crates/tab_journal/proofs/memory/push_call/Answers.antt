use Rattle.std.proofs.Common.{◌∙◌, ap}
use Rattle.tab_journal.specs.Memory.{call_in, history}
use Rattle.tab_journal.proofs.Calling.{newest_first}
use Rattle.tab_journal.proofs.memory.push_call.Goals as goal

pub returns-clause-kept : goal.returns-clause-kept
returns-clause-kept c = ap history c.in_ok-push.ensures.items ∙ newest_first call_in c.args.calls.now.items _
