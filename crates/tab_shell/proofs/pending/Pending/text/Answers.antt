use Rattle.std.proofs.Common.{◌≡◌, ◌∙◌, rules}
use Rattle.tab_shell.proofs.PendingLemmas.{text_is}
use Rattle.tab_shell.proofs.pending.Pending.text.Goals as goal

pub returns-else-self : goal.returns-else-self
returns-else-self c gone h =
    let lent : c.deref.result.now ≡ c.args.self.now.bytes.items = search rules in
    lent ∙ text_is c.args.self.now gone c.if-self.false h
