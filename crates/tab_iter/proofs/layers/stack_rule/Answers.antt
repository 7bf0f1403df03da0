-- Each rule is asked as the definition says, of what those before it let through.
use Rattle.tab_iter.proofs.StackLaws.{rule_chain}
use Rattle.tab_iter.proofs.layers.stack_rule.Goals as goal

pub returns : goal.returns
returns c = rule_chain c.args.versions _ _ _ c.args.columns.now _ c.args.auths.now _ _ _ _ c.new-undeleted.ensures c.new.ensures c.new-fetched.ensures c.new-2.ensures c.new-visible.ensures c.new-3.ensures.most c.new-3.ensures.keeps c.new-4.ensures
