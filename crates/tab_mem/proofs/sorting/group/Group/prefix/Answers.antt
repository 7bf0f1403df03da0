use Rattle.tab_mem.specs.Groups.{count_in}
use Rattle.tab_mem.proofs.Spanned.{group_prefix}
use Rattle.tab_mem.proofs.sorting.group.Group.prefix.Goals as goal

pub returns : goal.returns
returns c = group_prefix c.self.inside.prefix c.self.inside.bytes.now (count_in c.self.inside.bytes.now) c.args.self.now c.self.invariant c.self.view_is
