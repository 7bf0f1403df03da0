use Rattle.tab_mem.specs.Groups.{count_in}
use Rattle.tab_mem.proofs.Spanned.{first_there}
use Rattle.tab_mem.proofs.sorting.group.Group.new.Goals as goal

pub at-first-requires : goal.at-first-requires
at-first-requires c = first_there c.args.bytes.now (count_in c.args.bytes.now) c.requires.some c.requires.filled.at
