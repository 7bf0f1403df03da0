use Rattle.std.proofs.Common.{◌∙◌, ap}
use Rattle.tab_key.specs.Records.{Record}
use Rattle.tab_mem.specs.Groups.{count_in}
use Rattle.tab_mem.proofs.Spanned.{first_there, group_first}
use Rattle.tab_mem.proofs.sorting.group.Group.row.Goals as goal

pub at-requires : goal.at-requires
at-requires c = first_there c.self.inside.bytes.now (count_in c.self.inside.bytes.now) c.self.invariant.some c.self.invariant.filled.at

pub returns : goal.returns
returns c =
    c.row.ensures
    ∙ ap (λ (u : Record). u.key.row) c.at.ensures
    ∙ group_first c.self.inside.prefix c.self.inside.bytes.now (count_in c.self.inside.bytes.now) c.args.self.now c.self.invariant c.self.view_is
