use Rattle.std.proofs.Common.{◌∷◌, [], ◌∙◌, sym, ap}
use Rattle.tab_key.specs.Records.{Record}
use Rattle.tab_mem.specs.Groups.{count_in}
use Rattle.tab_mem.proofs.Spanned.{only_own, only_record}
use Rattle.tab_mem.proofs.sorting.group.Group.only.Goals as goal

pub with_prefix-requires : goal.with_prefix-requires
with_prefix-requires c = only_own c.self.inside.prefix c.self.inside.bytes.now (count_in c.self.inside.bytes.now) c.args.self.now c.self.invariant c.self.view_is c.requires

pub returns : goal.returns
returns c =
    only_record c.self.inside.prefix c.self.inside.bytes.now (count_in c.self.inside.bytes.now) c.args.self.now c.self.invariant c.self.view_is c.requires
    ∙ ap (λ (u : Record). u ∷ []) (sym c.with_prefix.ensures)
