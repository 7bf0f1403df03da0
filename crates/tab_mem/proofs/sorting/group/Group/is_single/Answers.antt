use Rattle.std.proofs.Common.{◌≡◌, ◌∙◌, length, sym}
use Rattle.std.proofs.lemmas.Bool.{eqb-true}
use Rattle.tab_mem.specs.Groups.{count_in}
use Rattle.tab_mem.proofs.Spanned.{first_there, group_single}
use Rattle.tab_mem.proofs.sorting.group.Group.is_single.Goals as goal

pub end_of-requires : goal.end_of-requires
end_of-requires c = first_there c.self.inside.bytes.now (count_in c.self.inside.bytes.now) c.self.invariant.some c.self.invariant.filled.at

pub returns : goal.returns
returns c t =
    let ends : c.end_of.result ≡ length c.self.inside.bytes.now = eqb-true _ _ t in
    group_single c.self.inside.prefix c.self.inside.bytes.now (count_in c.self.inside.bytes.now) c.args.self.now c.self.invariant c.self.view_is (sym c.end_of.ensures ∙ ends)
