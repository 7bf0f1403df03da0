use Rattle.std.proofs.Common.{◌∙◌, ◌+◌, ◌*◌, ◌≤◌, sym, ap, subst, length, arith}
use Rattle.tab_key.proofs.Sequence.{many_fit}
use Rattle.tab_mem.proofs.Filled.{count_is}
use Rattle.tab_mem.proofs.partitions.unsorted.Unsorted.len.Goals as goal

pub returns-clause-len : goal.returns-clause-len
returns-clause-len c = sym (count_is c.self.inside.body.items c.self.inside.count) ∙ ap length c.self.view_is

pub returns-clause-few : goal.returns-clause-few
returns-clause-few c =
    let body = c.self.inside.body in
    let all : 0 + 41 * c.self.inside.count ≤ length body.items = subst (λ n. 0 + 41 * c.self.inside.count ≤ n) c.self.invariant.ends (many_fit body.items 0 c.self.inside.count) in
    omega (arith, all, body.ok.0, body.ok.1, body.small)
