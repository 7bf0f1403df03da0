use Rattle.std.proofs.Common.{◌≡◌, length, arith}
use Rattle.std.proofs.lemmas.Bool.Decides.{nat_tests}
use Rattle.tab_mem.proofs.Writing.{shared_alone}
use Rattle.tab_mem.proofs.active.Active.made.Goals as goal

pub returns : goal.returns
returns c =
    let a = c.self.inside in
    let none : length a.written ≡ 0 = grind (arith, nat_tests) in
    shared_alone c.share.result (λ r. r.value) a.written a.kept c.args.self.now none c.self.invariant c.self.view_is c.share.ensures
