-- A number that is there tells of its label.
use Rattle.std.proofs.Common.{rules, ◌≡◌, ◌∙◌, subst, sym, arith}
use Rattle.std.proofs.lemmas.Bool.Decides.{nat_tests}
use Rattle.tab_iter.specs.Verdicts.{AreTold, told_number}
use Rattle.tab_iter.proofs.ShortLabels.{told_at}
use Rattle.tab_iter.proofs.verdicts.Verdicts.is_known.Goals as goal

pub returns-in-Some : goal.returns-in-Some
returns-in-Some c =
    let found = c.in-Some.ensures.lookup in
    let lent : c.deref.result.now ≡ c.args.self.now.numbers.items = search rules in
    λ t auths label s at.
    let same : c.in-Some.number.now ≡ told_number c.args.word c.args.holds = grind (arith, nat_tests, t) ∙ c.told_number.ensures in
    told_at auths c.deref.result.now c.short_slot.result c.in-Some.number.now found.3.0 found.1 (subst (AreTold auths) (sym lent) s.1) c.args.holds c.args.word label same at
