use Rattle.std.proofs.Common.{◌≡◌, ℤ, to_z, of_z, w64, sym, subst, rules}
use Rattle.std.specs.Int.{int_max}
use Rattle.tab_core.specs.declared.store.Store.{Store}
use Rattle.tab_core.specs.Holding.{held}
use Rattle.tab_core.specs.Stepping.{IsCore}
use Rattle.tab_core.proofs.Raised.{core_raised}
use Rattle.tab_core.proofs.base.Base.raise.Goals as goal

pub invariant_of-self : goal.invariant_of-self
invariant_of-self c =
    let store : Store = c.self.inside.store.value in
    let most : to_z w64 (of_z w64 c.max.result) ≡ int_max store.clock c.args.moment = search rules in
    let same : c.deref_mut.result.now ≡ store = search rules in
    subst (λ (s : Store). IsCore (held (record s { clock = to_z w64 (of_z w64 c.max.result) }))) (sym same)
    (subst (λ (k : ℤ). IsCore (held (record store { clock = k }))) (sym most) (core_raised (held store) c.args.moment c.self.invariant))
