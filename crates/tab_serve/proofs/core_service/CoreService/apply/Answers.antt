use Rattle.std.proofs.Common.{◌≡◌, ℤ, inr, refl, sym, subst, w64, to_z, of_z, rules}
use Rattle.tab_serve.proofs.core_service.CoreService.apply.Goals as goal

pub returns : goal.returns
returns g c =
    let moment : ℤ = to_z w64 (of_z w64 c.next-moment.result) in
    let same : moment ≡ c.next-moment.result = search rules in
    record {
      serves = inr (inr (record {
        shut = c.requires;
        moment = moment;
        gave = subst (λ (m : ℤ). g.M.Moments.gives c.args.self.now.moments.now m c.next-moment.new.self) (sym same) c.next-moment.ensures;
        answer = c.step_lent.result;
        steps = c.step_lent.ensures.steps;
        exact = c.step_lent.ensures.exact;
        told = c.told.ensures;
        slots = refl;
      }));
      lent = record { core = refl; moments = refl };
    }
