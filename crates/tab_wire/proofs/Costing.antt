-- What calls cost a reader, one after another.
use Rattle.std.proofs.Common.{◌≡◌, Bool, true, inl, inr, subst, arith}
use Rattle.tab_io.specs.declared.reading.Input.{Ghosts}
use Rattle.tab_wire.specs.Taking.{Costs, CostsNoLess, Looked}

module _ {R : Type 0} (i : Ghosts R) (a b c : R) where
  pub costs_then : Costs i a b → CostsNoLess i b c → Costs i a c
  costs_then (inl spent) (inl more) = inl (omega (arith, spent, more))
  costs_then (inl spent) (inr more) = inl (omega (arith, spent, more.0))
  costs_then (inr taken) (inl more) = inl (omega (arith, taken.0, more))
  costs_then (inr taken) (inr more) = inr (omega (arith, taken.0, more.0), omega (arith, taken.1, more.1))

  pub then_costs : CostsNoLess i a b → Costs i b c → Costs i a c
  then_costs (inl spent) (inl more) = inl (omega (arith, spent, more))
  then_costs (inl spent) (inr more) = inl (omega (arith, spent, more.0))
  then_costs (inr taken) (inl more) = inl (omega (arith, taken.0, more))
  then_costs (inr taken) (inr more) = inr (omega (arith, taken.0, more.0), omega (arith, taken.1, more.1))

  pub both_cost : CostsNoLess i a b → CostsNoLess i b c → CostsNoLess i a c
  both_cost (inl spent) (inl more) = inl (omega (arith, spent, more))
  both_cost (inl spent) (inr more) = inl (omega (arith, spent, more.0))
  both_cost (inr taken) (inl more) = inl (omega (arith, taken.0, more))
  both_cost (inr taken) (inr more) = inr (omega (arith, taken.0, more.0), omega (arith, taken.1, more.1))

module _ {R : Type 0} (i : Ghosts R) (a b : R) where
  pub costs_some : Costs i a b → CostsNoLess i a b
  costs_some (inl spent) = inl spent
  costs_some (inr taken) = inr (taken.0, omega (arith, taken.1))

  -- where there are bytes
  pub looked_some : (found : Bool) → Looked i a b found → found ≡ true → CostsNoLess i a b
  looked_some found h is = subst (λ (t : Bool). Looked i a b t) is h
