-- For proofs. Two rules, one behind the other, as one.
use Rattle.std.specs.Prelude.{◌≡◌, Option, Some, None, List, ◌∷◌, Bool, true, false, ◌&&◌, filter}
use Rattle.tab_key.specs.Records.{Key, Record}
use Rattle.tab_iter.specs.Lists.{IsEnd}

-- what the second lets through of what the first lets through
abbrev pub admits_both : (List Record → Record → Bool) → (List Record → Record → Bool) → List Record → Record → Bool
admits_both p q w u = p w u && q (filter (p w) w) u

-- each has observed what it needs, the second of what the first lets through; and whether the first let the record through that
-- was observed last, if that is known
pub record HaveObserved (p : List Record → Record → Bool) (F S : List Record → List Record → Type 0) (passed : Option Bool) (w rs : List Record) : Type 0 where
  pub first : ∥ F w rs ∥₁
  pub second : ∥ S (filter (p w) w) (filter (p w) rs) ∥₁
  pub told : (b : Bool) → passed ≡ Some b → (u : Record) → IsEnd (u ∷ rs) w → p w u ≡ b

-- the target of the one that holds the record back
abbrev pub aim_of : Option Bool → Key → Key → Key
aim_of None a b = a
aim_of (Some false) a b = a
aim_of (Some true) a b = b
