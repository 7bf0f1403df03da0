-- For proofs. The verdicts that a session keeps.
use Rattle.std.specs.Prelude.{ℕ, List, Option, Some, None, IfSome}
use Rattle.std.specs.Coded.{Unit-prop}
use Rattle.tab_iter.specs.Propositions.{IsSound-prop}
use Rattle.tab_iter.specs.Verdicts.{IsSound}
use Rattle.tab_session.specs.declared.kept_verdicts.KeptVerdicts.{KeptVerdicts}

-- what is kept, if anything, is right under these authorizations
abbrev pub AreSound : List (List ℕ) → KeptVerdicts → Type 0
AreSound auths v = IfSome v.kept (λ kept. IsSound auths kept.value)

if_some-prop : {A : Type 0} {P : A → Type 0} → ((x : A) → IsProp (P x)) → (o : Option A) → IsProp (IfSome o P)
if_some-prop each None = Unit-prop
if_some-prop each (Some x) = each x

pub AreSound-prop : (auths : List (List ℕ)) (v : KeptVerdicts) → IsProp (AreSound auths v)
AreSound-prop auths v = if_some-prop (λ kept. IsSound-prop auths kept.value) v.kept
