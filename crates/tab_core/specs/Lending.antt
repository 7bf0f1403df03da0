-- For proofs. What is left of the sessions of all users once those of one of them, which were lent, have ended.
use Rattle.std.specs.Prelude.{ℕ, ◌≡◌, List, Option, Some, OnSome}
use Rattle.std.specs.Borrow.{MutBor, Fml, LendsSo}
use Rattle.tab_policy.specs.Entries.{at_name}
use Rattle.tab_core.specs.declared.sessions.UserSessions.{UserSessions}
use Rattle.tab_core.specs.contracts.sessions.UserSessions.{the_row as kept_row}
use Rattle.tab_core.specs.contracts.sessions.Sessions.{the_row}
use Rattle.tab_core.specs.Sessions.{Keeping, kept_of, KeepsFor}

-- This is kept for the user now, and all is as it was where that was kept for him.
pub record Leaves (user : List ℕ) (old : Keeping) (kept : UserSessions) (new : Keeping) : Type 0 where
  pub keeps : KeepsFor user kept old new
  pub same : at_name user old ≡ Some kept → new ≡ old

-- what is kept for the user is lent, if he is there
abbrev pub LendsFound : MutBor Keeping → List ℕ → Option (MutBor UserSessions) → Fml
LendsFound s user r = LendsSo the_row kept_row s r (λ new kept. OnSome r (Leaves user s.now kept new)) (λ new. new ≡ s.now)

-- the same whether he was there or not; where there is none, nothing changes for anybody
abbrev pub LendsKept : MutBor Keeping → List ℕ → Option (MutBor UserSessions) → Fml
LendsKept s user r = LendsSo the_row kept_row s r (λ new kept. OnSome r (KeepsFor user kept s.now new)) (λ new. (n : List ℕ) → kept_of new n ≡ kept_of s.now n)
