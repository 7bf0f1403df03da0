-- For proofs. A core that answers the requests of one connection: what it is seen to hold, and what one request does.
use Rattle.std.specs.Prelude.{ℕ, ℤ, ◌≡◌, List}
use Rattle.tab_history.specs.Answers.{Told}
use Rattle.tab_wire.specs.declared.request.Request.{Request}
use Rattle.tab_serve.specs.declared.core_service.CoreService.{CoreService}
use Rattle.tab_serve.specs.Serves.{Served, Serves}

-- the core, the sessions and the moments that are lent to it
abbrev pub served : {M : Type 0} → CoreService M → Served M
served s = record { core = s.core.now; slots = s.slots.now; moments = s.moments.now }

-- the same core and the same moments are lent to it
pub record LentSame {M : Type 0} (old new : CoreService M) : Type 0 where
  pub core : new.core.ghost_name ≡ old.core.ghost_name
  pub moments : new.moments.ghost_name ≡ old.moments.ghost_name

-- what it may tell this user of this request, and what it is afterwards
pub record CoreAnswers {M : Type 0} (gives : M → ℤ → M → Type 0) (old : CoreService M) (user : List ℕ) (request : Request) (reply : Told) (new : CoreService M) : Type 0 where
  pub serves : Serves gives (served old) user request reply (served new)
  pub lent : LentSame old new
