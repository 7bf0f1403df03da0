-- Who may ask what was asked in its turn.
use Rattle.std.proofs.Common.{◌≡◌, ℕ, ◌<◌, List, [], ◌∷◌, Option, Some, None, refl, arith}
use Rattle.std.specs.Prelude.{Ok, true, is_some, unwrap_or, IfSome}
use Rattle.tab_codec.specs.Parts.{IsBytes}
use Rattle.tab_wire.specs.declared.request.Request.{Request}
use Rattle.tab_wire.specs.declared.request.Request.TheVariants as asks
use Rattle.tab_wire.specs.Requests.{request_of}
use Rattle.tab_wire.specs.Forms.{InTurn, IsRequest, hello}
use Rattle.tab_wire.specs.Asking.{IsBy, MayAsk}
use Rattle.tab_wire.proofs.ReasonLaw.{requests_in_turn}

-- the first byte of Hello is 1, and that of all else is greater
abbrev Begins : List ℕ → Request → Type 0
Begins [] request = ⊥
Begins (op ∷ fields) (asks.Hello user) = op ≡ 1
Begins (op ∷ fields) request = 1 < op

begins : (bytes : List ℕ) (request : Request) → IsRequest bytes request → Begins bytes request
begins bytes request (hello u user h) = refl
begins bytes request form = omega arith

-- Hello is asked where nobody said it, and all else where somebody did
pub may_ask : (user : Option (List ℕ)) (frame : List ℕ) (request : Request) → IsBytes frame → request_of (is_some user) frame ≡ Ok request → MayAsk user request
unfolding request_of
may_ask user [] request fits is = absurd cc
may_ask user (op ∷ fields) request fits is =
    let turn = (requests_in_turn (is_some user) op fields request fits).0 is in
    by_user user request turn.1 (begins (op ∷ fields) request turn.0)
  where
    by_user : (u : Option (List ℕ)) (r : Request) → InTurn (is_some u) op → Begins (op ∷ fields) r → MayAsk u r
    by_user None (asks.Hello name) turn first = refl
    by_user None r turn first = absurd (omega (arith, turn, first))
    by_user (Some u) (asks.Hello name) turn first = absurd (turn first)
    by_user (Some u) r turn first = refl

-- the request is one of the user who is known then
pub asked_by_known : (before after : Option (List ℕ)) (request : Request) → is_some after ≡ true → IfSome after (λ user. IsBy before user request)
    → IsBy before (unwrap_or after []) request × (after ≡ Some (unwrap_or after []))
asked_by_known before None request known by = absurd cc
asked_by_known before (Some user) request known by = (by, refl)
