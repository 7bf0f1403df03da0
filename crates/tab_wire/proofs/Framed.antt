-- What a frame asks in its turn is what its bytes ask.
use Rattle.std.proofs.Common.{◌≡◌, ℕ, Bool, true, false, cond, List, [], ◌∷◌, Option, Some, None, refl, sym, ap, ◌∙◌}
use Rattle.std.specs.Prelude.{Result, Ok, Err}
use Rattle.tab_codec.specs.Reading.{◌>>=◌, whole}
use Rattle.tab_wire.specs.declared.opcode.Opcode.{Opcode}
use Rattle.tab_wire.specs.declared.reason.Reason.{Reason}
use Rattle.tab_wire.specs.declared.reason.Reason.TheVariants as reason
use Rattle.tab_wire.specs.declared.request.Request.{Request}
use Rattle.tab_wire.specs.Requests.{opcode_of, fields_at, request_in, is_in_turn, or_field, asked_by, request_of}

ok_same : (x y : Request) (a b : Result Request Reason) → a ≡ Ok x → b ≡ Ok y → a ≡ b → x ≡ y
ok_same x y a b p q is =
    let or_x : Result Request Reason → Request = λ r. elim r [ Ok z ↦ z | Err e ↦ x ] in
    ap or_x (sym p ∙ is ∙ q)

from_field : (o : Option Request) (r : Request) → or_field o ≡ Ok r → o ≡ Some r
from_field None r is = absurd cc
from_field (Some x) r is = ap (λ (z : Request). Some z) (ok_same x r (or_field (Some x)) (Ok r) refl refl is)

by_turn : (b : Bool) (o : Option Request) (r : Request) → cond b (or_field o) (Err reason.Order) ≡ Ok r → o ≡ Some r
by_turn true o r is = from_field o r is
by_turn false o r is = absurd cc

by_opcode : (greeted : Bool) (o : Option Opcode) (fields : List ℕ) (r : Request) → asked_by greeted o fields ≡ Ok r → (o >>= λ opcode. whole (fields_at opcode fields)) ≡ Some r
by_opcode greeted None fields r is = absurd cc
by_opcode greeted (Some o) fields r is = by_turn (is_in_turn greeted o) (whole (fields_at o fields)) r is

pub asked_so : (greeted : Bool) (bytes : List ℕ) (r : Request) → request_of greeted bytes ≡ Ok r → request_in bytes ≡ Some r
unfolding request_of request_in
asked_so greeted [] r is = absurd cc
asked_so greeted (op ∷ fields) r is = by_opcode greeted (opcode_of op) fields r is
