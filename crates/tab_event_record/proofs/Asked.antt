-- The act that is asked, if an act is asked.
use Rattle.std.proofs.Common.{◌≡◌, ℕ, Bool, true, false, cond, ◌==◌, List, length, Option, Some, None, refl, sym, ap, ◌∙◌}
use Rattle.std.specs.Prelude.{Result, Ok, Err, [], ◌∷◌}
use Rattle.tab_history.specs.declared.event.Act.{Act}
use Rattle.tab_codec.specs.Reading.{◌>>=◌, whole, name_at}
use Rattle.tab_codec.proofs.Exact.{some_inj}
use Rattle.tab_wire.specs.declared.opcode.Opcode.{Opcode}
use Rattle.tab_wire.specs.declared.opcode.Opcode.TheVariants.{Hello}
use Rattle.tab_wire.specs.declared.reason.Reason.{Reason}
use Rattle.tab_wire.specs.declared.request.Request.{Request}
use Rattle.tab_wire.specs.declared.request.Request.TheVariants as asks
use Rattle.tab_wire.specs.Requests.{opcode_of, fields_at, request_in, or_field, asked_by, request_of}
use Rattle.tab_event_record.specs.Records.{act_of}

-- ---- acts
-- the act that is asked, by what a frame asks behind Hello
abbrev pub act_when : Result Request Reason → Option Act
act_when (Ok request) = act_of (Some request)
act_when (Err reason) = None

by_field : (o : Option Request) → act_of o ≡ act_when (or_field o)
by_field None = refl
by_field (Some request) = refl

no_act : (o : Option (List ℕ × List ℕ)) → act_of (whole (o >>= λ x. Some (asks.Hello x.0, x.1))) ≡ None
no_act None = refl
no_act (Some x) = go (length x.1 == 0)
  where
    go : (b : Bool) → act_of (cond b (Some (asks.Hello x.0)) None) ≡ None
    go true = refl
    go false = refl

by_opcode : (o : Option Opcode) (fields : List ℕ) → act_of (o >>= λ opcode. whole (fields_at opcode fields)) ≡ act_when (asked_by true o fields)
by_opcode None fields = refl
by_opcode (Some Hello) fields = no_act (name_at fields)
by_opcode (Some opcode) fields = by_field (whole (fields_at opcode fields))

acts_are : (bytes : List ℕ) → act_of (request_in bytes) ≡ act_when (request_of true bytes)
unfolding request_in request_of
acts_are [] = refl
acts_are (op ∷ fields) = by_opcode (opcode_of op) fields

pub act_asked : (bytes : List ℕ) (r : Result Request Reason) → request_of true bytes ≡ r → act_when r ≡ act_of (request_in bytes)
act_asked bytes r is = ap act_when (sym is) ∙ sym (acts_are bytes)

pub asked_act : (o : Option Request) (a : Act) → act_of o ≡ Some a → o ≡ Some (asks.Act a)
asked_act (Some (asks.Act x)) a e = ap (λ (z : Act). Some (asks.Act z)) (some_inj x a e)
asked_act o a e = absurd cc
