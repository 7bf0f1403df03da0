-- The bodies of what leaves something: each is that of a frame.
use Rattle.std.proofs.Common.{◌≡◌, ℕ, suc, true, List, ◌∷◌, Some, refl}
use Rattle.tab_history.specs.declared.event.Act.{Act}
use Rattle.tab_history.specs.declared.event.Act.TheVariants as act
use Rattle.tab_lasting.specs.Lasting.{leaves_trace}
use Rattle.tab_codec.specs.Parts.{IsBytes}
use Rattle.tab_wire.specs.Forms.{IsRequest}
use Rattle.tab_wire.specs.Requests.{request_in}
use Rattle.tab_wire.specs.Sending.{act_bytes}
use Rattle.tab_wire.specs.declared.request.Request.TheVariants as asks
use Rattle.tab_wire.proofs.RequestLaw.{requests_are_forms}
use Rattle.tab_event_record.specs.Records.{act_in, body_bytes}
use Rattle.tab_event_record.proofs.Asked.{asked_act}
use Rattle.tab_journal.specs.Bodies.{begins_lasting}

pub lasting_begins : (a : Act) → begins_lasting (body_bytes a) ≡ leaves_trace a
lasting_begins (act.Write t m) = refl
lasting_begins (act.Open scan) = refl
lasting_begins a = refl

asked_by : (op : ℕ) (fields : List ℕ) (a : Act) → act_in (suc op ∷ fields) ≡ Some a → IsBytes (suc op ∷ fields) → IsRequest (suc op ∷ fields) (asks.Act a)
unfolding act_in
asked_by op fields a read bytes = (requests_are_forms (suc op ∷ fields) (asks.Act a) bytes).0 (asked_act (request_in (suc op ∷ fields)) a read)

-- a frame asks what leaves something
pub asked : (a : Act) → leaves_trace a ≡ true → act_in (body_bytes a) ≡ Some a → IsBytes (body_bytes a) → IsRequest (body_bytes a) (asks.Act a)
asked (act.SplitBySize t row limit) leaves read bytes = absurd cc
asked act.Save leaves read bytes = absurd cc
asked act.Load leaves read bytes = absurd cc
asked (act.Begin t row kind) leaves read bytes = absurd cc
asked (act.Install t source) leaves read bytes = absurd cc
asked a leaves read bytes = asked_by _ _ a read bytes

pub frame_is : (a : Act) → leaves_trace a ≡ true → body_bytes a ≡ act_bytes a
frame_is (act.SplitBySize t row limit) leaves = absurd cc
frame_is act.Save leaves = absurd cc
frame_is act.Load leaves = absurd cc
frame_is (act.Begin t row kind) leaves = absurd cc
frame_is (act.Install t source) leaves = absurd cc
frame_is a leaves = refl
