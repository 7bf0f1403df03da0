-- The body of a frame that asks a Write is the one spelling of it, so it is handed over as it came.
use Rattle.std.proofs.Common.{◌≡◌, ℕ, ◌<◌, ◌^◌, List, ◌∷◌, ◌++◌, length, Option, Some, sym, ap, ◌∙◌}
use Rattle.std.specs.Option.{unwrap_or}
use Rattle.tab_mutation.specs.Mutations.{Mutation}
use Rattle.tab_history.specs.declared.event.Act.{Act}
use Rattle.tab_history.specs.declared.event.Act.TheVariants as act
use Rattle.tab_codec.specs.Parts.{IsBytes, IsNameField}
use Rattle.tab_wire.specs.Forms.{IsRequest, write}
use Rattle.tab_wire.specs.Replies.{u32, field}
use Rattle.tab_wire.specs.Requests.{request_in}
use Rattle.tab_wire.specs.Sending.{act_bytes}
use Rattle.tab_wire.specs.declared.request.Request.{Request}
use Rattle.tab_wire.specs.declared.request.Request.TheVariants as asks
use Rattle.tab_wire.proofs.RequestLaw.{requests_are_forms}
use Rattle.tab_event_record.specs.Records.{act_of, act_in, act_said, body_bytes, IsBody}

name_is : (b name : List ℕ) → IsNameField b name → b ≡ field name
unfolding u32
name_is b name is = is.0.0

abbrev OneForm : Request → List ℕ → Type 0
OneForm (asks.Act (act.Write t m)) bytes = bytes ≡ act_bytes (act.Write t m)
OneForm request bytes = Unit {0}

one_form : (bytes : List ℕ) (request : Request) → IsBytes bytes → IsRequest bytes request → OneForm request bytes
one_form bytes request fits (write t m table mutation name is) =
    (λ i. 10 ∷ (name_is t table name i ++ is.0 i))
one_form bytes request fits is = tt

pub handed : (body : List ℕ) (t : List ℕ) (m : Mutation) → IsBytes body → request_in body ≡ Some (asks.Act (act.Write t m)) → body ≡ body_bytes (act.Write t m)
handed body t m bytes is = one_form body (asks.Act (act.Write t m)) bytes ((requests_are_forms body (asks.Act (act.Write t m)) bytes).0 is)

read_so : (body : List ℕ) (t : List ℕ) (m : Mutation) → request_in body ≡ Some (asks.Act (act.Write t m)) → body ≡ body_bytes (act.Write t m) → act_in body ≡ Some (act.Write t m)
unfolding act_in
read_so body t m asked is = ap act_in is ∙ ap act_of (ap request_in (sym is) ∙ asked)

pub said_so : (body : List ℕ) (t : List ℕ) (m : Mutation) → IsBytes body → request_in body ≡ Some (asks.Act (act.Write t m)) → act_said body ≡ act.Write t m
said_so body t m bytes asked = ap (λ (o : Option Act). unwrap_or o act.Save) (read_so body t m asked (handed body t m bytes asked))

pub handed_body : (body : List ℕ) (t : List ℕ) (m : Mutation) → IsBytes body → length body < 2 ^ 32 → request_in body ≡ Some (asks.Act (act.Write t m)) → IsBody body
handed_body body t m bytes low asked =
    let is = handed body t m bytes asked in
    let said = said_so body t m bytes asked in
    record { read = read_so body t m asked is ∙ ap (λ (a : Act). Some a) (sym said); written = is ∙ ap body_bytes (sym said); short = low }
