-- Which reason a frame is refused by, and when a request is asked in its turn.
use Rattle.std.proofs.Common.{◌≡◌, ℕ, zero, suc, ◌<◌, Bool, true, false, cond, not, List, ◌∷◌, get_or, drop, Option, Some, None, refl, sym, ap, subst, ◌∙◌, arith}
use Rattle.std.specs.Prelude.{Result, Ok, Err, slice_get}
use Rattle.std.specs.Bool.{Decides}
use Rattle.std.proofs.lemmas.Bool.Decides.{not_from_Decides}
use Rattle.std.proofs.lemmas.List.Elements.{All-get_or}
use Rattle.std.proofs.lemmas.List.Sums.{AllPass-from_list_all}
use Rattle.std.proofs.lemmas.Option.{slice_get_within, slice_get-get_or, get_or_from_slice_get}
use Rattle.tab_codec.specs.Parts.{IsBytes}
use Rattle.tab_codec.specs.Reading.{◌>>=◌, whole}
use Rattle.tab_codec.proofs.Exact.{some_inj}
use Rattle.tab_wire.specs.declared.opcode.Opcode.{Opcode}
use Rattle.tab_wire.specs.declared.opcode.Opcode.TheVariants as op_of
use Rattle.tab_wire.specs.declared.request.Request.{Request}
use Rattle.tab_wire.specs.declared.reason.Reason.{Reason}
use Rattle.tab_wire.specs.declared.reason.Reason.TheVariants as reason
use Rattle.tab_wire.specs.Requests.{all_opcodes, opcode_of, fields_at, request_in, request_of, is_in_turn, or_field, asked_by}
use Rattle.tab_wire.specs.Forms.{IsKnown, InTurn, IsRequest, IsBad, opcode, order, field, ReasonsAreFirst, RequestsInTurn}
use Rattle.tab_wire.proofs.RequestLaw.{requests_are_forms}

-- ---- opcodes
-- the number is known, and its turn is told by the opcode
abbrev Tells : ℕ → Opcode → Type 0
Tells op o = IsKnown op × ((greeted : Bool) → Decides (is_in_turn greeted o) (InTurn greeted op))

-- Hello comes first and once
hello_turn : (greeted : Bool) → Decides (is_in_turn greeted op_of.Hello) (InTurn greeted 1)
hello_turn true = (λ e. absurd cc, λ h. absurd (h refl))
hello_turn false = (λ e. refl, λ h. refl)

not_one : (op : ℕ) → 1 < op → op ≡ 1 → ⊥
not_one op lt e = omega (arith, lt, e)

-- every other one comes behind it
other_turn : (op : ℕ) (o : Opcode) → 1 < op → is_in_turn true o ≡ true → is_in_turn false o ≡ false → (greeted : Bool) → Decides (is_in_turn greeted o) (InTurn greeted op)
other_turn op o lt yes_then no_before true = (λ e. not_one op lt, λ h. yes_then)
other_turn op o lt yes_then no_before false = (λ e. (let no : false ≡ true = sym no_before ∙ e in absurd cc), λ h. absurd (not_one op lt h))

-- the opcodes behind Hello
abbrev others : List Opcode
others = drop 1 all_opcodes

-- before Hello no opcode has its turn that has it behind
turned : (o : Opcode) → is_in_turn false o ≡ not (is_in_turn true o)
turned op_of.Hello = refl
turned o = refl

-- each of them has its turn behind it
other_first : (place : ℕ) (o : Opcode) → slice_get others place ≡ Some o → is_in_turn true o ≡ true
other_first place o is =
    subst (λ (x : Opcode). is_in_turn true x ≡ true) (get_or_from_slice_get others place o op_of.Hello is)
    (All-get_or (λ x. is_in_turn true x ≡ true) others place op_of.Hello (slice_get_within others place o is) (AllPass-from_list_all (is_in_turn true) others refl))

some_known : (op : ℕ) (o : Opcode) → opcode_of op ≡ Some o → Tells op o
some_known zero o is = absurd cc
some_known (suc zero) o is = subst (Tells 1) (some_inj op_of.Hello o is) ((omega arith, omega arith), hello_turn)
some_known (suc (suc place)) o is =
    let lt : place < 22 = slice_get_within others place o is in
    let behind = other_first place o is in
    ((omega arith, omega (arith, lt)), other_turn (suc (suc place)) o (omega arith) behind (turned o ∙ ap not behind))

none_unknown : (op : ℕ) → opcode_of op ≡ None → IsKnown op → ⊥
none_unknown zero is h = omega (arith, h.0)
none_unknown (suc place) is h =
    let lt : place < 23 = omega (arith, h.1) in
    let no : None ≡ Some (get_or all_opcodes place op_of.Hello) = sym is ∙ slice_get-get_or all_opcodes place op_of.Hello lt in absurd cc

-- what doesn't hold is answered no
denied : {P : Type 0} (b : Bool) → Decides b P → (P → ⊥) → b ≡ false
denied true d never = absurd (never (d.0 refl))
denied false d never = refl

abbrev Said : Type 0
Said = Result Request Reason

err_inj : (a b : Reason) → (let x : Said = Err a in x) ≡ Err b → a ≡ b
err_inj a b e = let or_a : Said → Reason = λ r. elim r [ Ok q ↦ a | Err c ↦ c ] in ap or_a e

ok_inj : (a b : Request) → (let x : Said = Ok a in x) ≡ Ok b → a ≡ b
ok_inj a b e = let or_a : Said → Request = λ r. elim r [ Ok q ↦ q | Err c ↦ a ] in ap or_a e

-- what is read of a frame, by its opcode
read_by : (op : ℕ) (fields : List ℕ) (read : Option Opcode) → opcode_of op ≡ read → request_in (op ∷ fields) ≡ (read >>= λ o. whole (fields_at o fields))
unfolding request_in
read_by op fields read is = ap (λ r. r >>= λ o. whole (fields_at o fields)) is

-- ---- backwards
module _ (greeted : Bool) (op : ℕ) (fields : List ℕ) (fits : IsBytes (op ∷ fields)) where
  field_sound : (read : Option Request) (r : Reason) → request_in (op ∷ fields) ≡ read → IsKnown op → InTurn greeted op → or_field read ≡ Err r → IsBad greeted (op ∷ fields) r
  field_sound None r is known turn e =
      subst (λ (x : Reason). IsBad greeted (op ∷ fields) x) (err_inj reason.Field r e) (field greeted op fields known turn (λ request form.
      let there : request_in (op ∷ fields) ≡ Some request = (requests_are_forms (op ∷ fields) request fits).1 form in
      let no : None ≡ Some request = sym is ∙ there in absurd cc))
  field_sound (Some request) r is known turn e = absurd cc

  bad_by : (read : Option Opcode) (r : Reason) → opcode_of op ≡ read → asked_by greeted read fields ≡ Err r → IsBad greeted (op ∷ fields) r
  bad_by None r is e = subst (λ (x : Reason). IsBad greeted (op ∷ fields) x) (err_inj reason.Opcode r e) (opcode greeted op fields (none_unknown op is))
  bad_by (Some o) r is e =
      let told = some_known op o is in
      elim (is_in_turn greeted o) as (λ b. is_in_turn greeted o ≡ b → cond b (or_field (whole (fields_at o fields))) (Err reason.Order) ≡ Err r → IsBad greeted (op ∷ fields) r) [
        | true ↦ λ turn e2. field_sound (whole (fields_at o fields)) r (read_by op fields (Some o) is) told.0 ((told.1 greeted).0 turn) e2
        | false ↦ λ turn e2. subst (λ (x : Reason). IsBad greeted (op ∷ fields) x) (err_inj reason.Order r e2) (order greeted op fields told.0 (not_from_Decides (is_in_turn greeted o) (told.1 greeted) turn))
      ] refl e

  bad_sound : (r : Reason) → request_of greeted (op ∷ fields) ≡ Err r → IsBad greeted (op ∷ fields) r
  unfolding request_of
  bad_sound r is = bad_by (opcode_of op) r refl is

  form_by : (read : Option Request) (request : Request) → request_in (op ∷ fields) ≡ read → or_field read ≡ Ok request → IsRequest (op ∷ fields) request
  form_by None request there e = absurd cc
  form_by (Some x) request there e = (requests_are_forms (op ∷ fields) request fits).0 (there ∙ ap (λ (y : Request). Some y) (ok_inj x request e))

  turn_by : (read : Option Opcode) (request : Request) → opcode_of op ≡ read → asked_by greeted read fields ≡ Ok request → IsRequest (op ∷ fields) request × InTurn greeted op
  turn_by None request is e = absurd cc
  turn_by (Some o) request is e =
      elim (is_in_turn greeted o) as (λ b. is_in_turn greeted o ≡ b → cond b (or_field (whole (fields_at o fields))) (Err reason.Order) ≡ Ok request → IsRequest (op ∷ fields) request × InTurn greeted op) [
        | true ↦ λ turn e2. (form_by (whole (fields_at o fields)) request (read_by op fields (Some o) is) e2, ((some_known op o is).1 greeted).0 turn)
        | false ↦ λ turn e2. absurd cc
      ] refl e

  turn_sound : (request : Request) → request_of greeted (op ∷ fields) ≡ Ok request → IsRequest (op ∷ fields) request × InTurn greeted op
  unfolding request_of
  turn_sound request is = turn_by (opcode_of op) request refl is

-- ---- forwards
in_turn : (greeted : Bool) (op : ℕ) (fields : List ℕ) (request : Request) (read : Option Opcode) → opcode_of op ≡ read → request_in (op ∷ fields) ≡ Some request → InTurn greeted op → asked_by greeted read fields ≡ Ok request
in_turn greeted op fields request None is there turn = let no : None ≡ Some request = sym (read_by op fields None is) ∙ there in absurd cc
in_turn greeted op fields request (Some o) is there turn =
    ap (λ b. cond b (or_field (whole (fields_at o fields))) (Err reason.Order)) (((some_known op o is).1 greeted).1 turn) ∙ ap or_field (sym (read_by op fields (Some o) is) ∙ there)

turn_complete : (greeted : Bool) (op : ℕ) (fields : List ℕ) (request : Request) → IsBytes (op ∷ fields) → IsRequest (op ∷ fields) request × InTurn greeted op → request_of greeted (op ∷ fields) ≡ Ok request
unfolding request_of
turn_complete greeted op fields request fits is = in_turn greeted op fields request (opcode_of op) refl ((requests_are_forms (op ∷ fields) request fits).1 is.0) is.1

pub requests_in_turn : RequestsInTurn
requests_in_turn greeted op fields request fits = (turn_sound greeted op fields fits request, turn_complete greeted op fields request fits)

opcode_back : (greeted : Bool) (op : ℕ) (fields : List ℕ) (read : Option Opcode) → opcode_of op ≡ read → (IsKnown op → ⊥) → asked_by greeted read fields ≡ Err reason.Opcode
opcode_back greeted op fields None is unknown = refl
opcode_back greeted op fields (Some o) is unknown = absurd (unknown (some_known op o is).0)

order_back : (greeted : Bool) (op : ℕ) (fields : List ℕ) (read : Option Opcode) → opcode_of op ≡ read → IsKnown op → (InTurn greeted op → ⊥) → asked_by greeted read fields ≡ Err reason.Order
order_back greeted op fields None is known turn = absurd (none_unknown op is known)
order_back greeted op fields (Some o) is known turn = ap (λ b. cond b (or_field (whole (fields_at o fields))) (Err reason.Order)) (denied (is_in_turn greeted o) ((some_known op o is).1 greeted) turn)

field_back : (greeted : Bool) (op : ℕ) (fields : List ℕ) (read : Option Opcode) → opcode_of op ≡ read → IsKnown op → InTurn greeted op → request_in (op ∷ fields) ≡ None → asked_by greeted read fields ≡ Err reason.Field
field_back greeted op fields None is known turn nothing = absurd (none_unknown op is known)
field_back greeted op fields (Some o) is known turn nothing =
    ap (λ b. cond b (or_field (whole (fields_at o fields))) (Err reason.Order)) (((some_known op o is).1 greeted).1 turn) ∙ ap or_field (sym (read_by op fields (Some o) is) ∙ nothing)

-- nothing is read where no form fits
not_read : (bytes : List ℕ) → IsBytes bytes → ((request : Request) → IsRequest bytes request → ⊥) → request_in bytes ≡ None
not_read bytes fits never = by (request_in bytes) refl
  where
    by : (read : Option Request) → request_in bytes ≡ read → read ≡ None
    by None is = refl
    by (Some request) is = absurd (never request ((requests_are_forms bytes request fits).0 is))

bad_complete : (greeted : Bool) (bytes : List ℕ) (r : Reason) → IsBytes bytes → IsBad greeted bytes r → request_of greeted bytes ≡ Err r
unfolding request_of
bad_complete greeted bytes r fits (opcode g op fields unknown) = opcode_back g op fields (opcode_of op) refl unknown
bad_complete greeted bytes r fits (order g op fields known turn) = order_back g op fields (opcode_of op) refl known turn
bad_complete greeted bytes r fits (field g op fields known turn never) = field_back g op fields (opcode_of op) refl known turn (not_read (op ∷ fields) fits never)

pub reasons_are_first : ReasonsAreFirst
reasons_are_first greeted op fields r fits = (bad_sound greeted op fields fits r, bad_complete greeted (op ∷ fields) r fits)
