-- A service over a seat that keeps no receipts but those of the last request, beside one that keeps all: the same pieces come to the same.
use Rattle.std.proofs.Common.{◌≡◌, inl, inr, ℕ, ℤ, List, [], ◌∷◌, ◌++◌, Option, Some, None, refl, ap, ◌∙◌, append-nil}
use Rattle.std.specs.Prelude.{Result, Ok, Err, IfSome, length}
use Rattle.tab_io.specs.declared.reading.Input.{Ghosts as InputGhosts}
use Rattle.tab_io.specs.declared.writing.Output.{Ghosts as OutputGhosts}
use Rattle.tab_history.specs.Answers.{Told}
use Rattle.tab_history.specs.declared.event.Act.{Act}
use Rattle.tab_core.specs.SessionState.{SessionState}
use Rattle.tab_book.specs.Entries.{SeatState}
use Rattle.tab_book.specs.Receipts.{Slip}
use Rattle.tab_wire.specs.declared.request.Request.{Request}
use Rattle.tab_wire.specs.declared.request.Request.TheVariants as asks
use Rattle.tab_wire.specs.Heard.{Heard}
use Rattle.tab_wire.specs.Heard as heard
use Rattle.tab_wire.specs.Replies.{Sent}
use Rattle.tab_wire.specs.Stream.{Piece, pieces_of, AtFront}
use Rattle.tab_serve.specs.declared.fault.ServeFault.{ServeFault}
use Rattle.tab_serve.specs.declared.fault.ServeFault.TheVariants.{Read, Write}
use Rattle.tab_serve.specs.declared.service.Service.{Ghosts}
use Rattle.tab_serve.specs.Turns.{Side, Tells, Turn, Turns}
use Rattle.tab_serve.specs.Progress.{AnswersAll, AnswersSome, AnswersFront, IsLeftButPart, IsWritten, IsWrittenPart, Converses, first_side}
use Rattle.tab_work.specs.Shares.{Seated, DoesAct, Shares}
use Rattle.tab_work.specs.Sharing.{SharesAll}
use Rattle.tab_work.proofs.Joining.{shares_all}

-- ---- behind other receipts
-- with these receipts
abbrev having : {M : Type 0} → List Slip → Seated M → Seated M
having all s = record s { receipts = all }

-- with these in front of its own
abbrev behind : {M : Type 0} → List Slip → Seated M → Seated M
behind all s = record s { receipts = all ++ s.receipts }

module _ {M : Type 0} (gives : M → ℤ → M → Type 0) (old new : Seated M) (slots slots' : List (Option SessionState)) (user : List ℕ) (reply : Told) (all : List Slip) where
  nothing_more : new ≡ having [] old → behind all new ≡ having all old
  nothing_more same = ap (λ (s : Seated M). behind all s) same ∙ ap (λ (q : List Slip). having q old) (append-nil all)

  act_behind : (act : Act) → DoesAct gives (having [] old) slots user act reply new slots' → DoesAct gives (having all old) slots user act reply (behind all new) slots'
  act_behind act (inl full) = inl record { opens = full.opens; full = full.full; told = full.told; same = nothing_more full.same; kept = full.kept }
  act_behind act (inr (inl lacks)) =
      inr (inl record { room = lacks.room; moment = lacks.moment; gave = lacks.gave; told = lacks.told; seat = lacks.seat; receipts = ap (λ (q : List Slip). all ++ q) lacks.receipts ∙ append-nil all; kept = lacks.kept })
  act_behind act (inr (inr does)) = inr (inr record {
    room = does.room;
    moment = does.moment;
    gave = does.gave;
    slip = does.slip;
    receives = does.receives;
    hands = does.hands;
    told = does.told;
    receipts = ap (λ (q : List Slip). all ++ q) does.receipts;
    kept = does.kept;
  })

  shares_behind : (request : Request) → Shares gives (having [] old) slots user request reply new slots' → Shares gives (having all old) slots user request reply (behind all new) slots'
  shares_behind (asks.Hello name) says = (says.0, nothing_more says.1, says.2)
  shares_behind (asks.Act act) says = act_behind act says
  shares_behind (asks.Next slot n) says = (says.0, nothing_more says.1)
  shares_behind (asks.Many slot ranges) says = (says.0, nothing_more says.1, says.2)
  shares_behind (asks.Close slot) says = (says.0, nothing_more says.1)

-- ---- any service that forgets the receipts at each request
module _ {S M : Type 0} (s : Ghosts S) (gives : M → ℤ → M → Type 0) (view : S → Seated M) (slots_of : S → List (Option SessionState)) (Lent : S → S → Type 0) (itself : (x : S) → Lent x x) (along : (x y z : S) → Lent x y → Lent y z → Lent x z)
    (says : (x : S) (user : List ℕ) (request : Request) (r : Told) (y : S) → s.answers x user request r y → Shares gives (having [] (view x)) (slots_of x) user request r (view y) (slots_of y) × Lent x y) (counts : (x : S) → s.opened x ≡ length (slots_of x)) where
  -- it and all receipts so far
  abbrev Keeping : Type 0
  Keeping = S × List Slip

  abbrev keeping_view : Keeping → Seated M
  keeping_view k = having k.1 (view k.0)

  abbrev keeping : Ghosts Keeping
  keeping = record {
    opened = λ k. s.opened k.0;
    told = λ k. s.told k.0;
    ready = s.ready;
    answers = λ k user request r k'. Shares gives (having k.1 (view k.0)) (slots_of k.0) user request r (having k'.1 (view k'.0)) (slots_of k'.0) × Lent k.0 k'.0;
  }

  abbrev beside : Side S → List Slip → Side Keeping
  beside side all = record { user = side.user; service = (side.service, all) }

  tells_kept : (old new : S) (all : List Slip) (what : Heard) (text : Sent) → Tells s old what text new → (all' : List Slip) × Tells keeping (old, all) what text (new, all')
  tells_kept old new all (heard.Request user request) text tells =
      let said = says old user request tells.0 new tells.1 in
      (all ++ (view new).receipts, (tells.0, (shares_behind gives (view old) (view new) (slots_of old) (slots_of new) user tells.0 all request said.0, said.1), tells.2))
  tells_kept old new all (heard.Bad reason) text tells = (all, (ap (λ (x : S). (x, all)) tells.0, tells.1))
  tells_kept old new all (heard.Broken reason) text tells = (all, (ap (λ (x : S). (x, all)) tells.0, tells.1))
  tells_kept old new all heard.NoMemory text tells = (all, (ap (λ (x : S). (x, all)) tells.0, tells.1))

  turns_kept : (pieces : List Piece) (old new : Side S) (all : List Slip) (text : List ℕ) → Turns s old pieces text new → (all' : List Slip) × Turns keeping (beside old all) pieces text (beside new all')
  turns_kept [] old new all text turns = (all, (turns.0, ap (λ (x : Side S). beside x all) turns.1))
  turns_kept (piece ∷ pieces) old new all text turns =
      let one = tells_kept old.service turns.2.service all turns.3.what turns.3.told turns.3.tells in
      let rest = turns_kept pieces turns.2 new one.0 turns.1 turns.4 in
      let turn : Turn keeping (beside old all) piece turns.0 (beside turns.2 one.0) = record { what = turns.3.what; told = turns.3.told; read = turns.3.read; by = turns.3.by; tells = one.1; bytes = turns.3.bytes } in
      (rest.0, (turns.0, turns.1, beside turns.2 one.0, turn, rest.1, turns.5))

  -- ---- whole connections
  module _ {R W : Type 0} (i : InputGhosts R) (o : OutputGhosts W) (old new : S) (input input' : R) (output output' : W) where
    all_kept : (user : Option (List ℕ)) (ahead : Option (List ℕ)) (Holds : List ℕ → Type 0) → AnswersAll s (first_side old) ahead (record { user = user; service = new }) Holds
        → (all : List Slip) × AnswersAll keeping (first_side (old, [])) ahead (record { user = user; service = (new, all) }) Holds
    all_kept user None Holds answers = ([], tt)
    all_kept user (Some bytes) Holds answers =
        let turns = turns_kept (pieces_of bytes) (first_side old) (record { user = user; service = new }) [] answers.0 answers.1 in
        (turns.0, (answers.0, turns.1, answers.2))

    some_kept : (user : Option (List ℕ)) (ahead : Option (List ℕ)) (Holds : List ℕ → Type 0) → AnswersSome s (first_side old) ahead (record { user = user; service = new }) Holds
        → (all : List Slip) × AnswersSome keeping (first_side (old, [])) ahead (record { user = user; service = (new, all) }) Holds
    some_kept user None Holds answers = ([], tt)
    some_kept user (Some bytes) Holds answers =
        let turns = turns_kept answers.0 (first_side old) (record { user = user; service = new }) [] answers.2 answers.4 in
        (turns.0, (answers.0, answers.1, answers.2, answers.3, turns.1, answers.5))

    front_kept : (user : Option (List ℕ)) (ahead : Option (List ℕ)) (Behind Holds : List ℕ → Type 0) → AnswersFront s (first_side old) ahead (record { user = user; service = new }) Behind Holds
        → (all : List Slip) × AnswersFront keeping (first_side (old, [])) ahead (record { user = user; service = (new, all) }) Behind Holds
    front_kept user None Behind Holds answers = ([], tt)
    front_kept user (Some bytes) Behind Holds answers =
        let turns = turns_kept answers.0 (first_side old) (record { user = user; service = new }) [] answers.2 answers.6 in
        (turns.0, (answers.0, answers.1, answers.2, answers.3, answers.4, answers.5, turns.1, answers.7))

    converses_kept : (r : Result (Unit {0}) ServeFault) → Converses i o s old input output new input' output' r → (all : List Slip) × Converses i o keeping (old, []) input output (new, all) input' output' r
    converses_kept (Ok u) talks =
        let kept = all_kept talks.0.0 (i.remaining input) (IsWritten o output output') talks.0.1 in
        (kept.0, ((talks.0.0, kept.1), talks.1))
    converses_kept (Err Read) talks =
        let kept = front_kept talks.0.0 (i.remaining input) (IsLeftButPart (i.remaining input')) (IsWritten o output output') talks.0.1 in
        (kept.0, ((talks.0.0, kept.1), talks.1))
    converses_kept (Err Write) talks =
        let kept = some_kept talks.0 (i.remaining input) (IsWrittenPart o output output') talks.1 in
        (kept.0, (talks.0, kept.1))

    -- with the receipts that a service that keeps all would have added
    pub forgets_all : (seat' : SeatState) (moments' : M) → slots_of old ≡ [] → (Lent old new → (seat' ≡ (view new).seat) × (moments' ≡ (view new).moments)) → (r : Result (Unit {0}) ServeFault) → Converses i o s old input output new input' output' r
        → (all : List Slip) × SharesAll i o gives (having [] (view old)) input output (record { seat = seat'; receipts = all; moments = moments' }) input' output' r
    forgets_all seat' moments' none back r talks =
        let kept = converses_kept r talks in (
          kept.0,
          shares_all keeping gives keeping_view (λ k. slots_of k.0) (λ x y. Lent x.0 y.0) (λ x. itself x.0) (λ x y z p q. along x.0 y.0 z.0 p q) (λ x user request reply y does. does) (λ x. counts x.0) i o (old, []) (new, kept.0) input input' output output'
              (record { seat = seat'; receipts = kept.0; moments = moments' }) none (λ lent. let is = back lent in (is.0, refl, is.1)) r kept.1,
        )
