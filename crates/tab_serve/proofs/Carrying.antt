-- What one request comes to over a core: an exchange of the connection, with its step.
use Rattle.std.proofs.Common.{◌≡◌, ◌⊎◌, inl, inr, ℕ, ℤ, pos, Bool, true, false, cond, ◌&&◌, List, [], ◌∷◌, ◌++◌, length, Option, Some, None, refl, sym, ap, ◌∙◌, subst}
use mathlib.Core.Bool.{true≢false}
use Rattle.tab_key.specs.Records.{Cell}
use Rattle.tab_key.specs.declared.range.Bounds.{Bounds}
use Rattle.tab_key.specs.declared.limited_part.LimitedPart.TheVariants.{Sessions}
use Rattle.tab_history.specs.declared.event.Act.{Act}
use Rattle.tab_history.specs.declared.event.Event.{Event}
use Rattle.tab_history.specs.declared.event.Step.{Step}
use Rattle.tab_history.specs.declared.event.Step.TheVariants as step
use Rattle.tab_history.specs.declared.reply.Refusal.TheVariants.{NoMemory, TooLarge, NoSession}
use Rattle.tab_history.specs.declared.reply.Reply.{Reply}
use Rattle.tab_history.specs.declared.reply.Reply.TheVariants.{Done, Refused, Opened, Batch}
use Rattle.tab_history.specs.Answers.{Told, told_of, session_of, job_of, is_open, next_answer, many_answer, close_answer, session_list}
use Rattle.tab_history.specs.Sessions.{Move, Opening, Taking, Closing, opened, is_full, session_in}
use Rattle.tab_history.specs.Histories.{Entry, World, world_of, world_after, journal, moves_of}
use Rattle.tab_history.specs.Legal.{IsAnswer, LacksMemory}
use Rattle.tab_history.specs.Refinement.{Refines}
use Rattle.tab_history.specs.Chains.{IsChain, NamesNoSlot}
use Rattle.tab_history.specs.Runs.{IsNoEvent}
use Rattle.tab_history.proofs.GoOn.{list_same}
use Rattle.tab_core.specs.SessionState.{SessionState}
use Rattle.tab_core.specs.OpenSession.{OpenSession}
use Rattle.tab_core.specs.Stores.{CoreContents, base_of}
use Rattle.tab_core.specs.Parts.{TabletMerge}
use Rattle.tab_core.specs.Chains.{ServedGoes}
use Rattle.tab_core.specs.Stepping.{StepsExactly, Steps, StepsWith}
use Rattle.tab_core.specs.Slots.{slot_at, NextFrom, ManyFrom, CloseFrom, SlotsAre}
use Rattle.tab_core.specs.Owners.{kept_with, OpensIn}
use Rattle.tab_core.proofs.SlotLemmas.{slots_opened, slots_taken, slots_closed, full_alike}
use Rattle.tab_core.proofs.Runs.{open_takes}
use Rattle.tab_wire.specs.declared.request.Request.{Request}
use Rattle.tab_wire.specs.declared.request.Request.TheVariants as asks
use Rattle.tab_wire.specs.Heard.{Heard}
use Rattle.tab_wire.specs.Heard as heard
use Rattle.tab_wire.specs.Asking.{IsBy}
use Rattle.tab_wire.specs.Replies as sent
use Rattle.tab_wire.specs.Replies.{Sent, sent_of}
use Rattle.tab_wire.specs.Talking.{Talk, Exchange, Answers, moves_told}
use Rattle.tab_wire.specs.TalkLaws.{KnowsSessions, IsRight}
use Rattle.tab_wire.proofs.NoSlots.{AsksNoSlot}
use Rattle.tab_serve.specs.Turns.{cells_asked}
use Rattle.tab_serve.specs.Serves.{Served, KeepsCore, IsTooMany, OpensNext, Applies, Serves, asked_at}
use Rattle.tab_serve.specs.Serving.{Gave}
use Rattle.tab_serve.proofs.Soundness.{opened_list}

-- a step and what was answered
abbrev entry : Step → Told → Entry
entry s r = record { step = s; reply = r }

-- ---- what steps do to slots
next_slots : (moves : List Move) (user : List ℕ) (slot n : ℕ) (r : Told) (ss ss' : List (Option SessionState)) → NextFrom ss slot n r ss' → SlotsAre moves ss → SlotsAre (moves_told (step.Next user slot n) r [] ++ moves) ss'
next_slots moves user slot n (Batch cells) ss ss' from are = subst (λ (l : List (Option SessionState)). SlotsAre (Taking slot (length cells) ∷ moves) l) (sym from.after) (slots_taken moves ss slot (length cells) are)
next_slots moves user slot n _ ss ss' from are = subst (λ (l : List (Option SessionState)). SlotsAre moves l) (sym from.after) are

many_slots : (moves : List Move) (user : List ℕ) (slot : ℕ) (ranges : List Bounds) (r : Told) (ss : List (Option SessionState)) → SlotsAre moves ss → SlotsAre (moves_told (step.Many user slot ranges) r [] ++ moves) ss
many_slots moves user slot ranges _ ss are = are

close_slots : (moves : List Move) (user : List ℕ) (slot : ℕ) (r : Told) (ss ss' : List (Option SessionState)) → CloseFrom ss slot r ss' → SlotsAre moves ss → SlotsAre (moves_told (step.Close user slot) r [] ++ moves) ss'
close_slots moves user slot Done ss ss' from are = go (slot_at ss slot) refl
  where
    go : (s : Option SessionState) → slot_at ss slot ≡ s → SlotsAre (Closing slot ∷ moves) ss'
    go None none = let is : Done ≡ Refused (NoSession slot) = from.answers ∙ ap (λ (s : Option SessionState). close_answer s slot) none in absurd (cc is)
    go (Some held) some = subst (λ (l : List (Option SessionState)). SlotsAre (Closing slot ∷ moves) l) (sym from.after) (slots_closed moves ss slot held some are)
close_slots moves user slot _ ss ss' from are = subst (λ (l : List (Option SessionState)). SlotsAre moves l) (sym from.after) are

-- an event that opens no session
shut_slots : (moves : List Move) (e : Event) (r : Told) (all : List Cell) (ss : List (Option SessionState)) → is_open e.act ≡ false → SlotsAre moves ss → SlotsAre (moves_told (step.Event e) r all ++ moves) ss
shut_slots moves e (Opened s) all ss shut are = subst (λ (b : Bool). SlotsAre (cond b (Opening all ∷ []) [] ++ moves) ss) (sym shut) are
shut_slots moves e _ all ss shut are = are

-- an Open that the core answered, and the list that its session has
kept_slots : (moves : List Move) (old new : CoreContents) (e : Event) (r : Reply OpenSession TabletMerge) (ss : List (Option SessionState)) → is_open e.act ≡ true → Steps (base_of old) e r (base_of new) → SlotsAre moves ss
    → SlotsAre (moves_told (step.Event e) (told_of r) (session_list (base_of old) [] e.act) ++ moves) (kept_with ss (session_of r))
kept_slots moves old new e (Opened s) ss opens steps are =
    let all : List Cell = session_list (base_of old) [] e.act in
    let there : SlotsAre (Opening all ∷ moves) (ss ++ Some s.state ∷ []) = subst (λ (x : OpenSession). SlotsAre (Opening all ∷ moves) (ss ++ Some x.state ∷ [])) (sym (opened_list (base_of old) (base_of new) e s opens steps)) (slots_opened moves ss all are) in
    subst (λ (b : Bool). SlotsAre (cond b (Opening all ∷ []) [] ++ moves) (ss ++ Some s.state ∷ [])) (sym opens) there
kept_slots moves old new e _ ss opens steps are = are

-- ---- which event an entry is
abbrev event_of : Event → Step → Event
event_of other (step.Event e) = e
event_of other _ = other

abbrev event_in : Event → List Entry → Event
event_in other [] = other
event_in other (e ∷ es) = event_of other e.step

abbrev reply_in : Told → List Entry → Told
reply_in other [] = other
reply_in other (e ∷ es) = e.reply

-- an event whose answer is right
is_right : (w : World) (h : List Entry) (x : Exchange) (e : Event) (r : Told) → x.entries ≡ entry (step.Event e) r ∷ [] → x.all ≡ session_list w.base (journal w h) e.act
    → IsAnswer w h h (step.Event e) r ⊎ LacksMemory (step.Event e) r → IsRight w h x
is_right w h x e r one all fits moment e' r' ms es =
    let same : e ≡ e' = ap (event_in e) (sym one ∙ es) in
    let also : r ≡ r' = ap (reply_in r) (sym one ∙ es) in
    subst (λ (v : Event). (IsAnswer w h h (step.Event v) r' ⊎ LacksMemory (step.Event v) r') × (x.all ≡ session_list w.base (journal w h) v.act)) same
    (subst (λ (t : Told). IsAnswer w h h (step.Event e) t ⊎ LacksMemory (step.Event e) t) also fits, all)

-- an event that names no slot of a job is an exact step
exactly : (old new : CoreContents) (e : Event) (r : Reply OpenSession TabletMerge) → NamesNoSlot e.act → StepsWith old None e r new → StepsExactly old None e (told_of r) (job_of r) new
exactly old new e r names (inl did) = did.1
exactly old new e r names (inr (slot, by, told, same)) = let never : ⊥ = subst NamesNoSlot by.1 names in absurd never

-- ---- one exchange
-- What is asked comes to this exchange, the core and the sessions stand where the connection does, and an event is answered right, whatever history the core refined.
pub record Comes {M : Type 0} (gives : M → ℤ → M → Type 0) (old : Served M) (talk : Talk) (what : Heard) (told : Sent) (new : Served M) : Type 0 where
  pub x : Exchange
  pub after : List Move
  pub asks : x.what ≡ what
  pub tells : x.told ≡ told
  pub does : Answers talk.moves x.what x after
  pub slots : SlotsAre after new.slots
  pub gave : Gave gives old.moments x.moments new.moments
  pub exact : IsChain ServedGoes old.core x.entries new.core
  pub right : (w : World) (h : List Entry) → Refines (world_of (base_of old.core)) (world_after w h) → KnowsSessions w h talk → IsRight w h x

module _ {M : Type 0} (gives : M → ℤ → M → Type 0) (old new : Served M) (talk : Talk) (are : SlotsAre talk.moves old.slots) where
  -- what asks for no step
  pub quiet : (what : Heard) (told : Sent) → new ≡ old → Answers talk.moves what (record { what = what; moments = []; entries = []; all = []; told = told }) talk.moves → Comes gives old talk what told new
  quiet what told same does = record {
    x = record { what = what; moments = []; entries = []; all = []; told = told };
    after = talk.moves;
    asks = refl;
    tells = refl;
    does = does;
    slots = subst (λ (s : Served M). SlotsAre talk.moves s.slots) (sym same) are;
    gave = ap (λ (s : Served M). s.moments) same;
    exact = ap (λ (s : Served M). s.core) (sym same);
    right = λ w h refines knows moment e r ms es. let none : [] ≡ moment ∷ [] = ms in absurd cc;
  }

  -- the same session number is told
  numbered_alike : (told : Sent) (n : ℕ) (r : Told) → told ≡ sent_of (length old.slots) n r → sent_of (opened talk.moves) n r ≡ told
  numbered_alike told n r is = ap (λ (k : ℕ). sent_of k n r) are.count ∙ sym is

  -- a step on a session
  own : (what : Heard) (s : Step) (n : ℕ) (r : Told) (told : Sent) → told ≡ sent_of (length old.slots) n r → IsNoEvent s r → new.core ≡ old.core → new.moments ≡ old.moments
      → SlotsAre (moves_told s r [] ++ talk.moves) new.slots
      → ((x : Exchange) → x.moments ≡ [] → x.entries ≡ entry s r ∷ [] → x.told ≡ sent_of (opened talk.moves) n r → Answers talk.moves what x (moves_told s r [] ++ talk.moves)) → Comes gives old talk what told new
  own what s n r told is no_event core moments slots does =
      let x : Exchange = record { what = what; moments = []; entries = entry s r ∷ []; all = []; told = sent_of (opened talk.moves) n r } in
      record {
        x = x;
        after = moves_told s r [] ++ talk.moves;
        asks = refl;
        tells = numbered_alike told n r is;
        does = does x refl refl refl;
        slots = slots;
        gave = moments;
        exact = (old.core, refl, inr (no_event, core));
        right = λ w h refines knows moment e r' ms es. let none : [] ≡ moment ∷ [] = ms in absurd cc;
      }

  next_comes : (user : List ℕ) (slot n : ℕ) (r : Told) (told : Sent) → NextFrom old.slots slot n r new.slots → KeepsCore old new → told ≡ sent_of (length old.slots) n r → Comes gives old talk (heard.Request user (asks.Next slot n)) told new
  next_comes user slot n r told from keeps is =
      own (heard.Request user (asks.Next slot n)) (step.Next user slot n) n r told is tt keeps.core keeps.moments (next_slots talk.moves user slot n r old.slots new.slots from are)
      (λ x moments entries told. (r, fits from.answers, record { moments = moments; entries = entries; told = told }, refl))
    where
      fits : (r ≡ next_answer (slot_at old.slots slot) slot n) ⊎ (r ≡ Refused NoMemory) → (r ≡ next_answer (session_in talk.moves slot) slot n) ⊎ LacksMemory (step.Next user slot n) r
      fits (inl is) = inl (is ∙ ap (λ (s : Option SessionState). next_answer s slot n) (sym (are.sessions slot)))
      fits (inr is) = inr (refl, is)

  many_comes : (user : List ℕ) (slot : ℕ) (ranges : List Bounds) (r : Told) (told : Sent) → ManyFrom old.slots slot ranges r → new ≡ old → told ≡ sent_of (length old.slots) 0 r → Comes gives old talk (heard.Request user (asks.Many slot ranges)) told new
  many_comes user slot ranges r told from same is =
      own (heard.Request user (asks.Many slot ranges)) (step.Many user slot ranges) 0 r told is tt (ap (λ (s : Served M). s.core) same) (ap (λ (s : Served M). s.moments) same)
      (subst (λ (s : Served M). SlotsAre (moves_told (step.Many user slot ranges) r [] ++ talk.moves) s.slots) (sym same) (many_slots talk.moves user slot ranges r old.slots are))
      (λ x moments entries told. (r, fits from, record { moments = moments; entries = entries; told = told }, refl))
    where
      fits : ManyFrom old.slots slot ranges r → (r ≡ many_answer (session_in talk.moves slot) slot ranges) ⊎ LacksMemory (step.Many user slot ranges) r
      fits (inl is) = inl (is ∙ ap (λ (s : Option SessionState). many_answer s slot ranges) (sym (are.sessions slot)))
      fits (inr is) = inr (refl, is)

  close_comes : (user : List ℕ) (slot : ℕ) (r : Told) (told : Sent) → CloseFrom old.slots slot r new.slots → KeepsCore old new → told ≡ sent_of (length old.slots) 0 r → Comes gives old talk (heard.Request user (asks.Close slot)) told new
  close_comes user slot r told from keeps is =
      own (heard.Request user (asks.Close slot)) (step.Close user slot) 0 r told is tt keeps.core keeps.moments (close_slots talk.moves user slot r old.slots new.slots from are)
      (λ x moments entries told. (r, inl (from.answers ∙ ap (λ (s : Option SessionState). close_answer s slot) (sym (are.sessions slot))), record { moments = moments; entries = entries; told = told }, refl))

  -- ---- acts
  module _ (user : List ℕ) (by : talk.user ≡ Some user) (act : Act) (names : NamesNoSlot act) (told : Sent) where
    -- an Open past the limit of sessions
    too_many : (r : Told) → IsTooMany old act r new → told ≡ sent_of (length old.slots) 0 r → Comes gives old talk (heard.Request user (asks.Act act)) told new
    too_many r many is =
        let full : is_full talk.moves ≡ true = full_alike talk.moves old.slots are ∙ many.full in
        let x : Exchange = record { what = heard.Request user (asks.Act act); moments = []; entries = entry (step.Event (asked_at user (pos 0) act)) (Refused (TooLarge Sessions)) ∷ []; all = []; told = sent.Refused (TooLarge Sessions) } in
        record {
          x = x;
          after = talk.moves;
          asks = refl;
          tells = sym (is ∙ ap (sent_of (length old.slots) 0) many.told);
          does = inl ((λ i. many.opens i && full i), record { moments = refl; entries = refl; told = refl }, refl);
          slots = subst (λ (s : Served M). SlotsAre talk.moves s.slots) (sym many.same) are;
          gave = ap (λ (s : Served M). s.moments) many.same;
          exact = (old.core, refl, inr (tt, ap (λ (s : Served M). s.core) many.same));
          right = λ w h refines knows moment e r' ms es. let none : [] ≡ moment ∷ [] = ms in absurd cc;
        }

    -- an event at the next moment
    event_comes : (moment : ℤ) (r : Told) → (is_open act && is_full talk.moves) ≡ false → gives old.moments moment new.moments → ServedGoes old.core (entry (step.Event (asked_at user moment act)) r) new.core
        → SlotsAre (moves_told (step.Event (asked_at user moment act)) r (session_list (base_of old.core) [] act) ++ talk.moves) new.slots
        → ((w : World) (h : List Entry) → Refines (world_of (base_of old.core)) (world_after w h) → moves_of w user h ≡ talk.moves → IsAnswer w h h (step.Event (asked_at user moment act)) r ⊎ LacksMemory (step.Event (asked_at user moment act)) r)
        → told ≡ sent_of (length old.slots) 0 r → Comes gives old talk (heard.Request user (asks.Act act)) told new
    event_comes moment r room gave exact slots fits is =
        let e : Event = asked_at user moment act in
        let all : List Cell = session_list (base_of old.core) [] act in
        let x : Exchange = record { what = heard.Request user (asks.Act act); moments = moment ∷ []; entries = entry (step.Event e) r ∷ []; all = all; told = sent_of (opened talk.moves) 0 r } in
        record {
          x = x;
          after = moves_told (step.Event e) r all ++ talk.moves;
          asks = refl;
          tells = numbered_alike told 0 r is;
          does = inr (room, (moment, r, record { moments = refl; entries = refl; told = refl }, refl));
          slots = slots;
          gave = (new.moments, gave, refl);
          exact = (old.core, refl, exact);
          right = λ w h refines knows. is_right w h x e r refl (list_same (world_of (base_of old.core)) (world_after w h) refines act) (fits w h refines (knows user (inl by)));
        }

    -- an Open for which there is room
    opens_next : (r : Told) → OpensNext gives old user act r new → told ≡ sent_of (length old.slots) 0 r → Comes gives old talk (heard.Request user (asks.Act act)) told new
    opens_next r next is = go next.does
      where
        free : is_full talk.moves ≡ false
        free = full_alike talk.moves old.slots are ∙ next.room

        room : (is_open act && is_full talk.moves) ≡ false
        room = λ i. next.opens i && free i

        go : OpensIn old.core old.slots (asked_at user next.moment act) r new.core new.slots → Comes gives old talk (heard.Request user (asks.Act act)) told new
        go (inl full) = absurd (true≢false (sym full.0 ∙ next.room))
        go (inr (inl lacks)) =
            let e : Event = asked_at user next.moment act in
            event_comes next.moment (Refused NoMemory) room next.gave (inr (tt, lacks.1)) (subst (λ (ss : List (Option SessionState)). SlotsAre talk.moves ss) (sym lacks.2) are)
            (λ w h refines knows. inr (open_takes act next.opens, refl)) (is ∙ ap (sent_of (length old.slots) 0) lacks.0)
        go (inr (inr (room', (answer, steps, exact, told_is, kept)))) =
            let e : Event = asked_at user next.moment act in
            event_comes next.moment (told_of answer) room next.gave (inl (job_of answer, exactly old.core new.core e answer names exact))
            (subst (λ (ss : List (Option SessionState)). SlotsAre (moves_told (step.Event e) (told_of answer) (session_list (base_of old.core) [] act) ++ talk.moves) ss) (sym kept) (kept_slots talk.moves old.core new.core e answer old.slots next.opens steps are))
            (λ w h refines knows. steps.answers w h refines h (λ opens. ap is_full knows ∙ free, names)) (is ∙ ap (sent_of (length old.slots) 0) told_is)

    -- any other act
    applies : (r : Told) → Applies gives old user act r new → told ≡ sent_of (length old.slots) 0 r → Comes gives old talk (heard.Request user (asks.Act act)) told new
    applies r does is =
        let e : Event = asked_at user does.moment act in
        event_comes does.moment (told_of does.answer) (ap (λ (b : Bool). b && is_full talk.moves) does.shut) does.gave (inl (job_of does.answer, exactly old.core new.core e does.answer names does.exact))
        (subst (λ (ss : List (Option SessionState)). SlotsAre (moves_told (step.Event e) (told_of does.answer) (session_list (base_of old.core) [] act) ++ talk.moves) ss) (sym does.slots)
        (shut_slots talk.moves e (told_of does.answer) (session_list (base_of old.core) [] act) old.slots does.shut are))
        (λ w h refines knows. does.steps.answers w h refines h (λ opens. absurd (true≢false (sym opens ∙ does.shut)), names)) (is ∙ ap (sent_of (length old.slots) 0) does.told)

    act_comes : (r : Told) → IsTooMany old act r new ⊎ OpensNext gives old user act r new ⊎ Applies gives old user act r new → told ≡ sent_of (length old.slots) 0 r → Comes gives old talk (heard.Request user (asks.Act act)) told new
    act_comes r (inl many) is = too_many r many is
    act_comes r (inr (inl next)) is = opens_next r next is
    act_comes r (inr (inr does)) is = applies r does is

  -- ---- any request
  pub request_comes : (user : List ℕ) (request : Request) (r : Told) (told : Sent) → AsksNoSlot request → IsBy talk.user user request → Serves gives old user request r new → told ≡ sent_of (length old.slots) (cells_asked request) r
      → Comes gives old talk (heard.Request user request) told new
  request_comes user (asks.Hello name) r told names by says is =
      quiet (heard.Request user (asks.Hello name)) told says.1 (record { moments = refl; entries = refl; told = is ∙ ap (sent_of (length old.slots) 0) says.0 }, refl)
  request_comes user (asks.Act act) r told names by says is = act_comes user by act names told r says is
  request_comes user (asks.Next slot n) r told names by says is = next_comes user slot n r told says.0 says.1 is
  request_comes user (asks.Many slot ranges) r told names by says is = many_comes user slot ranges r told says.0 says.1 is
  request_comes user (asks.Close slot) r told names by says is = close_comes user slot r told says.0 says.1 is
