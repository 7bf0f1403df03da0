-- A whole connection over a shared book: from what comes of the pieces of its stream to the receipts that the seat got.
use Rattle.std.proofs.Common.{◌≡◌, inl, inr, ℕ, ℤ, List, [], ◌∷◌, ◌++◌, map, length, Option, Some, None, refl, sym, ap, ◌∙◌, subst, append_assoc, append-nil}
use Rattle.std.specs.Prelude.{Result, Ok, Err, IfSome, is_some}
use Rattle.std.proofs.lemmas.List.{map-append}
use Rattle.tab_io.specs.declared.reading.Input.{Ghosts as InputGhosts}
use Rattle.tab_io.specs.declared.writing.Output.{Ghosts as OutputGhosts}
use Rattle.tab_history.specs.declared.event.Event.{Event}
use Rattle.tab_history.specs.Answers.{Told}
use Rattle.tab_core.specs.SessionState.{SessionState}
use Rattle.tab_core.specs.Slots.{SlotsAre}
use Rattle.tab_core.proofs.SlotLemmas.{slots_none}
use Rattle.tab_book.specs.Entries.{SeatState}
use Rattle.tab_book.specs.Receipts.{Slip}
use Rattle.tab_wire.specs.declared.request.Request.{Request}
use Rattle.tab_wire.specs.Heard.{Heard}
use Rattle.tab_wire.specs.Heard as heard
use Rattle.tab_wire.specs.Asking.{IsRead, Hears}
use Rattle.tab_wire.specs.Replies.{Sent, sent_of, sent_bytes}
use Rattle.tab_wire.specs.Stream.{Piece, pieces_of, AtFront}
use Rattle.tab_wire.specs.Talking.{Talk, new_talk, Exchange, Speaks, Talks, moments_of, replied}
use Rattle.tab_serve.specs.declared.fault.ServeFault.{ServeFault}
use Rattle.tab_serve.specs.declared.fault.ServeFault.TheVariants.{Read, Write}
use Rattle.tab_serve.specs.declared.service.Service.{Ghosts}
use Rattle.tab_serve.specs.Turns.{Side, Tells, Turn, Turns, cells_asked}
use Rattle.tab_serve.specs.Progress.{AnswersAll, AnswersSome, AnswersFront, IsLeftButPart, IsWritten, IsWrittenPart, Converses, first_side}
use Rattle.tab_serve.specs.Serving.{Gave}
use Rattle.tab_work.specs.Receiving.{spent, Follows}
use Rattle.tab_work.specs.Shares.{Seated, Shares}
use Rattle.tab_work.specs.Sharing.{AreBooked, SharesPieces, SharesAll}
use Rattle.tab_work.proofs.Booking.{Comes, silent, request_shares}

-- ---- one after another
gave_join : {M : Type 0} (gives : M → ℤ → M → Type 0) (a b c : M) (xs ys : List ℤ) → Gave gives a xs b → Gave gives b ys c → Gave gives a (xs ++ ys) c
gave_join gives a b c [] ys first next = subst (λ m. Gave gives m ys c) first next
gave_join gives a b c (x ∷ xs) ys first next = (first.0, first.1, gave_join gives first.0 b c xs ys first.2 next)

pub follows_join : (a b c : SeatState) (es fs : List Event) (rs ss : List Slip) → Follows a es rs b → Follows b fs ss c → Follows a (es ++ fs) (rs ++ ss) c
follows_join a b c [] fs [] ss first next = subst (λ (p : SeatState). Follows p fs ss c) first next
follows_join a b c [] fs (r ∷ rs) ss first next = absurd first
follows_join a b c (e ∷ es) fs [] ss first next = absurd first
follows_join a b c (e ∷ es) fs (r ∷ rs) ss first next = (first.0, first.1, follows_join first.0 b c es fs rs ss first.2 next)

booked_join : (xs ys : List Exchange) (es fs : List Event) (rs ss : List Slip) → AreBooked xs es rs → AreBooked ys fs ss → AreBooked (xs ++ ys) (es ++ fs) (rs ++ ss)
booked_join [] ys es fs rs ss first next = subst (λ (q : List Slip). AreBooked ys (es ++ fs) q) (sym (ap (λ (q : List Slip). q ++ ss) first.1)) (subst (λ (q : List Event). AreBooked ys q ss) (sym (ap (λ (q : List Event). q ++ fs) first.0)) next)
booked_join (x ∷ xs) ys es fs rs ss (inl (none, rest)) next = inl (none, booked_join xs ys es fs rs ss rest next)
booked_join (x ∷ xs) ys es fs rs ss (inr (inl (lacks, rest))) next = inr (inl (lacks, booked_join xs ys es fs rs ss rest next))
booked_join (x ∷ xs) ys es fs rs ss (inr (inr (event, slip, events, slips, es_are, rs_are, one, rest))) next =
    inr (inr (event, slip, events ++ fs, slips ++ ss, ap (λ (q : List Event). q ++ fs) es_are, ap (λ (q : List Slip). q ++ ss) rs_are, one, booked_join xs ys events fs slips ss rest next))

-- ---- any service that does what a seat of a shared book does, and what it keeps of what is lent to it
module _ {S M : Type 0} (s : Ghosts S) (gives : M → ℤ → M → Type 0) (view : S → Seated M) (slots_of : S → List (Option SessionState)) (Lent : S → S → Type 0) (itself : (x : S) → Lent x x) (along : (x y z : S) → Lent x y → Lent y z → Lent x z)
    (says : (x : S) (user : List ℕ) (request : Request) (r : Told) (y : S) → s.answers x user request r y → Shares gives (view x) (slots_of x) user request r (view y) (slots_of y) × Lent x y) (counts : (x : S) → s.opened x ≡ length (slots_of x)) where
  -- what one piece comes to
  told_comes : (old new : S) (talk : Talk) (what : Heard) (told : Sent) (user : Option (List ℕ)) → SlotsAre talk.moves (slots_of old) → Hears talk.user what user → Tells s old what told new → Comes gives (view old) talk what told (view new) (slots_of new) × Lent old new
  told_comes old new talk (heard.Request user request) told after are hears tells =
      let said = says old user request tells.0 new tells.1 in
      (request_shares gives (view old) (view new) (slots_of old) (slots_of new) talk are user request tells.0 told hears.0 said.0 (tells.2 ∙ ap (λ (n : ℕ). sent_of n (cells_asked request) tells.0) (counts old)), said.1)
  told_comes old new talk (heard.Bad reason) told after are hears tells = (
    silent gives (view old) (view new) (slots_of old) (slots_of new) talk are (heard.Bad reason) told tt (ap view tells.0) (ap slots_of tells.0) (record { moments = refl; entries = refl; told = tells.1 }, refl),
    subst (λ (z : S). Lent old z) (sym tells.0) (itself old),
  )
  told_comes old new talk (heard.Broken reason) told after are hears tells = (
    silent gives (view old) (view new) (slots_of old) (slots_of new) talk are (heard.Broken reason) told tt (ap view tells.0) (ap slots_of tells.0) (record { moments = refl; entries = refl; told = tells.1 }, refl),
    subst (λ (z : S). Lent old z) (sym tells.0) (itself old),
  )
  told_comes old new talk heard.NoMemory told after are hears tells = (
    silent gives (view old) (view new) (slots_of old) (slots_of new) talk are heard.NoMemory told tt (ap view tells.0) (ap slots_of tells.0) (record { moments = refl; entries = refl; told = tells.1 }, refl),
    subst (λ (z : S). Lent old z) (sym tells.0) (itself old),
  )

  -- what some pieces come to, from a talk on
  record Carried (old new : Side S) (talk : Talk) (pieces : List Piece) (text : List ℕ) : Type 0 where
    exchanges : List Exchange
    last : Talk
    talks : Talks talk pieces exchanges last
    replies : text ≡ replied exchanges
    gave : Gave gives (view old.service).moments (moments_of exchanges) (view new.service).moments
    events : List Event
    slips : List Slip
    booked : AreBooked exchanges events slips
    follows : Follows (view old.service).seat events slips (view new.service).seat
    receipts : (view new.service).receipts ≡ (view old.service).receipts ++ map spent slips
    lent : Lent old.service new.service

  carried : (pieces : List Piece) (old new : Side S) (talk : Talk) (text : List ℕ) → old.user ≡ talk.user → SlotsAre talk.moves (slots_of old.service) → Turns s old pieces text new → Carried old new talk pieces text
  carried [] old new talk text by are turns = record {
    exchanges = [];
    last = talk;
    talks = refl;
    replies = turns.0;
    gave = ap (λ (z : Side S). (view z.service).moments) turns.1;
    events = [];
    slips = [];
    booked = (refl, refl);
    follows = ap (λ (z : Side S). (view z.service).seat) turns.1;
    receipts = ap (λ (z : Side S). (view z.service).receipts) turns.1 ∙ sym (append-nil (view old.service).receipts);
    lent = subst (λ (z : Side S). Lent old.service z.service) (sym turns.1) (itself old.service);
  }
  carried (piece ∷ pieces) old new talk text by are turns =
      let mid : Side S = turns.2 in
      let turn : Turn s old piece turns.0 mid = turns.3 in
      let hears : Hears talk.user turn.what mid.user = subst (λ (u : Option (List ℕ)). Hears u turn.what mid.user) by turn.by in
      let both = told_comes old.service mid.service talk turn.what turn.told mid.user are hears turn.tells in
      let one : Comes gives (view old.service) talk turn.what turn.told (view mid.service) (slots_of mid.service) = both.0 in
      let x : Exchange = one.x in
      let next : Talk = record { user = mid.user; moves = one.after } in
      let rest : Carried mid new next pieces turns.1 = carried pieces mid new next turns.1 refl one.slots turns.4 in
      let read : IsRead (is_some talk.user) piece x.what = subst (λ (u : Option (List ℕ)). IsRead (is_some u) piece x.what) by (subst (λ (a : Heard). IsRead (is_some old.user) piece a) (sym one.asks) turn.read) in
      let speaks : Speaks talk x next = record { by = subst (λ (a : Heard). Hears talk.user a mid.user) (sym one.asks) hears; does = one.does } in
      let texts : map spent (one.slips ++ rest.slips) ≡ map spent one.slips ++ map spent rest.slips = map-append spent one.slips rest.slips in
      record {
        exchanges = x ∷ rest.exchanges;
        last = rest.last;
        talks = (next, read, speaks, rest.talks);
        replies = turns.5 ∙ (λ i. (turn.bytes ∙ ap sent_bytes (sym one.tells)) i ++ rest.replies i);
        gave = gave_join gives (view old.service).moments (view mid.service).moments (view new.service).moments x.moments (moments_of rest.exchanges) one.gave rest.gave;
        events = one.events ++ rest.events;
        slips = one.slips ++ rest.slips;
        booked = booked_join (x ∷ []) rest.exchanges one.events rest.events one.slips rest.slips one.booked rest.booked;
        follows = follows_join (view old.service).seat (view mid.service).seat (view new.service).seat one.events rest.events one.slips rest.slips one.follows rest.follows;
        receipts = rest.receipts ∙ ap (λ (q : List Slip). q ++ map spent rest.slips) one.receipts ∙ append_assoc (view old.service).receipts (map spent one.slips) (map spent rest.slips)
            ∙ ap (λ (q : List Slip). (view old.service).receipts ++ q) (sym texts);
        lent = along old.service mid.service new.service both.1 rest.lent;
      }

  -- what all pieces come to, from the beginning
  shares_pieces : (old new : S) (user : Option (List ℕ)) (pieces : List Piece) (text : List ℕ) → slots_of old ≡ [] → Turns s (first_side old) pieces text (record { user = user; service = new })
      → SharesPieces gives (view old) pieces text (view new) × Lent old new
  shares_pieces old new user pieces text none turns = (
    record {
      exchanges = all.exchanges;
      last = all.last;
      talks = all.talks;
      replies = all.replies;
      moments = all.gave;
      events = all.events;
      slips = all.slips;
      booked = all.booked;
      follows = all.follows;
      receipts = all.receipts;
    },
    all.lent,
  )
    where
      all : Carried (first_side old) (record { user = user; service = new }) new_talk pieces text
      all = carried pieces (first_side old) (record { user = user; service = new }) new_talk text refl (subst (λ (ss : List (Option SessionState)). SlotsAre [] ss) (sym none) slots_none) turns

  -- ---- with the seat, its receipts and the moments as they are once nothing is lent any more
  module _ {R W : Type 0} (i : InputGhosts R) (o : OutputGhosts W) (old new : S) (input input' : R) (output output' : W) (left : Seated M) (none : slots_of old ≡ []) (back : Lent old new → (left.seat ≡ (view new).seat) × (left.receipts ≡ (view new).receipts) × (left.moments ≡ (view new).moments)) where
    given_back : (user : Option (List ℕ)) (pieces : List Piece) (text : List ℕ) → Turns s (first_side old) pieces text (record { user = user; service = new }) → SharesPieces gives (view old) pieces text left
    given_back user pieces text turns =
        let served = shares_pieces old new user pieces text none turns in
        let ends = back served.1 in
        let is : left ≡ view new = λ i. record { seat = ends.0 i; receipts = ends.1 i; moments = ends.2 i } in
        subst (λ (z : Seated M). SharesPieces gives (view old) pieces text z) (sym is) served.0

    all_shared : (user : Option (List ℕ)) (ahead : Option (List ℕ)) (Holds : List ℕ → Type 0) → AnswersAll s (first_side old) ahead (record { user = user; service = new }) Holds
        → IfSome ahead (λ bytes. (text : List ℕ) × SharesPieces gives (view old) (pieces_of bytes) text left × Holds text)
    all_shared user None Holds answers = tt
    all_shared user (Some bytes) Holds answers = (answers.0, given_back user (pieces_of bytes) answers.0 answers.1, answers.2)

    some_shared : (user : Option (List ℕ)) (ahead : Option (List ℕ)) (Holds : List ℕ → Type 0) → AnswersSome s (first_side old) ahead (record { user = user; service = new }) Holds
        → IfSome ahead (λ bytes. (pieces : List Piece) × (more : List Piece) × (text : List ℕ) × (pieces_of bytes ≡ pieces ++ more) × SharesPieces gives (view old) pieces text left × Holds text)
    some_shared user None Holds answers = tt
    some_shared user (Some bytes) Holds answers = (answers.0, answers.1, answers.2, answers.3, given_back user answers.0 answers.2 answers.4, answers.5)

    front_shared : (user : Option (List ℕ)) (ahead : Option (List ℕ)) (Behind Holds : List ℕ → Type 0) → AnswersFront s (first_side old) ahead (record { user = user; service = new }) Behind Holds
        → IfSome ahead (λ bytes. (pieces : List Piece) × (behind : List ℕ) × (text : List ℕ)
        × Behind behind × (pieces_of bytes ≡ pieces ++ pieces_of behind) × AtFront bytes pieces behind × SharesPieces gives (view old) pieces text left × Holds text)
    front_shared user None Behind Holds answers = tt
    front_shared user (Some bytes) Behind Holds answers = (answers.0, answers.1, answers.2, answers.3, answers.4, answers.5, given_back user answers.0 answers.2 answers.6, answers.7)

    pub shares_all : (r : Result (Unit {0}) ServeFault) → Converses i o s old input output new input' output' r → SharesAll i o gives (view old) input output left input' output' r
    shares_all (Ok u) talks = (all_shared talks.0.0 (i.remaining input) (IsWritten o output output') talks.0.1, talks.1)
    shares_all (Err Read) talks = (front_shared talks.0.0 (i.remaining input) (IsLeftButPart (i.remaining input')) (IsWritten o output output') talks.0.1, talks.1)
    shares_all (Err Write) talks = some_shared talks.0 (i.remaining input) (IsWrittenPart o output output') talks.1
