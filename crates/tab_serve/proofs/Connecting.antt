-- A whole connection over a core: from what comes of the pieces of its stream to the history that they make.
use Rattle.std.proofs.Common.{◌≡◌, ℕ, ℤ, Bool, List, [], ◌∷◌, ◌++◌, length, Option, Some, None, refl, sym, ap, ◌∙◌, subst, append_assoc, append-nil}
use Rattle.std.specs.Prelude.{Result, Ok, Err, IfSome, is_some}
use Rattle.tab_io.specs.declared.reading.Input.{Ghosts as InputGhosts}
use Rattle.tab_io.specs.declared.writing.Output.{Ghosts as OutputGhosts}
use Rattle.tab_history.specs.Answers.{Told}
use Rattle.tab_history.specs.Histories.{Entry, World, world_of, world_after, moves_of}
use Rattle.tab_history.specs.Legal.{Legal}
use Rattle.tab_history.specs.Refinement.{Refines}
use Rattle.tab_history.specs.Chains.{IsChain}
use Rattle.tab_core.specs.SessionState.{SessionState}
use Rattle.tab_core.specs.Stores.{CoreContents, base_of}
use Rattle.tab_core.specs.Chains.{ServedGoes}
use Rattle.tab_core.specs.Slots.{SlotsAre}
use Rattle.tab_core.proofs.SlotLemmas.{slots_none}
use Rattle.tab_core.proofs.ChainLaws.{served_refines}
use Rattle.tab_core.proofs.Runs.{after_none}
use Rattle.tab_core.proofs.Joining.{chain_join}
use Rattle.tab_wire.specs.declared.request.Request.{Request}
use Rattle.tab_wire.specs.Heard.{Heard}
use Rattle.tab_wire.specs.Heard as heard
use Rattle.tab_wire.specs.Asking.{IsRead, Hears}
use Rattle.tab_wire.specs.Replies.{Sent, sent_of, sent_bytes}
use Rattle.tab_wire.specs.Stream.{Piece, pieces_of, AtFront}
use Rattle.tab_wire.specs.Talking.{Talk, new_talk, Exchange, Speaks, Talks, entries_of, moments_of, replied}
use Rattle.tab_wire.specs.TalkLaws.{KnowsSessions}
use Rattle.tab_wire.proofs.NoSlots.{read_free}
use Rattle.tab_wire.proofs.WholeTalks.{talks_stay}
use Rattle.tab_serve.specs.declared.fault.ServeFault.{ServeFault}
use Rattle.tab_serve.specs.declared.fault.ServeFault.TheVariants.{Read, Write}
use Rattle.tab_serve.specs.declared.service.Service.{Ghosts}
use Rattle.tab_serve.specs.Turns.{Side, Tells, Turn, Turns, cells_asked}
use Rattle.tab_serve.specs.Progress.{AnswersAll, AnswersSome, AnswersFront, IsLeftButPart, IsWritten, IsWrittenPart, Converses, first_side}
use Rattle.tab_serve.specs.Serves.{Served, Serves}
use Rattle.tab_serve.specs.Serving.{Gave, ServesPieces, ServesAll}
use Rattle.tab_serve.proofs.Carrying.{Comes, quiet, request_comes}

-- ---- a chain of exact steps goes on with each history that its first core refined
chain_further : (w : World) (h : List Entry) (first last : CoreContents) (es : List Entry) → IsChain ServedGoes first es last → Refines (world_of (base_of first)) (world_after w h) → Refines (world_of (base_of last)) (world_after w (es ++ h))
chain_further w h first last [] same refines = subst (λ (c : CoreContents). Refines (world_of (base_of c)) (world_after w h)) same refines
chain_further w h first last (e ∷ es) chain refines = served_refines w (es ++ h) chain.0 last e chain.2 (chain_further w h first chain.0 es chain.1 refines)

-- ---- moments, one after another
gave_join : {M : Type 0} (gives : M → ℤ → M → Type 0) (a b c : M) (xs ys : List ℤ) → Gave gives a xs b → Gave gives b ys c → Gave gives a (xs ++ ys) c
gave_join gives a b c [] ys first next = subst (λ m. Gave gives m ys c) first next
gave_join gives a b c (x ∷ xs) ys first next = (first.0, first.1, gave_join gives first.0 b c xs ys first.2 next)

-- before anything was asked no one has a session
knows_none : (w : World) → KnowsSessions w [] new_talk
unfolding moves_of
knows_none w user by = refl

-- ---- any service that does what a core does, and what it keeps of what is lent to it
module _ {S M : Type 0} (s : Ghosts S) (gives : M → ℤ → M → Type 0) (view : S → Served M) (Lent : S → S → Type 0) (itself : (x : S) → Lent x x) (along : (x y z : S) → Lent x y → Lent y z → Lent x z)
    (says : (x : S) (user : List ℕ) (request : Request) (r : Told) (y : S) → s.answers x user request r y → Serves gives (view x) user request r (view y) × Lent x y) (counts : (x : S) → s.opened x ≡ length (view x).slots) where
  -- what one piece comes to
  told_comes : (old new : S) (talk : Talk) (greeted : Bool) (piece : Piece) (what : Heard) (told : Sent) (user : Option (List ℕ)) → IsRead greeted piece what → SlotsAre talk.moves (view old).slots → Hears talk.user what user → Tells s old what told new → Comes gives (view old) talk what told (view new) × Lent old new
  told_comes old new talk greeted piece (heard.Request user request) told after read are hears tells =
      let said = says old user request tells.0 new tells.1 in
      (request_comes gives (view old) (view new) talk are user request tells.0 told (read_free greeted piece user request read) hears.0 said.0 (tells.2 ∙ ap (λ (n : ℕ). sent_of n (cells_asked request) tells.0) (counts old)), said.1)
  told_comes old new talk greeted piece (heard.Bad reason) told after read are hears tells =
      (quiet gives (view old) (view new) talk are (heard.Bad reason) told (ap view tells.0) (record { moments = refl; entries = refl; told = tells.1 }, refl), subst (λ (z : S). Lent old z) (sym tells.0) (itself old))
  told_comes old new talk greeted piece (heard.Broken reason) told after read are hears tells =
      (quiet gives (view old) (view new) talk are (heard.Broken reason) told (ap view tells.0) (record { moments = refl; entries = refl; told = tells.1 }, refl), subst (λ (z : S). Lent old z) (sym tells.0) (itself old))
  told_comes old new talk greeted piece heard.NoMemory told after read are hears tells =
      (quiet gives (view old) (view new) talk are heard.NoMemory told (ap view tells.0) (record { moments = refl; entries = refl; told = tells.1 }, refl), subst (λ (z : S). Lent old z) (sym tells.0) (itself old))

  -- what some pieces come to, from a talk on
  record Carried (old new : Side S) (talk : Talk) (pieces : List Piece) (text : List ℕ) : Type 0 where
    exchanges : List Exchange
    last : Talk
    talks : Talks talk pieces exchanges last
    replies : text ≡ replied exchanges
    gave : Gave gives (view old.service).moments (moments_of exchanges) (view new.service).moments
    exact : IsChain ServedGoes (view old.service).core (entries_of exchanges) (view new.service).core
    histories : (w : World) (h : List Entry) → Refines (world_of (base_of (view old.service).core)) (world_after w h) → Legal w h → KnowsSessions w h talk
        → Legal w (entries_of exchanges ++ h) × KnowsSessions w (entries_of exchanges ++ h) last
    lent : Lent old.service new.service

  carried : (pieces : List Piece) (old new : Side S) (talk : Talk) (text : List ℕ) → old.user ≡ talk.user → SlotsAre talk.moves (view old.service).slots → Turns s old pieces text new → Carried old new talk pieces text
  carried [] old new talk text by are turns = record {
    exchanges = [];
    last = talk;
    talks = refl;
    replies = turns.0;
    gave = ap (λ (z : Side S). (view z.service).moments) turns.1;
    exact = ap (λ (z : Side S). (view z.service).core) (sym turns.1);
    histories = λ w h refines legal knows. (legal, knows);
    lent = subst (λ (z : Side S). Lent old.service z.service) (sym turns.1) (itself old.service);
  }
  carried (piece ∷ pieces) old new talk text by are turns =
      let mid : Side S = turns.2 in
      let turn : Turn s old piece turns.0 mid = turns.3 in
      let hears : Hears talk.user turn.what mid.user = subst (λ (u : Option (List ℕ)). Hears u turn.what mid.user) by turn.by in
      let both = told_comes old.service mid.service talk (is_some old.user) piece turn.what turn.told mid.user turn.read are hears turn.tells in
      let one : Comes gives (view old.service) talk turn.what turn.told (view mid.service) = both.0 in
      let x : Exchange = one.x in
      let next : Talk = record { user = mid.user; moves = one.after } in
      let rest : Carried mid new next pieces turns.1 = carried pieces mid new next turns.1 refl one.slots turns.4 in
      let read : IsRead (is_some talk.user) piece x.what = subst (λ (u : Option (List ℕ)). IsRead (is_some u) piece x.what) by (subst (λ (a : Heard). IsRead (is_some old.user) piece a) (sym one.asks) turn.read) in
      let speaks : Speaks talk x next = record { by = subst (λ (a : Heard). Hears talk.user a mid.user) (sym one.asks) hears; does = one.does } in
      record {
        exchanges = x ∷ rest.exchanges;
        last = rest.last;
        talks = (next, read, speaks, rest.talks);
        replies = turns.5 ∙ (λ i. (turn.bytes ∙ ap sent_bytes (sym one.tells)) i ++ rest.replies i);
        gave = gave_join gives (view old.service).moments (view mid.service).moments (view new.service).moments x.moments (moments_of rest.exchanges) one.gave rest.gave;
        exact = chain_join ServedGoes (view old.service).core (view mid.service).core (view new.service).core x.entries (entries_of rest.exchanges) one.exact rest.exact;
        histories = λ w h refines legal knows.
            let stays = talks_stay w h talk (piece ∷ []) (x ∷ []) next legal knows (next, read, speaks, refl) (one.right w h refines knows, tt) in
            let further = chain_further w h (view old.service).core (view mid.service).core x.entries one.exact refines in
            let all = rest.histories w (x.entries ++ h) further stays.0 stays.1 in
            subst (λ (es : List Entry). Legal w es × KnowsSessions w es rest.last) (sym (append_assoc (entries_of rest.exchanges) x.entries h)) all;
        lent = along old.service mid.service new.service both.1 rest.lent;
      }

  -- what all pieces come to, from the beginning
  serves_pieces : (old new : S) (user : Option (List ℕ)) (pieces : List Piece) (text : List ℕ) → (view old).slots ≡ [] → Turns s (first_side old) pieces text (record { user = user; service = new })
      → ServesPieces gives (view old).core (view old).moments pieces text (view new).core (view new).moments × Lent old new
  serves_pieces old new user pieces text none turns = (
    record {
      exchanges = all.exchanges;
      last = all.last;
      talks = all.talks;
      replies = all.replies;
      moments = all.gave;
      exact = all.exact;
      histories = λ w refines.
          let from : Refines (world_of (base_of (view old).core)) (world_after w []) = subst (λ (v : World). Refines (world_of (base_of (view old).core)) v) (sym (after_none w)) refines in
          let es : List Entry = entries_of all.exchanges in
          let nil : es ++ [] ≡ es = append-nil es in
          let stays = all.histories w [] from tt (knows_none w) in
          record {
            legal = subst (λ (fs : List Entry). Legal w fs) nil stays.0;
            refines = subst (λ (fs : List Entry). Refines (world_of (base_of (view new).core)) (world_after w fs)) nil (chain_further w [] (view old).core (view new).core es all.exact from);
            sessions = subst (λ (fs : List Entry). KnowsSessions w fs all.last) nil stays.1;
          };
    },
    all.lent,
  )
    where
      all : Carried (first_side old) (record { user = user; service = new }) new_talk pieces text
      all = carried pieces (first_side old) (record { user = user; service = new }) new_talk text refl (subst (λ (ss : List (Option SessionState)). SlotsAre [] ss) (sym none) slots_none) turns

  -- ---- with the core and the moments as they are once nothing is lent any more
  module _ {R W : Type 0} (i : InputGhosts R) (o : OutputGhosts W) (old new : S) (input input' : R) (output output' : W) (core : CoreContents) (moments : M) (none : (view old).slots ≡ []) (back : Lent old new → (core ≡ (view new).core) × (moments ≡ (view new).moments)) where
    given_back : (user : Option (List ℕ)) (pieces : List Piece) (text : List ℕ) → Turns s (first_side old) pieces text (record { user = user; service = new }) → ServesPieces gives (view old).core (view old).moments pieces text core moments
    given_back user pieces text turns =
        let served = serves_pieces old new user pieces text none turns in
        let ends = back served.1 in
        subst (λ (c : CoreContents). ServesPieces gives (view old).core (view old).moments pieces text c moments) (sym ends.0) (subst (λ (m : M). ServesPieces gives (view old).core (view old).moments pieces text (view new).core m) (sym ends.1) served.0)

    all_served : (user : Option (List ℕ)) (ahead : Option (List ℕ)) (Holds : List ℕ → Type 0) → AnswersAll s (first_side old) ahead (record { user = user; service = new }) Holds
        → IfSome ahead (λ bytes. (text : List ℕ) × ServesPieces gives (view old).core (view old).moments (pieces_of bytes) text core moments × Holds text)
    all_served user None Holds answers = tt
    all_served user (Some bytes) Holds answers = (answers.0, given_back user (pieces_of bytes) answers.0 answers.1, answers.2)

    some_served : (user : Option (List ℕ)) (ahead : Option (List ℕ)) (Holds : List ℕ → Type 0) → AnswersSome s (first_side old) ahead (record { user = user; service = new }) Holds
        → IfSome ahead (λ bytes. (pieces : List Piece) × (more : List Piece) × (text : List ℕ) × (pieces_of bytes ≡ pieces ++ more) × ServesPieces gives (view old).core (view old).moments pieces text core moments × Holds text)
    some_served user None Holds answers = tt
    some_served user (Some bytes) Holds answers = (answers.0, answers.1, answers.2, answers.3, given_back user answers.0 answers.2 answers.4, answers.5)

    front_served : (user : Option (List ℕ)) (ahead : Option (List ℕ)) (Behind Holds : List ℕ → Type 0) → AnswersFront s (first_side old) ahead (record { user = user; service = new }) Behind Holds
        → IfSome ahead (λ bytes. (pieces : List Piece) × (behind : List ℕ) × (text : List ℕ)
        × Behind behind × (pieces_of bytes ≡ pieces ++ pieces_of behind) × AtFront bytes pieces behind × ServesPieces gives (view old).core (view old).moments pieces text core moments × Holds text)
    front_served user None Behind Holds answers = tt
    front_served user (Some bytes) Behind Holds answers = (answers.0, answers.1, answers.2, answers.3, answers.4, answers.5, given_back user answers.0 answers.2 answers.6, answers.7)

    pub serves_all : (r : Result (Unit {0}) ServeFault) → Converses i o s old input output new input' output' r → ServesAll i o gives (view old).core (view old).moments input output core moments input' output' r
    serves_all (Ok u) talks = (all_served talks.0.0 (i.remaining input) (IsWritten o output output') talks.0.1, talks.1)
    serves_all (Err Read) talks = (front_served talks.0.0 (i.remaining input) (IsLeftButPart (i.remaining input')) (IsWritten o output output') talks.0.1, talks.1)
    serves_all (Err Write) talks = some_served talks.0 (i.remaining input) (IsWrittenPart o output output') talks.1
