-- What one request comes to over a shared book: an exchange of the connection, with the receipts that there are for it.
use Rattle.std.proofs.Common.{◌≡◌, inl, inr, ℕ, ℤ, pos, Bool, true, false, cond, ◌&&◌, List, [], ◌∷◌, ◌++◌, map, length, Option, Some, None, refl, sym, ap, ◌∙◌, subst, append-nil}
use Rattle.tab_key.specs.Records.{Cell}
use Rattle.tab_key.specs.declared.limited_part.LimitedPart.TheVariants.{Sessions}
use Rattle.tab_history.specs.declared.event.Act.{Act}
use Rattle.tab_history.specs.declared.event.Event.{Event}
use Rattle.tab_history.specs.declared.event.Step.TheVariants as step
use Rattle.tab_history.specs.declared.reply.Refusal.TheVariants.{NoMemory, TooLarge}
use Rattle.tab_history.specs.declared.reply.Reply.{Reply}
use Rattle.tab_history.specs.declared.reply.Reply.TheVariants.{Refused, Opened}
use Rattle.tab_history.specs.Answers.{Told, told_of, session_of, is_open}
use Rattle.tab_history.specs.Sessions.{Move, Opening, opened, is_full}
use Rattle.tab_history.specs.Bases.{new_core}
use Rattle.tab_core.specs.SessionState.{SessionState}
use Rattle.tab_core.specs.OpenSession.{OpenSession}
use Rattle.tab_core.specs.Parts.{TabletMerge}
use Rattle.tab_core.specs.Stores.{CoreContents}
use Rattle.tab_core.specs.Slots.{are_full, SlotsAre}
use Rattle.tab_core.specs.Owners.{kept_with}
use Rattle.tab_core.specs.Recording.{entry_of}
use Rattle.tab_core.proofs.SlotLemmas.{slots_opened, full_alike}
use Rattle.tab_book.specs.HandedOut.{session_in}
use Rattle.tab_book.specs.Receipts.{Slip}
use Rattle.tab_book.proofs.Handing.{session_held}
use Rattle.tab_wire.specs.declared.request.Request.{Request}
use Rattle.tab_wire.specs.declared.request.Request.TheVariants as asks
use Rattle.tab_wire.specs.Heard.{Heard}
use Rattle.tab_wire.specs.Heard as heard
use Rattle.tab_wire.specs.Asking.{IsBy}
use Rattle.tab_wire.specs.Replies as sent
use Rattle.tab_wire.specs.Replies.{Sent, sent_of}
use Rattle.tab_wire.specs.Talking.{Talk, Exchange, Answers, moves_told}
use Rattle.tab_serve.specs.Turns.{cells_asked}
use Rattle.tab_serve.specs.Serves.{Serves, asked_at}
use Rattle.tab_serve.specs.Serving.{Gave}
use Rattle.tab_serve.proofs.Carrying.{Comes as ComesOver, quiet, request_comes}
use Rattle.tab_wire.proofs.NoSlots.{AsksNoSlot}
use Rattle.tab_work.specs.Receiving.{HandsOut, spent, Follows}
use Rattle.tab_work.specs.Shares.{Seated, IsTooMany, Lacks, Books, DoesAct, Shares}
use Rattle.tab_work.specs.Sharing.{HasList, AreBooked}

-- ---- one exchange
-- What is asked comes to this exchange, the sessions stand where the connection does, and the receipts for it follow.
pub record Comes {M : Type 0} (gives : M → ℤ → M → Type 0) (old : Seated M) (talk : Talk) (what : Heard) (told : Sent) (new : Seated M) (slots' : List (Option SessionState)) : Type 0 where
  pub x : Exchange
  pub after : List Move
  pub asks : x.what ≡ what
  pub tells : x.told ≡ told
  pub does : Answers talk.moves x.what x after
  pub slots : SlotsAre after slots'
  pub gave : Gave gives old.moments x.moments new.moments
  pub events : List Event
  pub slips : List Slip
  pub booked : AreBooked (x ∷ []) events slips
  pub follows : Follows old.seat events slips new.seat
  pub receipts : new.receipts ≡ old.receipts ++ map spent slips

-- ---- what asks no event takes no moment
abbrev IsNoAct : Heard → Type 0
IsNoAct (heard.Request user (asks.Hello name)) = Unit {0}
IsNoAct (heard.Request user (asks.Act act)) = ⊥
IsNoAct (heard.Request user (asks.Next slot n)) = Unit {0}
IsNoAct (heard.Request user (asks.Many slot ranges)) = Unit {0}
IsNoAct (heard.Request user (asks.Close slot)) = Unit {0}
IsNoAct (heard.Bad reason) = Unit {0}
IsNoAct (heard.Broken reason) = Unit {0}
IsNoAct heard.NoMemory = Unit {0}

no_moment : (moves : List Move) (what : Heard) (x : Exchange) (after : List Move) → IsNoAct what → Answers moves what x after → x.moments ≡ []
no_moment moves (heard.Request user (asks.Hello name)) x after none_acts does = does.0.moments
no_moment moves (heard.Request user (asks.Act act)) x after none_acts does = absurd none_acts
no_moment moves (heard.Request user (asks.Next slot n)) x after none_acts does = does.2.moments
no_moment moves (heard.Request user (asks.Many slot ranges)) x after none_acts does = does.2.moments
no_moment moves (heard.Request user (asks.Close slot)) x after none_acts does = does.2.moments
no_moment moves (heard.Bad reason) x after none_acts does = does.0.moments
no_moment moves (heard.Broken reason) x after none_acts does = does.0.moments
no_moment moves heard.NoMemory x after none_acts does = does.0.moments

-- any core will do where none is asked
pub bare : CoreContents
bare = record { clock = pos 0; next = 0; policy = new_core.policy; tables = []; tablet = 0; job = 0 }

module _ {M : Type 0} (gives : M → ℤ → M → Type 0) (old new : Seated M) (slots slots' : List (Option SessionState)) (talk : Talk) (are : SlotsAre talk.moves slots) where
  -- what takes no moment has no receipt
  unbooked : (what : Heard) (told : Sent) → new ≡ old → (one : ComesOver gives (record { core = bare; slots = slots; moments = old.moments }) talk what told (record { core = bare; slots = slots'; moments = new.moments })) → one.x.moments ≡ [] → Comes gives old talk what told new slots'
  unbooked what told same one none = record {
    x = one.x;
    after = one.after;
    asks = one.asks;
    tells = one.tells;
    does = one.does;
    slots = one.slots;
    gave = one.gave;
    events = [];
    slips = [];
    booked = inl (none, (refl, refl));
    follows = ap (λ (s : Seated M). s.seat) same;
    receipts = ap (λ (s : Seated M). s.receipts) same ∙ sym (append-nil old.receipts);
  }

  still : (what : Heard) (told : Sent) → IsNoAct what → new ≡ old → ComesOver gives (record { core = bare; slots = slots; moments = old.moments }) talk what told (record { core = bare; slots = slots'; moments = new.moments }) → Comes gives old talk what told new slots'
  still what told none_acts same one = unbooked what told same one (no_moment talk.moves what one.x one.after none_acts (subst (λ (a : Heard). Answers talk.moves a one.x one.after) one.asks one.does))

  -- what asks for no step
  pub silent : (what : Heard) (told : Sent) → IsNoAct what → new ≡ old → slots' ≡ slots → Answers talk.moves what (record { what = what; moments = []; entries = []; all = []; told = told }) talk.moves → Comes gives old talk what told new slots'
  silent what told none_acts same kept does =
      still what told none_acts same (quiet gives (record { core = bare; slots = slots; moments = old.moments }) (record { core = bare; slots = slots'; moments = new.moments }) talk are what told
      (λ i. record { core = bare; slots = kept i; moments = (same i).moments }) does)

  -- ---- acts
  module _ (user : List ℕ) (act : Act) (told : Sent) where
    -- an Open past the limit of sessions
    too_many : (r : Told) → IsTooMany old slots act r new slots' → told ≡ sent_of (length slots) 0 r → Comes gives old talk (heard.Request user (asks.Act act)) told new slots'
    too_many r many is =
        let full : is_full talk.moves ≡ true = full_alike talk.moves slots are ∙ many.full in
        let x : Exchange = record { what = heard.Request user (asks.Act act); moments = []; entries = entry_of (asked_at user (pos 0) act) (Refused (TooLarge Sessions)) ∷ []; all = []; told = sent.Refused (TooLarge Sessions) } in
        record {
          x = x;
          after = talk.moves;
          asks = refl;
          tells = sym (is ∙ ap (sent_of (length slots) 0) many.told);
          does = inl ((λ i. many.opens i && full i), record { moments = refl; entries = refl; told = refl }, refl);
          slots = subst (λ (ss : List (Option SessionState)). SlotsAre talk.moves ss) (sym many.kept) are;
          gave = ap (λ (s : Seated M). s.moments) many.same;
          events = [];
          slips = [];
          booked = inl (refl, (refl, refl));
          follows = ap (λ (s : Seated M). s.seat) many.same;
          receipts = ap (λ (s : Seated M). s.receipts) many.same ∙ sym (append-nil old.receipts);
        }

    -- there is room for a session where it may be opened
    free : (is_open act && are_full slots) ≡ false → (is_open act && is_full talk.moves) ≡ false
    free room = ap (λ (b : Bool). is_open act && b) (full_alike talk.moves slots are) ∙ room

    numbered_alike : (r : Told) → told ≡ sent_of (length slots) 0 r → sent_of (opened talk.moves) 0 r ≡ told
    numbered_alike r is = ap (λ (k : ℕ). sent_of k 0 r) are.count ∙ sym is

    -- memory lacked
    lacks : (r : Told) → Lacks gives old slots act r new slots' → told ≡ sent_of (length slots) 0 r → Comes gives old talk (heard.Request user (asks.Act act)) told new slots'
    lacks r lacking is =
        let e : Event = asked_at user lacking.moment act in
        let x : Exchange = record { what = heard.Request user (asks.Act act); moments = lacking.moment ∷ []; entries = entry_of e (Refused NoMemory) ∷ []; all = []; told = sent_of (opened talk.moves) 0 (Refused NoMemory) } in
        record {
          x = x;
          after = talk.moves;
          asks = refl;
          tells = numbered_alike (Refused NoMemory) (is ∙ ap (sent_of (length slots) 0) lacking.told);
          does = inr (free lacking.room, (lacking.moment, Refused NoMemory, record { moments = refl; entries = refl; told = refl }, refl));
          slots = subst (λ (ss : List (Option SessionState)). SlotsAre talk.moves ss) (sym lacking.kept) are;
          gave = (new.moments, lacking.gave, refl);
          events = [];
          slips = [];
          booked = inr (inl (record { event = e; moment = refl; step = refl }, (refl, refl)));
          follows = lacking.seat;
          receipts = lacking.receipts ∙ sym (append-nil old.receipts);
        }

    -- the whole answer of a session that was handed out
    abbrev list_of : Option OpenSession → List Cell
    list_of None = []
    list_of (Some session) = session.state.all

    has_list : (s : Option OpenSession) → HandsOut act s → HasList (list_of s) s
    has_list None hands = tt
    has_list (Some session) hands = λ i. record { all = session.state.all; given = hands.1 i }

    -- the sessions of the connection, with the one that was handed out
    kept_slots : (e : Event) → e.act ≡ act → (r : Reply OpenSession TabletMerge) → HandsOut act (session_of r) → SlotsAre (moves_told (step.Event e) (told_of r) (list_of (session_of r)) ++ talk.moves) (kept_with slots (session_of r))
    kept_slots e is (Opened session) hands =
        let there : SlotsAre (Opening session.state.all ∷ talk.moves) (slots ++ Some session.state ∷ []) = subst (λ (s : SessionState). SlotsAre (Opening session.state.all ∷ talk.moves) (slots ++ Some s ∷ [])) (sym (has_list (Some session) hands)) (slots_opened talk.moves slots session.state.all are) in
        subst (λ (b : Bool). SlotsAre (cond b (Opening session.state.all ∷ []) [] ++ talk.moves) (slots ++ Some session.state ∷ [])) (sym (ap is_open is ∙ hands.0)) there
    kept_slots e is _ hands = are

    -- the seat's next event
    books : (r : Told) → Books gives old slots user act r new slots' → told ≡ sent_of (length slots) 0 r → Comes gives old talk (heard.Request user (asks.Act act)) told new slots'
    books r does is =
        let e : Event = asked_at user does.moment act in
        let slip : Slip = does.slip in
        let reply : Reply OpenSession TabletMerge = does.receives.whole.0 in
        let session : Option OpenSession = session_in slip.held in
        let is_its : session ≡ session_of reply = ap session_in does.receives.whole.2 ∙ session_held reply in
        let all : List Cell = list_of session in
        let x : Exchange = record { what = heard.Request user (asks.Act act); moments = does.moment ∷ []; entries = entry_of e slip.entry.reply ∷ []; all = all; told = sent_of (opened talk.moves) 0 slip.entry.reply } in
        let there : SlotsAre (moves_told (step.Event e) (told_of reply) (list_of (session_of reply)) ++ talk.moves) (kept_with slots (session_of reply)) =
        kept_slots e refl reply (subst (λ (s : Option OpenSession). HandsOut act s) is_its does.hands) in
        let here : SlotsAre (moves_told (step.Event e) slip.entry.reply (list_of session) ++ talk.moves) (kept_with slots session) =
        subst (λ (t : Told). SlotsAre (moves_told (step.Event e) t (list_of session) ++ talk.moves) (kept_with slots session)) (sym does.receives.whole.1)
        (subst (λ (s : Option OpenSession). SlotsAre (moves_told (step.Event e) (told_of reply) (list_of s) ++ talk.moves) (kept_with slots s)) (sym is_its) there) in
        record {
          x = x;
          after = moves_told (step.Event e) slip.entry.reply all ++ talk.moves;
          asks = refl;
          tells = numbered_alike slip.entry.reply (is ∙ ap (sent_of (length slots) 0) does.told);
          does = inr (free does.room, (does.moment, slip.entry.reply, record { moments = refl; entries = refl; told = refl }, refl));
          slots = subst (λ (ss : List (Option SessionState)). SlotsAre (moves_told (step.Event e) slip.entry.reply all ++ talk.moves) ss) (sym does.kept) here;
          gave = (new.moments, does.gave, refl);
          events = e ∷ [];
          slips = slip ∷ [];
          booked = inr (inr (e, slip, [], [], refl, refl, record { moment = refl; step = refl; list = has_list session does.hands }, (refl, refl)));
          follows = (new.seat, does.receives, refl);
          receipts = does.receipts;
        }

    act_comes : (r : Told) → DoesAct gives old slots user act r new slots' → told ≡ sent_of (length slots) 0 r → Comes gives old talk (heard.Request user (asks.Act act)) told new slots'
    act_comes r (inl many) is = too_many r many is
    act_comes r (inr (inl lacking)) is = lacks r lacking is
    act_comes r (inr (inr does)) is = books r does is

  -- ---- a step on a session
  own_comes : (user : List ℕ) (request : Request) (r : Told) (told : Sent) → IsNoAct (heard.Request user request) → AsksNoSlot request → IsBy talk.user user request → new ≡ old
      → Serves gives (record { core = bare; slots = slots; moments = old.moments }) user request r (record { core = bare; slots = slots'; moments = new.moments }) → told ≡ sent_of (length slots) (cells_asked request) r
      → Comes gives old talk (heard.Request user request) told new slots'
  own_comes user request r told none_acts names by same serves is =
      still (heard.Request user request) told none_acts same (request_comes gives (record { core = bare; slots = slots; moments = old.moments }) (record { core = bare; slots = slots'; moments = new.moments }) talk are user request r told names by serves is)

  -- ---- any request
  pub request_shares : (user : List ℕ) (request : Request) (r : Told) (told : Sent) → IsBy talk.user user request → Shares gives old slots user request r new slots' → told ≡ sent_of (length slots) (cells_asked request) r
      → Comes gives old talk (heard.Request user request) told new slots'
  request_shares user (asks.Hello name) r told by says is =
      silent (heard.Request user (asks.Hello name)) told tt says.1 says.2 (record { moments = refl; entries = refl; told = is ∙ ap (sent_of (length slots) 0) says.0 }, refl)
  request_shares user (asks.Act act) r told by says is = act_comes user act told r says is
  request_shares user (asks.Next slot n) r told by says is = own_comes user (asks.Next slot n) r told tt tt by says.1 (says.0, record { core = refl; moments = ap (λ (s : Seated M). s.moments) says.1 }) is
  request_shares user (asks.Many slot ranges) r told by says is =
      own_comes user (asks.Many slot ranges) r told tt tt by says.1 (says.0, (λ i. record { core = bare; slots = says.2 i; moments = (says.1 i).moments })) is
  request_shares user (asks.Close slot) r told by says is = own_comes user (asks.Close slot) r told tt tt by says.1 (says.0, record { core = refl; moments = ap (λ (s : Seated M). s.moments) says.1 }) is
