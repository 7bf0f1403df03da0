-- How many sessions a connection over a shared book has opened.
use Rattle.std.proofs.Common.{◌≡◌, inl, inr, ℕ, ℤ, ◌<◌, Bool, true, false, ◌&&◌, List, length, Option, refl, sym, ap, ◌∙◌, subst}
use Rattle.tab_history.specs.declared.event.Act.{Act}
use Rattle.tab_history.specs.declared.reply.Reply.{Reply}
use Rattle.tab_history.specs.declared.reply.Reply.TheVariants.{Opened}
use Rattle.tab_history.specs.Answers.{Told, told_of, session_of, is_open}
use Rattle.tab_core.specs.SessionState.{SessionState}
use Rattle.tab_core.specs.OpenSession.{OpenSession}
use Rattle.tab_core.specs.Parts.{TabletMerge}
use Rattle.tab_core.specs.Slots.{are_full}
use Rattle.tab_core.specs.Owners.{kept_with}
use Rattle.tab_wire.specs.declared.request.Request.{Request}
use Rattle.tab_wire.specs.declared.request.Request.TheVariants as asks
use Rattle.tab_wire.specs.Asking.{opens, opened_by}
use Rattle.tab_serve.specs.Serves.{Serves}
use Rattle.tab_serve.proofs.Counting.{Counts, none_counted, kept_counted, counted}
use Rattle.tab_book.specs.HandedOut.{session_in}
use Rattle.tab_book.proofs.Handing.{session_held}
use Rattle.tab_work.specs.Receiving.{HandsOut}
use Rattle.tab_work.specs.Shares.{Seated, DoesAct, Shares}
use Rattle.tab_work.proofs.Booking.{bare}

-- ---- a session that was handed out, for which there was room
kept : (act : Act) (slots : List (Option SessionState)) (r : Reply OpenSession TabletMerge) → (is_open act && are_full slots) ≡ false → HandsOut act (session_of r) → Counts slots (told_of r) (kept_with slots (session_of r))
kept act slots (Opened s) room hands = kept_counted slots (Opened s) (ap (λ (b : Bool). b && are_full slots) (sym hands.0) ∙ room)
kept act slots _ room hands = none_counted slots slots _ refl refl

-- ---- any request
module _ {M : Type 0} (gives : M → ℤ → M → Type 0) (old : Seated M) (slots : List (Option SessionState)) (user : List ℕ) (reply : Told) (new : Seated M) (slots' : List (Option SessionState)) where
  act_counted : (act : Act) → DoesAct gives old slots user act reply new slots' → Counts slots reply slots'
  act_counted act (inl full) = none_counted slots slots' reply (ap opens full.told) (ap (λ (ss : List (Option SessionState)). length ss) full.kept)
  act_counted act (inr (inl lacks)) = none_counted slots slots' reply (ap opens lacks.told) (ap (λ (ss : List (Option SessionState)). length ss) lacks.kept)
  act_counted act (inr (inr does)) =
      let r : Reply OpenSession TabletMerge = does.receives.whole.0 in
      let is_its : session_in does.slip.held ≡ session_of r = ap session_in does.receives.whole.2 ∙ session_held r in
      let told : reply ≡ told_of r = does.told ∙ does.receives.whole.1 in
      let after : slots' ≡ kept_with slots (session_of r) = does.kept ∙ ap (kept_with slots) is_its in
      subst (λ (ss : List (Option SessionState)). Counts slots reply ss) (sym after)
      (subst (λ (t : Told). Counts slots t (kept_with slots (session_of r))) (sym told) (kept act slots r does.room (subst (λ (s : Option OpenSession). HandsOut act s) is_its does.hands)))

  own_counted : (request : Request) → Serves gives (record { core = bare; slots = slots; moments = old.moments }) user request reply (record { core = bare; slots = slots'; moments = new.moments }) → Counts slots reply slots'
  own_counted request says = counted gives (record { core = bare; slots = slots; moments = old.moments }) user reply (record { core = bare; slots = slots'; moments = new.moments }) request says

  shared_counted : (request : Request) → Shares gives old slots user request reply new slots' → Counts slots reply slots'
  shared_counted (asks.Hello name) says = own_counted (asks.Hello name) (says.0, (λ i. record { core = bare; slots = says.2 i; moments = (says.1 i).moments }))
  shared_counted (asks.Act act) says = act_counted act says
  shared_counted (asks.Next slot n) says = own_counted (asks.Next slot n) (says.0, record { core = refl; moments = ap (λ (s : Seated M). s.moments) says.1 })
  shared_counted (asks.Many slot ranges) says = own_counted (asks.Many slot ranges) (says.0, (λ i. record { core = bare; slots = says.2 i; moments = (says.1 i).moments }))
  shared_counted (asks.Close slot) says = own_counted (asks.Close slot) (says.0, record { core = refl; moments = ap (λ (s : Seated M). s.moments) says.1 })

  -- there was room for a session that is opened
  pub shares_room : (request : Request) → Shares gives old slots user request reply new slots' → opens reply ≡ true → length slots < 4294967295
  shares_room request says = (shared_counted request says).room

  -- each is counted
  pub shares_opened : (request : Request) → Shares gives old slots user request reply new slots' → length slots' ≡ opened_by (length slots) reply
  shares_opened request says = (shared_counted request says).opened
