-- What a step of a book hands out.
use Rattle.std.proofs.Common.{◌≡◌, ℕ, ℤ, Bool, true, false, List, [], ◌∷◌, Option, None, refl, sym, ap, ◌∙◌, subst}
use mathlib.Core.Bool.{true≢false}
use Rattle.tab_history.specs.declared.event.Act.TheVariants.{Rotate}
use Rattle.tab_history.specs.declared.event.Event.{Event}
use Rattle.tab_history.specs.declared.reply.Reply.{Reply}
use Rattle.tab_history.specs.declared.reply.Reply.TheVariants.{Opened}
use Rattle.tab_history.specs.Answers.{is_open, told_opened, told_of, session_of}
use Rattle.tab_history.specs.Bases.{Base}
use Rattle.tab_history.specs.Histories.{Entry, world_of}
use Rattle.tab_core.specs.OpenSession.{OpenSession}
use Rattle.tab_core.specs.Parts.{TabletMerge}
use Rattle.tab_core.specs.Stores.{CoreContents}
use Rattle.tab_core.specs.Recording.{RefinesHistory, IsLegalFrom, ShowsAnswer, StepsOn, entry_of}
use Rattle.tab_serve.proofs.Shut.{event_shut}
use Rattle.tab_book.specs.Entries.{past, SeatState, Record}
use Rattle.tab_book.specs.HandedOut.{session_in, held_of}
use Rattle.tab_book.specs.Receipts.{Slip, Applies}
use Rattle.tab_book.specs.Rotating.{Portion, rotation, Rotates}
use Rattle.tab_book.proofs.Handing.{session_held}
use Rattle.tab_work.specs.Receiving.{HandsOut}

-- a step from a core that refines a legal history
stepped : (core core' : CoreContents) (base : Base) (h : List Entry) (given : Option TabletMerge) (event : Event) (reply : Reply OpenSession TabletMerge) → RefinesHistory core base h → IsLegalFrom base h → StepsOn core given event reply core' → HandsOut event.act (session_of reply)
unfolding IsLegalFrom ShowsAnswer
stepped core core' base h given event (Opened session) refines legal steps = go (is_open event.act) refl
  where
    go : (b : Bool) → is_open event.act ≡ b → (is_open event.act ≡ true) × (session.state.given ≡ 0)
    go true opens = (opens, ap (λ (s : OpenSession). s.state.given) (steps.hands base h refines))
    go false shut =
        let grown : IsLegalFrom base (entry_of event told_opened ∷ h) = steps.legal base h refines legal in
        absurd (true≢false (event_shut (world_of base) h [] event told_opened shut grown.1))
stepped core core' base h given event _ refines legal steps = tt

-- the receipt of a step of a book whose history is legal, and which its core refines
handed : (core core' : CoreContents) (base : Base) (h : List Entry) (given : Option TabletMerge) (event : Event) (slip : Slip) → IsLegalFrom base h → RefinesHistory core base h
    → ((reply : Reply OpenSession TabletMerge) × (slip.entry.reply ≡ told_of reply) × (slip.held ≡ held_of reply) × StepsOn core given event reply core') → HandsOut event.act (session_in slip.held)
handed core core' base h given event slip legal refines steps =
    let reply : Reply OpenSession TabletMerge = steps.0 in
    let is_its : session_in slip.held ≡ session_of reply = ap session_in steps.2 ∙ session_held reply in
    subst (λ (s : Option OpenSession). HandsOut event.act s) (sym is_its) (stepped core core' base h given event reply refines legal steps.3)

-- an event
pub applied : (book book' : Record) (seat seat' : SeatState) (given : Option TabletMerge) (event : Event) (slip : Slip) → IsLegalFrom book.base (past book.entries) → RefinesHistory book.core book.base (past book.entries)
    → Applies book seat given event slip book' seat' → HandsOut event.act (session_in slip.held)
applied book book' seat seat' given event slip legal refines does = handed book.core book'.core book.base (past book.entries) given event slip legal refines does.steps

-- a rotation
pub rotated : (book book' : Record) (seat seat' : SeatState) (user : List ℕ) (moment : ℤ) (slip : Slip) (part : Option Portion) → IsLegalFrom book.base (past book.entries) → RefinesHistory book.core book.base (past book.entries)
    → Rotates book seat user moment slip part book' seat' → HandsOut Rotate (session_in slip.held)
rotated book book' seat seat' user moment slip part legal refines does = handed book.core book'.core book.base (past book.entries) None (rotation user moment) slip legal refines does.steps
