-- To be believed by whoever relies on it. Histories that are handed out part by part.
use Rattle.std.specs.Prelude.{ℕ, ℤ, ◌≡◌, ◌+◌, List, [], ◌∷◌, ◌++◌, Option, Some, None, length}
use Rattle.tab_history.specs.Answers.{told_of}
use Rattle.tab_history.specs.Bases.{Base}
use Rattle.tab_history.specs.Histories.{world_of, world_after}
use Rattle.tab_history.specs.Refinement.{Refines}
use Rattle.tab_history.specs.declared.event.Act.TheVariants.{Rotate}
use Rattle.tab_history.specs.declared.event.Event.{Event}
use Rattle.tab_history.specs.declared.reply.Refusal.{Refusal}
use Rattle.tab_history.specs.declared.reply.Reply.{Reply}
use Rattle.tab_history.specs.declared.reply.Reply.TheVariants.{Done, Refused}
use Rattle.tab_core.specs.OpenSession.{OpenSession}
use Rattle.tab_core.specs.Parts.{TabletMerge}
use Rattle.tab_core.specs.Recording.{StepsOn}
use Rattle.tab_core.specs.Rotating.{raised}
use Rattle.tab_core.specs.Stepping.{asked_at}
use Rattle.tab_core.specs.Stores.{base_of}
use Rattle.tab_book.specs.HandedOut.{held_of}
use Rattle.tab_book.specs.Entries.{Posted, SeatState, Record, next_of, past}
use Rattle.tab_book.specs.Receipts.{Slip, Receives}

-- what is handed out: the entries from the number of the first one on, the oldest first, and the base from which they are legal
pub record Portion : Type 0 where
  pub first : ℕ
  pub base : Base
  pub entries : List Posted

-- what a book would hand out as it is
abbrev pub portion_of : Record → Portion
portion_of book = record { first = book.first; base = book.base; entries = book.entries }

-- the second begins where the first ends, on a base that refines what the first one leaves
pub record FollowsOn (earlier later : Portion) : Type 0 where
  pub number : later.first ≡ earlier.first + length earlier.entries
  pub refines : Refines (world_of later.base) (world_after (world_of earlier.base) (past earlier.entries))

-- the user's rotation at this moment
abbrev pub rotation : List ℕ → ℤ → Event
rotation user moment = asked_at user moment Rotate

-- A rotation that was refused is an entry more. One that was done hands out all up to its own entry, and the book has none then, on what its
-- core holds.
abbrev pub Leaves : Record → ℤ → Slip → Option Portion → Record → Type 0
Leaves book moment slip None book' =
    ((refusal : Refusal) × (slip.entry.reply ≡ Refused refusal))
    × (book' ≡ record book { entries = book.entries ++ slip.entry ∷ []; core = book'.core })
Leaves book moment slip (Some part) book' =
    (slip.entry.reply ≡ Done)
    × (part ≡ record { first = book.first; base = book.base; entries = book.entries ++ slip.entry ∷ [] })
    × (book' ≡ record book { base = raised moment (base_of book.core); first = next_of book + 1; entries = []; core = book'.core })
    × FollowsOn part (portion_of book')

-- A rotation of a seat: the core goes on by its step, whose reply the entry has, as after each event.
pub record Rotates (book : Record) (seat : SeatState) (user : List ℕ) (moment : ℤ) (slip : Slip) (part : Option Portion) (book' : Record) (seat' : SeatState) : Type 0 where
  pub receives : Receives seat (rotation user moment) slip seat'
  pub number : slip.number ≡ next_of book
  pub steps : (reply : Reply OpenSession TabletMerge) × (slip.entry.reply ≡ told_of reply) × (slip.held ≡ held_of reply) × StepsOn book.core None (rotation user moment) reply book'.core
  pub leaves : Leaves book moment slip part book'
