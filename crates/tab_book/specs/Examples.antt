-- Worked examples, computed: of a small history its order, its numbers, and which receipts stand in it; and what a rotation hands out of it.
use Rattle.std.specs.Prelude.{◌≡◌, ℕ, pos, [], ◌∷◌, List, codes, Some, None, slice_get, refl}
use Rattle.std.proofs.Common.{arith}
use Rattle.tab_policy.specs.Roots.{root}
use Rattle.tab_history.specs.Bases.{Base}
use Rattle.tab_history.specs.declared.event.Act.{Act}
use Rattle.tab_history.specs.declared.event.Act.TheVariants.{CreateUser, DropUser}
use Rattle.tab_history.specs.declared.event.Event.{Event}
use Rattle.tab_history.specs.declared.reply.Refusal.TheVariants.{NoUser, UnknownUser}
use Rattle.tab_history.specs.declared.reply.Reply.TheVariants.{Done, Refused}
use Rattle.tab_core.specs.Stores.{CoreContents, base_of}
use Rattle.tab_core.specs.Recording.{entry_of}
use Rattle.tab_core.specs.Rotating.{raised}
use Rattle.tab_book.specs.Entries.{Posted, Record, past, next_of}
use Rattle.tab_book.specs.Receipts.{Slip, StandsIn, Has}
use Rattle.tab_book.specs.Rotating.{Portion, rotation, Leaves}
use Rattle.tab_book.specs.Slices.{shown, stretch_of}
use Rattle.tab_book.specs.Telling.{AreInTurn, entries_in}

-- what root asks at 0
abbrev asks : Act → Event
asks act = record { user = root; moment = pos 0; act = act }

-- seat 1 makes bob, seat 0 drops him, and seat 1 drops him once more
abbrev made : Posted
made = record { seat = 1; event = asks (CreateUser (codes "bob")); reply = Done }

abbrev dropped : Posted
dropped = record { seat = 0; event = asks (DropUser (codes "bob")); reply = Done }

abbrev refused : Posted
refused = record { seat = 1; event = asks (DropUser (codes "bob")); reply = Refused (NoUser (codes "bob")) }

-- a book with these entries, the first of which has this number, on some base and over some core
abbrev holding : Base → CoreContents → ℕ → List Posted → Record
holding base core first entries = record { base = base; first = first; entries = entries; core = core; joined = 2; out = 2; back = 0 }

abbrev three : Base → CoreContents → Record
three base core = holding base core 0 (made ∷ dropped ∷ refused ∷ [])

-- what is handed out of it: these entries, from this number on
abbrev portion : Base → ℕ → List Posted → Portion
portion base first entries = record { first = first; base = base; entries = entries }

-- the history has the newest first
order : (base : Base) (core : CoreContents) → past (three base core).entries ≡ entry_of refused.event refused.reply ∷ entry_of dropped.event Done ∷ entry_of made.event Done ∷ []
order base core = refl

-- entries are numbered from 0 on
numbered : (base : Base) (core : CoreContents) → next_of (three base core) ≡ 3
numbered base core = refl

-- a receipt of which nothing can be taken
abbrev slip : ℕ → Posted → Slip
slip number entry = record { number = number; entry = entry; held = None }

-- the second entry stands at 1, whatever was taken from its receipt
stands : (base : Base) (core : CoreContents) → Has (three base core) (slip 1 dropped)
stands base core = (omega arith, refl)

-- at 2 stands another entry, and at 3 none yet
third : (base : Base) (core : CoreContents) → slice_get (three base core).entries 2 ≡ Some refused
third base core = refl

none_yet : (base : Base) (core : CoreContents) → slice_get (three base core).entries 3 ≡ None
none_yet base core = refl

-- ---- a rotation of seat 0, at 5
-- root's is done
abbrev rotated : Posted
rotated = record { seat = 0; event = rotation root (pos 5); reply = Done }

-- bob's is refused, who is no user
abbrev unknown : Posted
unknown = record { seat = 0; event = rotation (codes "bob") (pos 5); reply = Refused (UnknownUser (codes "bob")) }

-- root's rotation has number 3, and hands out four entries from 0 on, with the base on which they stood
handed_out : (base : Base) (core : CoreContents) (part : Portion) (left : Record) → Leaves (three base core) (pos 5) (slip 3 rotated) (Some part) left
    → part ≡ record { first = 0; base = base; entries = made ∷ dropped ∷ refused ∷ rotated ∷ [] }
handed_out base core part left leaves = leaves.1

-- the book has no entry then, on what the core held, at 5 or later, and its next entry has number 4
begun_anew : (base : Base) (core : CoreContents) (part : Portion) (left : Record) → Leaves (three base core) (pos 5) (slip 3 rotated) (Some part) left
    → left ≡ holding (raised (pos 5) (base_of core)) left.core 4 []
begun_anew base core part left leaves = leaves.2

-- the fourth entry stands in what was handed out, and not the fifth, which stands in the book
in_the_part : StandsIn 0 (made ∷ dropped ∷ refused ∷ rotated ∷ []) (slip 3 rotated)
in_the_part = (omega arith, refl)

not_in_the_part : slice_get (made ∷ dropped ∷ refused ∷ rotated ∷ []) 4 ≡ None
not_in_the_part = refl

in_the_book : (base : Base) (core : CoreContents) → Has (holding base core 4 (made ∷ [])) (slip 4 made)
in_the_book base core = (omega arith, refl)

-- the fourth one doesn't, nor would it if an entry like it stood there
not_in_the_book : (base : Base) (core : CoreContents) → Has (holding base core 4 (rotated ∷ [])) (slip 3 rotated) → ⊥
not_in_the_book base core has = omega (arith, has.0)

-- bob's rotation is one entry more
kept : (base : Base) (core : CoreContents) (left : Record) → Leaves (three base core) (pos 5) (slip 3 unknown) None left
    → left ≡ holding base left.core 0 (made ∷ dropped ∷ refused ∷ unknown ∷ [])
kept base core left leaves = leaves.1

-- ---- parts in turn
-- the entries of three parts, of which the last has none
in_turn : (base later : Base) → entries_in (portion base 0 (made ∷ [])) (portion later 1 (dropped ∷ refused ∷ []) ∷ portion later 3 [] ∷ []) ≡ made ∷ dropped ∷ refused ∷ []
in_turn base later = refl

-- the last of them begins where the second ends, and not where the first does
follows : (base later : Base) → AreInTurn (portion base 0 (made ∷ [])) (portion later 1 (dropped ∷ refused ∷ []) ∷ portion later 1 [] ∷ []) → ⊥
follows base later turn = omega (arith, turn.1.0.number)

-- ---- slices
-- of three entries that are numbered from 4 on, at most two from 5 on are the last two; from 0 on they begin at 4, and there are none at 9
two_shared : stretch_of 4 (made ∷ dropped ∷ refused ∷ []) 5 2 ≡ record { first = 5; entries = shown dropped ∷ shown refused ∷ [] }
two_shared = refl

first_shared : stretch_of 4 (made ∷ dropped ∷ refused ∷ []) 0 1 ≡ record { first = 4; entries = shown made ∷ [] }
first_shared = refl

none_shared : stretch_of 4 (made ∷ dropped ∷ refused ∷ []) 9 2 ≡ record { first = 9; entries = [] }
none_shared = refl
