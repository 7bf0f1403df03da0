-- To be believed by whoever relies on it. What a rotation of a shared book hands out.
use Rattle.std.specs.Prelude.{◌≡◌, ◌+◌, Option, Some, None, length}
use Rattle.tab_history.specs.declared.reply.Refusal.{Refusal}
use Rattle.tab_history.specs.declared.reply.Reply.TheVariants.{Done, Refused}
use Rattle.tab_book.specs.Receipts.{Slip, StandsIn}
use Rattle.tab_book.specs.Rotating.{Portion}

-- the receipt's entry stands in the part, as its last one
abbrev pub IsLastOf : Portion → Slip → Type 0
IsLastOf part slip = StandsIn part.first part.entries slip × (slip.number + 1 ≡ part.first + length part.entries)

-- A rotation that was done hands out the history up to its own entry, and one that was refused hands out none.
abbrev pub HandsHistory : Slip → Option Portion → Type 0
HandsHistory slip None = (refusal : Refusal) × (slip.entry.reply ≡ Refused refusal)
HandsHistory slip (Some part) = (slip.entry.reply ≡ Done) × IsLastOf part slip
