-- What a rotation of a book hands out, and what it leaves alone.
use Rattle.std.proofs.Common.{◌≡◌, ℕ, ℤ, ◌+◌, ◌-◌, List, [], ◌∷◌, ◌++◌, Option, Some, None, length, length-append, slice_get, refl, ap, ◌∙◌, arith}
use Rattle.tab_book.specs.Entries.{Posted, SeatState, Record}
use Rattle.tab_book.specs.Receipts.{Slip}
use Rattle.tab_book.specs.Rotating.{Portion, Rotates}
use Rattle.tab_work.specs.Rotations.{HandsHistory}

at_end : (ps : List Posted) (p : Posted) → slice_get (ps ++ p ∷ []) (length ps) ≡ Some p
at_end [] p = refl
at_end (q ∷ ps) p = at_end ps p

module _ (book : Record) (seat : SeatState) (user : List ℕ) (moment : ℤ) (slip : Slip) where
  -- the part ends with the receipt's entry
  pub handed : (part : Option Portion) (book' : Record) (seat' : SeatState) → Rotates book seat user moment slip part book' seat' → HandsHistory slip part
  handed None book' seat' does = does.leaves.0
  handed (Some part) book' seat' does =
      let first : part.first ≡ book.first = ap (λ (p : Portion). p.first) does.leaves.1 in
      let are : part.entries ≡ book.entries ++ slip.entry ∷ [] = ap (λ (p : Portion). p.entries) does.leaves.1 in
      let many : length part.entries ≡ length book.entries + 1 = ap length are ∙ length-append book.entries (slip.entry ∷ []) in
      let place : slip.number - part.first ≡ length book.entries = omega (arith, first, does.number) in
      let stands : slice_get part.entries (slip.number - part.first) ≡ Some slip.entry = (λ i. slice_get (are i) (place i)) ∙ at_end book.entries slip.entry in
      (does.leaves.0, ((omega (arith, first, does.number), stands), omega (arith, first, many, does.number)))

  -- what came back stays
  pub back_kept : (part : Option Portion) (book' : Record) (seat' : SeatState) → Rotates book seat user moment slip part book' seat' → book'.back ≡ book.back
  back_kept None book' seat' does = ap (λ (b : Record). b.back) does.leaves.1
  back_kept (Some part) book' seat' does = ap (λ (b : Record). b.back) does.leaves.2
