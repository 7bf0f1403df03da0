-- A journal that was read to its end is gone on in.
use Rattle.std.proofs.Common.{◌≡◌, ℕ, ◌+◌, ◌-◌, ◌≤◌, true, List, [], ◌∷◌, length, take, sym, ap, subst, ◌∙◌, arith}
use Rattle.std.specs.Prelude.{nat_le}
use Rattle.std.proofs.lemmas.Bool.{leb-true, and_parts}
use Rattle.std.proofs.lemmas.List.{take_all, length-append, length-take}
use Rattle.tab_journal.specs.declared.journal_end.JournalEnd.{JournalEnd}
use Rattle.tab_journal.specs.declared.seal.Seal.{Seal}
use Rattle.tab_journal.specs.Journals.{Batch, AreBatches, IsJournal}
use Rattle.tab_journal.specs.Readers.{Ends}
use Rattle.tab_journal.specs.Said.{End, are_timely}
use Rattle.tab_journal.specs.Writing.{around, AreTimely, IsWritten}
use Rattle.tab_journal.proofs.Forms.{front_long}
use Rattle.tab_journal.proofs.Timely.{both}

timely_by : (n : ℕ) (seal : Seal) (before at : ℕ) (text : List ℕ) (bs : List Batch) → AreBatches seal before text bs → are_timely seal.form at bs ≡ true → at + length text ≤ n → AreTimely seal.form n at bs
timely_by n seal before at text [] are timely low = tt
timely_by n seal before at text (b ∷ bs) are timely low =
    let parts = and_parts (nat_le b.settled at) (are_timely seal.form (at + (around seal.form + length b.body)) bs) timely in
    let first : b.settled ≤ at = leb-true b.settled at parts.0 in
    (omega (arith, first, low), first, timely_by n seal b.sum (at + (around seal.form + length b.body)) are.1 bs are.4 parts.1 (omega (arith, low, both seal before at text b bs are)))

module _ (seen : List ℕ) (e : JournalEnd) (ends : Ends seen e) (left : e.left ≡ 0) where
  pub length_is : e.length ≡ length seen
  length_is =
      let long : e.length ≡ length seen - length ends.journal.left = ap (λ (x : End). x.length) ends.end in
      let none : e.left ≡ length ends.journal.left = ap (λ (x : End). x.left) ends.end in
      omega (arith, long, none, left)

  pub resumed : e.is_timely ≡ true → IsWritten seen e.header.seal e.sum e.length ends.journal.header ends.journal.batches (length ends.journal.batches)
  resumed timely =
      let header = ends.journal.header in
      let bs = ends.journal.batches in
      let same : take e.length seen ≡ seen = take_all e.length seen (omega (arith, length_is)) in
      let j = ends.whole in
      let is : are_timely header.seal.form 48 bs ≡ true = sym (ap (λ (x : End). x.is_timely) ends.end) ∙ timely in
      record {
        journal = subst (λ (z : List ℕ). IsJournal z header bs) same j;
        sealed = ap (λ (x : End). x.header.seal) ends.end;
        summed = ap (λ (x : End). x.sum) ends.end;
        few = omega arith;
        first = subst (λ (z : List Batch). IsJournal (take e.length seen) header z) (sym (take_all (length bs) bs (omega arith))) j;
        timely = timely_by e.length header.seal header.sum 48 j.1 bs j.4 is
            (omega (arith, front_long j.0 header j.3, ap (λ (z : List ℕ). length z) j.2, length-append j.0 j.1, length-take e.length seen));
      }
