-- What is read of a journal that a crash left.
use Rattle.std.proofs.Common.{◌≡◌, ℕ, zero, suc, ◌+◌, ◌≤◌, List, [], ◌∷◌, ◌++◌, length, take, drop, Option, Some, None, refl, sym, ap, subst, ◌∙◌, append_assoc, append-nil, take-append-drop, length-append, arith}
use Rattle.std.specs.Prelude.{unwrap_or}
use Rattle.std.specs.List.{fold}
use Rattle.std.proofs.lemmas.List.Sums.{fold-append}
use Rattle.tab_codec.specs.Parts.{IsBytes}
use Rattle.tab_codec.specs.Reading.{◌>>=◌}
use Rattle.tab_codec.proofs.Exact.{bytes-drop, bind_some}
use Rattle.tab_journal.specs.declared.seal.Seal.{Seal}
use Rattle.tab_journal.specs.Journals.{Header, Batch, IsBatch, AreBatches, IsJournal}
use Rattle.tab_journal.specs.Reading.{header_at, batch_at, batches_within, journal_from, journal_of}
use Rattle.tab_journal.specs.Laws.{last_sum}
use Rattle.tab_journal.specs.Crashes.{NoneByChance, CrashesLeaveBeginnings}
use Rattle.tab_journal.proofs.Forms.{exact_front, exact_batch, batch_long}

-- ---- a batch more
are_more : (seal : Seal) (before : ℕ) (bytes text : List ℕ) (bs : List Batch) (b : Batch) → AreBatches seal before bytes bs → IsBatch seal (fold (λ (sum : ℕ) (x : Batch). x.sum) before bs) text b
    → AreBatches seal before (bytes ++ text) (bs ++ b ∷ [])
are_more seal before bytes text [] b are is = (text, [], ap (λ (z : List ℕ). z ++ text) are ∙ sym (append-nil text), is, refl)
are_more seal before bytes text (x ∷ bs) b are is = (are.0, are.1 ++ text, ap (λ (z : List ℕ). z ++ text) are.2 ∙ append_assoc are.0 are.1 text, are.3, are_more seal x.sum are.1 text bs b are.4 is)

pub journal_more : (bytes text : List ℕ) (header : Header) (bs : List Batch) (b : Batch) → IsJournal bytes header bs → IsBatch header.seal (last_sum header bs) text b → IsJournal (bytes ++ text) header (bs ++ b ∷ [])
journal_more bytes text header bs b is more = (is.0, is.1 ++ text, ap (λ (z : List ℕ). z ++ text) is.2 ∙ append_assoc is.0 is.1 text, is.3, are_more header.seal header.sum is.1 text bs b is.4 more)

pub last_sum_more : (header : Header) (bs : List Batch) (b : Batch) → last_sum header (bs ++ b ∷ []) ≡ b.sum
last_sum_more header bs b = fold-append (λ (sum : ℕ) (x : Batch). x.sum) header.sum bs (b ∷ [])

-- ---- batches in front are read first
abbrev pub With : Seal → ℕ → List Batch → List ℕ → List ℕ → ℕ → Type 0
With seal before bs bytes rest fuel =
    (left : ℕ) × (length rest ≤ left) × (batches_within seal before fuel (bytes ++ rest)
    ≡ (bs ++ (batches_within seal (fold (λ (sum : ℕ) (x : Batch). x.sum) before bs) left rest).0, (batches_within seal (fold (λ (sum : ℕ) (x : Batch). x.sum) before bs) left rest).1))

pub read_first : (seal : Seal) (bs : List Batch) (fuel before : ℕ) (bytes rest : List ℕ) → AreBatches seal before bytes bs → length (bytes ++ rest) ≤ fuel → With seal before bs bytes rest fuel
read_first seal [] fuel before bytes rest are short =
    let same : bytes ++ rest ≡ rest = ap (λ (z : List ℕ). z ++ rest) are in
    (fuel, omega (arith, short, ap (λ (z : List ℕ). length z) same), ap (λ (z : List ℕ). batches_within seal before fuel z) same)
read_first seal (b ∷ bs) zero before bytes rest are short =
    let len : length bytes ≡ length are.0 + length are.1 = ap (λ (z : List ℕ). length z) are.2 ∙ length-append are.0 are.1 in
    absurd (omega (arith, len, short, length-append bytes rest, batch_long seal before are.0 b are.3))
read_first seal (b ∷ bs) (suc fuel) before bytes rest are short =
    let same : bytes ++ rest ≡ are.0 ++ (are.1 ++ rest) = ap (λ (z : List ℕ). z ++ rest) are.2 ∙ append_assoc are.0 are.1 rest in
    let len : length (bytes ++ rest) ≡ length are.0 + length (are.1 ++ rest) = ap (λ (z : List ℕ). length z) same ∙ length-append are.0 (are.1 ++ rest) in
    let one : batch_at seal before (are.0 ++ (are.1 ++ rest)) ≡ Some (b, are.1 ++ rest) = (exact_batch seal before).complete are.0 (are.1 ++ rest) b are.3 in
    let r = read_first seal bs fuel b.sum are.1 rest are.4 (omega (arith, len, short, batch_long seal before are.0 b are.3)) in (
      r.0,
      r.1,
      ap (λ (z : List ℕ). batches_within seal before (suc fuel) z) same
          ∙ ap (λ (o : Option (Batch × List ℕ)). unwrap_or (o >>= λ x. let behind = batches_within seal x.0.sum fuel x.1 in Some (x.0 ∷ behind.0, behind.1)) ([], are.0 ++ (are.1 ++ rest))) one
          ∙ ap (λ (p : List Batch × List ℕ). (b ∷ p.0, p.1)) r.2,
    )

-- ---- what is read behind the first batches are the next ones
module _ (header : Header) (bs : List Batch) (c : List ℕ) (none : NoneByChance header bs c) where
  abbrev Gives : ℕ → ℕ → List ℕ → Type 0
  Gives fuel m left = (k : ℕ) × (m ≤ k) × (take m bs ++ (batches_within header.seal (last_sum header (take m bs)) fuel left).0 ≡ take k bs)

  abbrev Reads : ℕ → Type 0
  Reads fuel = (m : ℕ) (kept left : List ℕ) → c ≡ kept ++ left → IsJournal kept header (take m bs) → IsBytes left → length left ≤ fuel → Gives fuel m left

  one_more : (fuel : ℕ) → Reads fuel → (m : ℕ) (kept left : List ℕ) → c ≡ kept ++ left → IsJournal kept header (take m bs) → IsBytes left → length left ≤ suc fuel
      → (o : Option (Batch × List ℕ)) → batch_at header.seal (last_sum header (take m bs)) left ≡ o → Gives (suc fuel) m left
  one_more fuel later m kept left parts is fits short None at =
      let nothing : batches_within header.seal (last_sum header (take m bs)) (suc fuel) left ≡ ([], left) =
      ap (λ (o : Option (Batch × List ℕ)). unwrap_or (o >>= λ x. let behind = batches_within header.seal x.0.sum fuel x.1 in Some (x.0 ∷ behind.0, behind.1)) ([], left)) at in
      (m, omega arith, ap (λ (p : List Batch × List ℕ). take m bs ++ p.0) nothing ∙ append-nil (take m bs))
  one_more fuel later m kept left parts is fits short (Some (b, rest)) at =
      let t = (exact_batch header.seal (last_sum header (take m bs))).sound left b rest fits at in
      let len : length left ≡ length t.front + length rest = ap (λ (z : List ℕ). length z) t.parts ∙ length-append t.front rest in
      let next : take (suc m) bs ≡ take m bs ++ b ∷ [] = none m kept left rest b parts is at in
      let sum : last_sum header (take (suc m) bs) ≡ b.sum = ap (λ (z : List Batch). last_sum header z) next ∙ last_sum_more header (take m bs) b in
      let whole : IsJournal (kept ++ t.front) header (take (suc m) bs) = subst (λ (z : List Batch). IsJournal (kept ++ t.front) header z) (sym next) (journal_more kept t.front header (take m bs) b is t.says) in
      let r = later (suc m) (kept ++ t.front) rest (parts ∙ ap (λ (z : List ℕ). kept ++ z) t.parts ∙ sym (append_assoc kept t.front rest)) whole t.fits
      (omega (arith, len, short, batch_long header.seal (last_sum header (take m bs)) t.front b t.says)) in
      let read : batches_within header.seal (last_sum header (take m bs)) (suc fuel) left ≡ (b ∷ (batches_within header.seal b.sum fuel rest).0, (batches_within header.seal b.sum fuel rest).1) =
      ap (λ (o : Option (Batch × List ℕ)). unwrap_or (o >>= λ x. let behind = batches_within header.seal x.0.sum fuel x.1 in Some (x.0 ∷ behind.0, behind.1)) ([], left)) at in (
        r.0,
        omega (arith, r.1),
        ap (λ (p : List Batch × List ℕ). take m bs ++ p.0) read
            ∙ sym (append_assoc (take m bs) (b ∷ []) (batches_within header.seal b.sum fuel rest).0)
            ∙ ap (λ (z : List Batch). z ++ (batches_within header.seal b.sum fuel rest).0) (sym next)
            ∙ ap (λ (s : ℕ). take (suc m) bs ++ (batches_within header.seal s fuel rest).0) (sym sum)
            ∙ r.2,
      )

  reads : (fuel : ℕ) → Reads fuel
  reads zero m kept left parts is fits short = (m, omega arith, append-nil (take m bs))
  reads (suc fuel) m kept left parts is fits short = one_more fuel (reads fuel) m kept left parts is fits short (batch_at header.seal (last_sum header (take m bs)) left) refl

pub crashes_leave_beginnings : CrashesLeaveBeginnings
unfolding journal_of
crashes_leave_beginnings bytes c header bs n k fits is has none =
    let rest = drop n c in
    let parts : c ≡ take n bytes ++ rest = sym (take-append-drop n c) ∙ ap (λ (z : List ℕ). z ++ rest) has.1 in
    let whole : c ≡ is.0 ++ (is.1 ++ rest) = parts ∙ ap (λ (z : List ℕ). z ++ rest) is.2 ∙ append_assoc is.0 is.1 rest in
    let read : header_at c ≡ Some (header, is.1 ++ rest) = ap header_at whole ∙ exact_front.complete is.0 (is.1 ++ rest) header is.3 in
    let first = read_first header.seal (take k bs) (length (is.1 ++ rest)) header.sum is.1 rest is.4 (omega arith) in
    let more = reads header bs c none first.0 k (take n bytes) rest parts is (bytes-drop n c fits) first.1 in
    let left = (batches_within header.seal (last_sum header (take k bs)) first.0 rest).1 in
    let all : batches_within header.seal header.sum (length (is.1 ++ rest)) (is.1 ++ rest) ≡ (take more.0 bs, left) = first.2 ∙ ap (λ (z : List Batch). (z, left)) more.2 in (
      more.0,
      left,
      more.1,
      bind_some (header_at c) (header, is.1 ++ rest) (λ f. Some (journal_from f)) (Some (record { header = header; batches = take more.0 bs; left = left })) read
          (ap (λ (p : List Batch × List ℕ). Some (record { header = header; batches = p.0; left = p.1 })) all),
    )
