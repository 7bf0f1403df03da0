-- What is put behind a journal, and what a crash leaves of it.
use Rattle.std.proofs.Common.{◌≡◌, ℕ, ◌+◌, ◌<◌, ◌≤◌, ◌^◌, List, [], ◌∷◌, ◌++◌, length, take, drop, refl, sym, ap, subst, ◌∙◌, append-nil, take-append-drop, length-append, arith}
use Rattle.std.proofs.lemmas.List.{take_all, take-append-le, length-take}
use Rattle.tab_journal.specs.Device.{Torn, Follows, Only}
use Rattle.tab_journal.specs.declared.seal.Seal.{Seal}
use Rattle.tab_journal.specs.Journals.{sum_of, Header, Batch, batch_summed, IsBatch, IsJournal}
use Rattle.tab_journal.specs.Laws.{last_sum, FitsFront}
use Rattle.tab_journal.specs.Crashes.{HasFirst, IsAsBefore}
use Rattle.tab_journal.specs.Spelling.{header_bytes, batch_bytes}
use Rattle.tab_journal.specs.Writing.{IsWritten, KeepFirst}
use Rattle.tab_journal.proofs.Crashing.{journal_more, last_sum_more}
use Rattle.tab_journal.proofs.Forms.{front_long, front_written, batch_written, fits_tag}
use Rattle.tab_journal.proofs.Three.{Something}
use Rattle.tab_journal.proofs.Timely.{timely_more, timely_all}

-- ---- bytes
pub take_first : (n m : ℕ) (c : List ℕ) → n ≤ m → n ≤ length c → take n c ≡ take n (take m c)
take_first n m c le has = ap (λ (z : List ℕ). take n z) (sym (take-append-drop m c)) ∙ take-append-le n (take m c) (drop m c) (omega (arith, le, has, length-take m c))

take_same : (n m : ℕ) (c d : List ℕ) → n ≤ m → n ≤ length c → n ≤ length d → take m c ≡ take m d → take n c ≡ take n d
take_same n m c d le long has same = take_first n m c le long ∙ ap (λ (z : List ℕ). take n z) same ∙ sym (take_first n m d le has)

-- ---- what a crash leaves of what is put
module _ (n len : ℕ) (file : List ℕ) (old new : List ℕ → Type 0) (keeps : KeepFirst n file old) (low : n ≤ length file) (follows : Follows (Torn (length file) len) old new) where
  -- at each moment of the call
  pub torn_keeps : (c : List ℕ) → new c → HasFirst n file c × IsAsBefore (length file) old c
  torn_keeps c left =
      let from = follows c left in
      let was = keeps from.0 from.1 in
      let torn = from.2 in
      let long : n ≤ length c = omega (arith, was.0.0, torn.no_shorter) in
      ((long, take_same n (length file) c from.0 low long was.0.0 torn.before ∙ was.0.1), (from.0, from.1, torn.before))

  -- once it has gone well
  pub put_keeps : (text : List ℕ) → length text ≡ len → KeepFirst n (file ++ text) new
  put_keeps text is c left =
      let from = follows c left in
      let was = keeps from.0 from.1 in
      let kept = torn_keeps c left in
      ((kept.0.0, kept.0.1 ∙ sym (take-append-le n file text low)), omega (arith, was.1, from.2.no_longer, is, length-append file text))

-- at each moment of a call that puts three texts
pub something_keeps : (n written a b c : ℕ) (file : List ℕ) (old : List ℕ → Type 0) → KeepFirst n file old → n ≤ length file → written ≡ length file → (x : List ℕ) → Something (length file) a b c old x → HasFirst n file x × IsAsBefore written old x
something_keeps n written a b c file old keeps low is x left =
    let t = torn_keeps n (a + (b + c)) file old (Something (length file) a b c old) keeps low (λ y s. s) x left in
    (t.0, subst (λ (k : ℕ). IsAsBefore k old x) (sym is) t.1)

-- before it
pub still_keeps : (n : ℕ) (file : List ℕ) (old : List ℕ → Type 0) → KeepFirst n file old → (c : List ℕ) → old c → HasFirst n file c × IsAsBefore (length file) old c
still_keeps n file old keeps c left = ((keeps c left).0, (c, left, refl))

-- what is on the disk
pub only_keeps : (file : List ℕ) (outcomes : List ℕ → Type 0) → Only file outcomes → KeepFirst (length file) file outcomes
only_keeps file outcomes only c left =
    let is = only c left in
    let long = ap (λ (z : List ℕ). length z) is in
    ((omega (arith, long), ap (λ (z : List ℕ). take (length file) z) is), omega (arith, long))

pub keeps_only : (file : List ℕ) (outcomes : List ℕ → Type 0) → KeepFirst (length file) file outcomes → Only file outcomes
keeps_only file outcomes keeps c left =
    let was = keeps c left in
    sym (take_all (length file) c (omega (arith, was.1))) ∙ was.0.1 ∙ take_all (length file) file (omega arith)

-- what a crash leaves of the first text in an empty file
pub torn_short : (at len most : ℕ) (old new : List ℕ → Type 0) → at + len ≤ most → Only [] old → Follows (Torn at len) old new → (c : List ℕ) → new c → length c ≤ most
torn_short at len most old new le only follows c left =
    let from = follows c left in
    omega (arith, le, from.2.no_longer, ap (λ (z : List ℕ). length z) (only from.0 from.1))

-- ---- the journal
pub begun : (header : Header) → FitsFront header → IsWritten (header_bytes header) header.seal header.sum 48 header [] 0
begun header fits =
    let is = front_written header fits in
    let all : take 48 (header_bytes header) ≡ header_bytes header = take_all 48 (header_bytes header) (omega (arith, front_long (header_bytes header) header is)) in
    let journal : IsJournal (header_bytes header) header [] = (header_bytes header, [], sym (append-nil (header_bytes header)), is, refl) in
    record { journal = journal; sealed = refl; summed = refl; few = omega arith; first = subst (λ (z : List ℕ). IsJournal z header []) (sym all) journal; timely = tt }

-- behind the header stand its batches
pub long_journal : (bytes : List ℕ) (header : Header) (bs : List Batch) → (j : IsJournal bytes header bs) → length bytes ≡ 48 + length j.1
long_journal bytes header bs j =
    let all : length bytes ≡ length j.0 + length j.1 = ap (λ (z : List ℕ). length z) j.2 ∙ length-append j.0 j.1 in
    omega (arith, all, front_long j.0 header j.3)

-- one batch more
pub put_more : (bytes body : List ℕ) (seal : Seal) (sum n : ℕ) (header : Header) (bs : List Batch) (k : ℕ) → n ≤ length bytes → n < 2 ^ 64 → length body < 2 ^ 32 → sum_of (batch_summed seal.salt sum n body) < 2 ^ 64
    → IsWritten bytes seal sum n header bs k
    → IsWritten (bytes ++ batch_bytes seal sum n body) seal (sum_of (batch_summed seal.salt sum n body)) n header (bs ++ record { settled = n; body = body; sum = sum_of (batch_summed seal.salt sum n body) } ∷ []) k
put_more bytes body seal sum n header bs k low fits short right w =
    let b : Batch = record { settled = n; body = body; sum = sum_of (batch_summed seal.salt sum n body) } in
    let text = batch_bytes seal sum n body in
    let is : IsBatch seal sum text b = batch_written seal sum n body (fits_tag seal.form seal.salt (subst (λ (s : Seal). s.salt < 2 ^ 64) (sym w.sealed) w.journal.3.salt.1)) fits short right in
    let here : IsBatch header.seal (last_sum header bs) text b =
    subst (λ (s : Seal). IsBatch s (last_sum header bs) text b) w.sealed (subst (λ (s : ℕ). IsBatch seal s text b) w.summed is) in
    record {
      journal = journal_more bytes text header bs b w.journal here;
      sealed = w.sealed;
      summed = sym (last_sum_more header bs b);
      few = omega (arith, w.few, length-append bs (b ∷ []));
      first = subst (λ (z : List ℕ). IsJournal z header (take k (bs ++ b ∷ []))) (sym (take-append-le n bytes text low))
          (subst (λ (z : List Batch). IsJournal (take n bytes) header z) (sym (take-append-le k bs (b ∷ []) w.few)) w.first);
      timely = timely_more n header.seal header.sum 48 w.journal.1 bs b w.journal.4 w.timely refl (omega (arith, low, long_journal bytes header bs w.journal));
    }

-- all of it on the disk
pub all_settled : (bytes : List ℕ) (seal : Seal) (sum n : ℕ) (header : Header) (bs : List Batch) (k : ℕ) → IsWritten bytes seal sum n header bs k → IsWritten bytes seal sum (length bytes) header bs (length bs)
all_settled bytes seal sum n header bs k w = record {
  journal = w.journal;
  sealed = w.sealed;
  summed = w.summed;
  few = omega arith;
  first = subst (λ (z : List ℕ). IsJournal z header (take (length bs) bs)) (sym (take_all (length bytes) bytes (omega arith)))
      (subst (λ (z : List Batch). IsJournal bytes header z) (sym (take_all (length bs) bs (omega arith))) w.journal);
  timely = let long = long_journal bytes header bs w.journal in timely_all n (length bytes) header.seal header.sum 48 w.journal.1 bs w.journal.4 w.timely (omega (arith, long));
}

-- the same of the bytes and the sum that are there then
pub put_as : (bytes now body : List ℕ) (seal : Seal) (sum n next : ℕ) (header : Header) (bs : List Batch) (k : ℕ) → now ≡ bytes ++ batch_bytes seal sum n body → next ≡ sum_of (batch_summed seal.salt sum n body)
    → n ≤ length bytes → n < 2 ^ 64 → length body < 2 ^ 32 → next < 2 ^ 64 → IsWritten bytes seal sum n header bs k
    → IsWritten now seal next n header (bs ++ record { settled = n; body = body; sum = next } ∷ []) k
put_as bytes now body seal sum n next header bs k now_is next_is low fits short right w =
    let made = put_more bytes body seal sum n header bs k low fits short (subst (λ (s : ℕ). s < 2 ^ 64) next_is right) w in
    subst (λ (z : List ℕ). IsWritten z seal next n header (bs ++ record { settled = n; body = body; sum = next } ∷ []) k) (sym now_is)
    (subst (λ (s : ℕ). IsWritten (bytes ++ batch_bytes seal sum n body) seal s n header (bs ++ record { settled = n; body = body; sum = s } ∷ []) k) (sym next_is) made)

pub settled_as : (bytes now : List ℕ) (seal : Seal) (sum n all : ℕ) (header : Header) (bs : List Batch) (k : ℕ) → now ≡ bytes → all ≡ length bytes → IsWritten bytes seal sum n header bs k → IsWritten now seal sum all header bs (length bs)
settled_as bytes now seal sum n all header bs k now_is all_is w =
    subst (λ (z : List ℕ). IsWritten z seal sum all header bs (length bs)) (sym now_is)
    (subst (λ (m : ℕ). IsWritten bytes seal sum m header bs (length bs)) (sym all_is) (all_settled bytes seal sum n header bs k w))

pub begun_as : (now : List ℕ) (header : Header) → now ≡ header_bytes header → FitsFront header → IsWritten now header.seal header.sum 48 header [] 0
begun_as now header is fits = subst (λ (z : List ℕ). IsWritten z header.seal header.sum 48 header [] 0) (sym is) (begun header fits)
