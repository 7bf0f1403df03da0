-- What is read of a beginning of a journal's bytes.
use Rattle.std.proofs.Common.{◌≡◌, ℕ, ◌+◌, ◌-◌, ◌≤◌, true, false, List, ◌++◌, length, take, drop, Option, Some, None, option_map, inl, inr, refl, sym, ap, subst, ◌∙◌, append_assoc, take-append-drop, length-append, arith}
use Rattle.std.specs.Prelude.{unwrap_or}
use Rattle.std.proofs.lemmas.List.{drop_at, length-take, take_min, take_all}
use Rattle.tab_codec.specs.Parts.{IsBytes}
use Rattle.tab_codec.specs.Reading.{◌>>=◌, Reader}
use Rattle.tab_codec.specs.Exactness.{Exact}
use Rattle.tab_codec.proofs.Exact.{bytes-drop, bytes-take, some_inj, bind_some}
use Rattle.tab_journal.specs.Damage.{IsDamaged, read_of}
use Rattle.tab_journal.specs.Journals.{Header, Batch, IsHeader, IsBatch, IsJournal}
use Rattle.tab_journal.specs.Laws.{last_sum}
use Rattle.tab_journal.specs.Reading.{header_at, batch_at, batches_within, Journal, journal_from, journal_of}
use Rattle.tab_journal.specs.Readers.{Ends}
use Rattle.tab_journal.specs.Said.{End}
use Rattle.tab_journal.specs.declared.journal_end.JournalEnd.{JournalEnd}
use Rattle.tab_journal.specs.declared.seal.Seal.{Seal}
use Rattle.tab_journal.proofs.Forms.{exact_front, exact_batch, batch_long}
use Rattle.tab_journal.proofs.Whole.{take_beyond, batches_complete, whole_batches_are_kept}
use Rattle.tab_recovery.specs.Cutting.{Cut}
use Rattle.tab_recovery.specs.TakingUp.{end_of, without_left, IsDamagedAt, IsSound, KeepsAll, CutsKeepAll}

pub both : {A : Type 0} (x : A) (o : Option A) → o ≡ Some x → o ≡ None → ⊥
both x None is none = absurd cc
both x (Some y) is none = absurd cc

-- ---- what is read in front of a beginning is read in front of all
module _ {A : Type 0} (reads : Reader A) (Says : List ℕ → A → Type 0) (e : Exact reads Says) (bytes : List ℕ) (m : ℕ) (fits : IsBytes bytes) where
  reads_on : (x : A) (rest : List ℕ) → reads (take m bytes) ≡ Some (x, rest) → reads bytes ≡ Some (x, rest ++ drop m bytes)
  reads_on x rest is =
      let t = e.sound (take m bytes) x rest (bytes-take m bytes fits) is in
      let same : bytes ≡ t.front ++ (rest ++ drop m bytes) = sym (take-append-drop m bytes) ∙ ap (λ (z : List ℕ). z ++ drop m bytes) t.parts ∙ append_assoc t.front rest (drop m bytes) in
      ap reads same ∙ e.complete t.front (rest ++ drop m bytes) x t.says

  by_read : (o : Option (A × List ℕ)) → reads (take m bytes) ≡ o → reads bytes ≡ None → reads (take m bytes) ≡ None
  by_read None is none = is
  by_read (Some (x, rest)) is none = absurd (both (x, rest ++ drop m bytes) (reads bytes) (reads_on x rest is) none)

  none_before : reads bytes ≡ None → reads (take m bytes) ≡ None
  none_before none = by_read (reads (take m bytes)) refl none

-- ---- damage in a beginning is damage
damage_on : (seal : Seal) (n m : ℕ) (bytes : List ℕ) → IsDamaged seal n (take m bytes) → IsDamaged seal n bytes
damage_on seal n m bytes d =
    let s = d.1.1 in
    let more : bytes ≡ s.ahead ++ (s.sum ++ (s.text ++ (s.behind ++ drop m bytes))) =
    sym (take-append-drop m bytes) ∙ ap (λ (z : List ℕ). z ++ drop m bytes) s.spelled ∙ append_assoc s.ahead (s.sum ++ (s.text ++ s.behind)) (drop m bytes)
    ∙ ap (λ (z : List ℕ). s.ahead ++ z) (append_assoc s.sum (s.text ++ s.behind) (drop m bytes) ∙ ap (λ (z : List ℕ). s.sum ++ z) (append_assoc s.text s.behind (drop m bytes))) in
    (d.0, (d.1.0, record { ahead = s.ahead; sum = s.sum; text = s.text; behind = s.behind ++ drop m bytes; before = s.before; spelled = more; place = s.place; summed = s.summed; whole = s.whole }, d.1.2, d.1.3))

-- ---- what is read of a beginning that has all that is read
pub record ReadOn (bytes : List ℕ) (j : Journal) (m : ℕ) : Type 0 where
  left : List ℕ
  read : journal_of (take m bytes) ≡ Some (record { header = j.header; batches = j.batches; left = left })
  place : length (take m bytes) - length left ≡ read_of bytes j
  within : length left ≤ length (take m bytes)

read_on : (bytes : List ℕ) (j : Journal) (m : ℕ) → IsBytes bytes → journal_of bytes ≡ Some j → read_of bytes j ≤ m → ReadOn bytes j m
unfolding journal_of
read_on bytes j m fits is le =
    let k = whole_batches_are_kept bytes j fits is in
    let f = k.journal in
    let n = length k.kept in
    let left = take (m - n) j.left in
    let seal = j.header.seal in
    let last = last_sum j.header j.batches in
    let long : length bytes ≡ n + length j.left = ap (λ (z : List ℕ). length z) k.parts ∙ length-append k.kept j.left in
    let part : take m bytes ≡ k.kept ++ left = ap (λ (z : List ℕ). take m z) k.parts ∙ take_beyond m (m - n) k.kept j.left (omega (arith, le, long)) in
    let rest : IsBytes j.left = subst IsBytes (ap (λ (z : List ℕ). drop n z) k.parts ∙ drop_at k.kept j.left n refl) (bytes-drop n bytes fits) in
    let whole : take m bytes ≡ f.0 ++ (f.1 ++ left) = part ∙ ap (λ (z : List ℕ). z ++ left) f.2 ∙ append_assoc f.0 f.1 left in
    let front : header_at (take m bytes) ≡ Some (j.header, f.1 ++ left) = ap header_at whole ∙ exact_front.complete f.0 (f.1 ++ left) j.header f.3 in
    let ends : batch_at seal last left ≡ None = none_before (batch_at seal last) (IsBatch seal last) (exact_batch seal last) j.left (m - n) rest k.ends in
    let all : batches_within seal j.header.sum (length (f.1 ++ left)) (f.1 ++ left) ≡ (j.batches, left) = batches_complete seal j.batches (length (f.1 ++ left)) j.header.sum f.1 left f.4 (omega arith) ends in
    record {
      left = left;
      read = bind_some (header_at (take m bytes)) (j.header, f.1 ++ left) (λ h. Some (journal_from h)) (Some (record { header = j.header; batches = j.batches; left = left })) front
          (ap (λ (p : List Batch × List ℕ). Some (record { header = j.header; batches = p.0; left = p.1 })) all);
      place = omega (arith, long, ap (λ (z : List ℕ). length z) part, length-append k.kept left);
      within = omega (arith, ap (λ (z : List ℕ). length z) part, length-append k.kept left);
    }

-- nothing is read of a beginning of bytes of which nothing is read
no_header : (o : Option (Header × List ℕ)) → (o >>= λ f. Some (journal_from f)) ≡ None → o ≡ None
no_header None is = refl
no_header (Some f) is = absurd cc

none_on : (bytes : List ℕ) (m : ℕ) → IsBytes bytes → journal_of bytes ≡ None → journal_of (take m bytes) ≡ None
unfolding journal_of
none_on bytes m fits none =
    let before : header_at (take m bytes) ≡ None = none_before header_at IsHeader exact_front bytes m fits (no_header (header_at bytes) none) in
    ap (λ (o : Option (Header × List ℕ)). o >>= λ f. Some (journal_from f)) before

-- ---- where the read part ends
end_at_most : (bytes : List ℕ) (o : Option Journal) → unwrap_or (option_map (read_of bytes) o) 0 ≤ length bytes
end_at_most bytes None = omega arith
end_at_most bytes (Some j) = omega arith

pub end_within : (bytes : List ℕ) → end_of bytes ≤ length bytes
end_within bytes = end_at_most bytes (journal_of bytes)

-- ---- an end that is told
module _ (bytes : List ℕ) (e : JournalEnd) (ends : Ends bytes e) where
  pub end_told : e.length ≡ end_of bytes
  end_told = ap (λ (x : End). x.length) ends.end ∙ ap (λ (o : Option Journal). unwrap_or (option_map (read_of bytes) o) 0) (sym ends.read)

  pub all_counted : e.length + e.left ≡ length bytes
  all_counted =
      let k = whole_batches_are_kept bytes ends.journal ends.fits ends.read in
      let long : length bytes ≡ length k.kept + length ends.journal.left = ap (λ (z : List ℕ). length z) k.parts ∙ length-append k.kept ends.journal.left in
      omega (arith, long, ap (λ (x : End). x.length) ends.end, ap (λ (x : End). x.left) ends.end)

  pub damaged_told : IsDamaged e.header.seal e.length bytes → IsDamagedAt bytes e.length
  damaged_told damaged = inr (ends.journal, ends.read, ap (λ (x : End). x.length) ends.end, subst (λ (x : End). IsDamaged x.header.seal e.length bytes) ends.end damaged)

  pub sound_told : (IsDamaged e.header.seal e.length bytes → ⊥) → IsSound bytes
  sound_told not n (inl (none, long, zero)) = both ends.journal (journal_of bytes) ends.read none
  sound_told not n (inr (j, read, place, damaged)) =
      let same : j ≡ ends.journal = some_inj j ends.journal (sym read ∙ ends.read) in
      let here : n ≡ e.length = place ∙ ap (λ (x : Journal). length bytes - length x.left) same ∙ sym (ap (λ (x : End). x.length) ends.end) in
      not (subst (λ (k : ℕ). IsDamaged e.header.seal k bytes) here (subst (λ (s : Seal). IsDamaged s n bytes) (ap (λ (x : Journal). x.header.seal) same ∙ sym (ap (λ (x : End). x.header.seal) ends.end)) damaged))

-- ---- a beginning that has all that is read
module _ (bytes : List ℕ) (m : ℕ) (fits : IsBytes bytes) where
  front : take m bytes ≡ take (length (take m bytes)) bytes
  front = sym (take_min m bytes) ∙ ap (λ (k : ℕ). take k bytes) (sym (length-take m bytes))

  keeps_none : journal_of bytes ≡ None → KeepsAll bytes (take m bytes)
  keeps_none none =
      let before : journal_of (take m bytes) ≡ None = none_on bytes m fits none in
      record {
        front = front;
        same = ap (option_map without_left) (before ∙ sym none);
        sound = none_sound before;
      }
    where
      none_sound : journal_of (take m bytes) ≡ None → IsSound bytes → IsSound (take m bytes)
      none_sound before sound n (inl (is, long, zero)) = sound 0 (inl (none, omega (arith, long, length-take m bytes), refl))
      none_sound before sound n (inr (j, read, place, damaged)) = both j (journal_of (take m bytes)) read before

  keeps_some : (j : Journal) → journal_of bytes ≡ Some j → read_of bytes j ≤ m → KeepsAll bytes (take m bytes)
  keeps_some j is le =
      let r = read_on bytes j m fits is le in
      record {
        front = front;
        same = ap (option_map without_left) r.read ∙ sym (ap (option_map without_left) is);
        sound = some_sound r;
      }
    where
      some_sound : ReadOn bytes j m → IsSound bytes → IsSound (take m bytes)
      some_sound r sound n (inl (none, long, zero)) = both (record { header = j.header; batches = j.batches; left = r.left }) (journal_of (take m bytes)) r.read none
      some_sound r sound n (inr (x, read, place, damaged)) =
          let same : x ≡ record { header = j.header; batches = j.batches; left = r.left } = some_inj _ _ (sym read ∙ r.read) in
          let here : n ≡ read_of bytes j = place ∙ ap (λ (y : Journal). length (take m bytes) - length y.left) same ∙ r.place in
          let there : IsDamaged j.header.seal n (take m bytes) = subst (λ (y : Journal). IsDamaged y.header.seal n (take m bytes)) same damaged in
          sound n (inr (j, is, here, damage_on j.header.seal n m bytes there))

  keeps_by : (o : Option Journal) → journal_of bytes ≡ o → unwrap_or (option_map (read_of bytes) o) 0 ≤ m → KeepsAll bytes (take m bytes)
  keeps_by None is le = keeps_none is
  keeps_by (Some j) is le = keeps_some j is le

pub cuts_keep_all : CutsKeepAll
cuts_keep_all bytes m fits le = keeps_by bytes m fits (journal_of bytes) refl le

-- ---- what is left of a journal that is cut to its whole batches
pub ends_cut : (bytes : List ℕ) (e made : JournalEnd) → Ends bytes e → made ≡ record e { left = 0; is_damaged = false } → Ends (take e.length bytes) made
ends_cut bytes e made ends is = subst (Ends (take e.length bytes)) (sym is) cut
  where
    j : Journal
    j = ends.journal

    place : e.length ≡ read_of bytes j
    place = ap (λ (x : End). x.length) ends.end

    long : length (take e.length bytes) ≡ e.length
    long = omega (arith, place, length-take e.length bytes)

    -- no batch stands behind the end
    nothing_behind : IsDamaged e.header.seal e.length (take e.length bytes) → ⊥
    nothing_behind d =
        let s = d.1.1 in
        let all : length (take e.length bytes) ≡ length s.ahead + length (s.sum ++ (s.text ++ s.behind)) = ap (λ (z : List ℕ). length z) s.spelled ∙ length-append s.ahead (s.sum ++ (s.text ++ s.behind)) in
        omega (arith, all, long, s.place, d.1.2, d.1.3, length-append s.sum (s.text ++ s.behind), length-append s.text s.behind, batch_long e.header.seal s.before s.text d.1.0 s.whole)

    cut : Ends (take e.length bytes) (record e { left = 0; is_damaged = false })
    cut =
        let r = read_on bytes j e.length ends.fits ends.read (omega (arith, place)) in
        let none : 0 ≡ length r.left = omega (arith, r.place, place, long, r.within) in
        let all : e.length ≡ length (take e.length bytes) - length r.left = omega (arith, long, none) in
        record {
          journal = record { header = j.header; batches = j.batches; left = r.left };
          fits = bytes-take e.length bytes ends.fits;
          read = r.read;
          end = λ i. record { header = (ends.end i).header; sum = (ends.end i).sum; length = all i; left = none i; is_timely = (ends.end i).is_timely };
          whole = subst (λ (z : List ℕ). IsJournal z j.header j.batches) (sym (take_all e.length (take e.length bytes) (omega (arith, long)))) ends.whole;
          judged = (λ (t : false ≡ true). absurd cc, λ d. absurd (nothing_behind d));
        }

pub cut_keeps : (bytes c : List ℕ) → IsBytes bytes → Cut (end_of bytes) bytes c → KeepsAll bytes c
cut_keeps bytes c fits cut =
    let enough : end_of bytes ≤ length c = omega (arith, ap (λ (z : List ℕ). length z) cut.first, length-take (end_of bytes) c, length-take (end_of bytes) bytes, end_within bytes) in
    subst (KeepsAll bytes) (sym cut.front) (cuts_keep_all bytes (length c) fits enough)
