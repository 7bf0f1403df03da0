-- What a crash leaves of a journal behind the batches that are read is torn.
use Rattle.std.proofs.Common.{◌≡◌, ℕ, zero, suc, ◌-◌, ◌≤◌, ◌<◌, List, [], ◌∷◌, ◌++◌, length, take, drop, Option, Some, None, refl, sym, ap, subst, ◌∙◌, append_assoc, take-append-drop, arith}
use Rattle.std.specs.Prelude.{unwrap_or}
use Rattle.std.specs.List.{fold}
use Rattle.std.proofs.lemmas.List.{take-take, length-take, length-drop}
use Rattle.tab_codec.specs.Reading.{◌>>=◌}
use Rattle.tab_codec.proofs.Exact.{bind_some}
use Rattle.tab_journal.specs.Crashes.{HasFirst}
use Rattle.tab_journal.specs.Damage.{StandsAt, IsDamaged, read_of, CrashesLeaveTornEnds, CutsAreTorn}
use Rattle.tab_journal.specs.declared.seal.Seal.{Seal}
use Rattle.tab_journal.specs.Journals.{Header, Batch, IsJournal}
use Rattle.tab_journal.specs.Reading.{header_at, batch_at, batches_within, Journal, journal_from, journal_of}
use Rattle.tab_journal.proofs.Crashing.{read_first}
use Rattle.tab_journal.proofs.Forms.{exact_front}
use Rattle.tab_journal.proofs.Steps.{batch_shorter}
use Rattle.tab_journal.proofs.Timely.{timely_contains}

-- ---- what is left behind batches that are read is no longer than what was there
left_short : (seal : Seal) (k before : ℕ) (bytes : List ℕ) → length (batches_within seal before k bytes).1 ≤ length bytes
left_short seal zero before bytes = omega arith
left_short seal (suc k) before bytes = go (λ sum rest. left_short seal k sum rest) (batch_at seal before bytes) refl
  where
    step : Option (Batch × List ℕ) → List Batch × List ℕ
    step o = unwrap_or (o >>= λ b. let behind = batches_within seal b.0.sum k b.1 in Some (b.0 ∷ behind.0, behind.1)) ([], bytes)

    go : ((sum : ℕ) (rest : List ℕ) → length (batches_within seal sum k rest).1 ≤ length rest) → (o : Option (Batch × List ℕ)) → batch_at seal before bytes ≡ o → length (batches_within seal before (suc k) bytes).1 ≤ length bytes
    go later None is = subst (λ (p : List Batch × List ℕ). length p.1 ≤ length bytes) (sym (ap step is)) (omega arith)
    go later (Some (b, rest)) is =
        let less = batch_shorter seal before bytes (b, rest) is in
        let more = later b.sum rest in
        subst (λ (p : List Batch × List ℕ). length p.1 ≤ length bytes) (sym (ap step is)) (omega (arith, less, more))

-- ---- what is read has all that was on the disk
pub record ReadsFirst (n : ℕ) (header : Header) (c : List ℕ) : Type 0 where
  pub journal : Journal
  pub read : journal_of c ≡ Some journal
  pub same : journal.header ≡ header
  pub kept : n ≤ length c - length journal.left

pub reads_all_first : (bytes c : List ℕ) (header : Header) (bs : List Batch) (n : ℕ) → IsJournal (take n bytes) header bs → HasFirst n bytes c → ReadsFirst n header c
unfolding journal_of
reads_all_first bytes c header bs n is has =
    let rest = drop n c in
    let parts : c ≡ take n bytes ++ rest = sym (take-append-drop n c) ∙ ap (λ (z : List ℕ). z ++ rest) has.1 in
    let whole : c ≡ is.0 ++ (is.1 ++ rest) = parts ∙ ap (λ (z : List ℕ). z ++ rest) is.2 ∙ append_assoc is.0 is.1 rest in
    let read : header_at c ≡ Some (header, is.1 ++ rest) = ap header_at whole ∙ exact_front.complete is.0 (is.1 ++ rest) header is.3 in
    let first = read_first header.seal bs (length (is.1 ++ rest)) header.sum is.1 rest is.4 (omega arith) in
    let short = left_short header.seal first.0 (fold (λ (sum : ℕ) (x : Batch). x.sum) header.sum bs) rest in
    let left : length (journal_from (header, is.1 ++ rest)).left ≡ length (batches_within header.seal (fold (λ (sum : ℕ) (x : Batch). x.sum) header.sum bs) first.0 rest).1 =
    ap (λ (p : List Batch × List ℕ). length p.1) first.2 in
    record {
      journal = journal_from (header, is.1 ++ rest);
      read = bind_some (header_at c) (header, is.1 ++ rest) (λ f. Some (journal_from f)) (Some (journal_from (header, is.1 ++ rest))) read refl;
      same = refl;
      kept = omega (arith, has.0, short, left, length-drop n c);
    }

pub crashes_leave_torn_ends : CrashesLeaveTornEnds
crashes_leave_torn_ends bytes c seal sum n k header bs w has none =
    let r = reads_all_first bytes c header (take k bs) n w.first has in
    let never : IsDamaged header.seal (read_of c r.journal) c → ⊥ = λ d.
    let b = d.1.0 in
    let is : StandsAt seal d.0 c b = subst (λ (s : Seal). StandsAt s d.0 c b) (sym w.sealed) d.1.1 in
    let more : length c - length r.journal.left < b.settled = d.1.2 in
    let low = timely_contains header.seal.form n 48 bs b w.timely (none d.0 b is (omega (arith, r.kept, more)) d.1.3) in
    omega (arith, low, r.kept, more) in
    (r.journal, r.read, r.same, r.kept, never)

-- ---- what stands in a cut stands in the whole
stands_within : (seal : Seal) (p m : ℕ) (bytes : List ℕ) (b : Batch) → StandsAt seal p (take m bytes) b → StandsAt seal p bytes b
stands_within seal p m bytes b s =
    let more = s.behind ++ drop m bytes in
    record {
      ahead = s.ahead;
      sum = s.sum;
      text = s.text;
      behind = more;
      before = s.before;
      spelled = sym (take-append-drop m bytes)
          ∙ ap (λ (z : List ℕ). z ++ drop m bytes) s.spelled
          ∙ append_assoc s.ahead (s.sum ++ (s.text ++ s.behind)) (drop m bytes)
          ∙ ap (λ (z : List ℕ). s.ahead ++ z) (append_assoc s.sum (s.text ++ s.behind) (drop m bytes) ∙ ap (λ (z : List ℕ). s.sum ++ z) (append_assoc s.text s.behind (drop m bytes)));
      place = s.place;
      summed = s.summed;
      whole = s.whole;
    }

pub cuts_are_torn : CutsAreTorn
cuts_are_torn bytes seal sum n k m header bs w le low none =
    crashes_leave_torn_ends bytes (take m bytes) seal sum n k header bs w (omega (arith, le, low, length-take m bytes), take-take n m bytes le) (λ p b is. none p b (stands_within seal p m bytes b is))
