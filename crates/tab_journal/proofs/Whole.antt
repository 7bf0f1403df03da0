-- Whole journals, and what is left behind them.
use Rattle.std.proofs.Common.{◌≡◌, ℕ, zero, suc, ◌+◌, ◌-◌, ◌≤◌, ◌<◌, List, [], ◌∷◌, ◌++◌, length, take, drop, Option, Some, None, refl, sym, ap, subst, ◌∙◌, append_assoc, append-nil, arith, inl, inr}
use Rattle.std.specs.Prelude.{unwrap_or}
use Rattle.std.specs.List.{fold}
use Rattle.std.proofs.lemmas.Bool.{cases_lt}
use Rattle.std.proofs.lemmas.List.{take-append-drop, drop_at, length-append, length-drop, length-take, nil_from_length}
use Rattle.tab_codec.specs.Parts.{IsBytes}
use Rattle.tab_codec.specs.Reading.{◌>>=◌, Reader, u64_at}
use Rattle.tab_codec.specs.Exactness.{Exact}
use Rattle.tab_codec.proofs.Exact.{bytes-drop, bytes-take, some_inj, bind_some, on_bind}
use Rattle.tab_codec.proofs.Coded.{cut_off}
use Rattle.tab_journal.specs.declared.seal.Form.{Form}
use Rattle.tab_journal.specs.declared.seal.Form.TheVariants.{Plain, Tagged}
use Rattle.tab_journal.specs.declared.seal.Seal.{Seal}
use Rattle.tab_journal.specs.Journals.{Batch, IsBatch, AreBatches, IsJournal}
use Rattle.tab_journal.specs.Reading.{header_at, tag_in, summed_at, batch_at, batches_within, Journal, journal_from, journal_of}
use Rattle.tab_journal.specs.Laws.{JournalsAreRead, last_sum, IsKept, WholeBatchesAreKept, CutsAreBeginnings}
use Rattle.tab_journal.proofs.Forms.{exact_front, front_long, exact_batch, batch_long}

-- ---- nothing is read of a part that is cut
cut_none : {A : Type 0} (reads : Reader A) (Says : List ℕ → A → Type 0) → Exact reads Says → (whole : List ℕ) (x : A) (m : ℕ) → Says whole x → m < length whole → IsBytes (take m whole) → reads (take m whole) ≡ None
cut_none reads Says e whole x m says less fits =
    cut_off reads Says e whole (take m whole) (drop m whole) x says (sym (take-append-drop m whole)) (λ none. omega (arith, less, length-drop m whole, ap (λ (z : List ℕ). length z) none)) fits

take_within : (m : ℕ) (xs ys : List ℕ) → m < length xs → take m (xs ++ ys) ≡ take m xs
take_within zero xs ys less = refl
take_within (suc m) [] ys less = absurd (omega (arith, less))
take_within (suc m) (x ∷ xs) ys less = ap (λ (z : List ℕ). x ∷ z) (take_within m xs ys (omega (arith, less)))

pub take_beyond : (m n : ℕ) (xs ys : List ℕ) → m ≡ length xs + n → take m (xs ++ ys) ≡ xs ++ take n ys
take_beyond m n [] ys is = let same : m ≡ n = omega (arith, is) in ap (λ (k : ℕ). take k ys) same
take_beyond m n (x ∷ xs) ys is =
    let more : m ≡ suc (length xs + n) = omega (arith, is) in
    ap (λ (k : ℕ). take k (x ∷ (xs ++ ys))) more ∙ ap (λ (z : List ℕ). x ∷ z) (take_beyond (length xs + n) n xs ys refl)

-- ---- batches
no_batch : (form : Form) (salt before : ℕ) → (tag_in form salt [] >>= λ u. summed_at salt before u.1) ≡ None
unfolding tag_in summed_at u64_at
no_batch Plain salt before = refl
no_batch Tagged salt before = refl

module _ (seal : Seal) where
  -- what is read of some bytes with fuel for all of them
  record Kept (before : ℕ) (bytes : List ℕ) (bs : List Batch) (left : List ℕ) : Type 0 where
    kept : List ℕ
    parts : bytes ≡ kept ++ left
    are : AreBatches seal before kept bs
    ends : batch_at seal (fold (λ (sum : ℕ) (b : Batch). b.sum) before bs) left ≡ None

  nothing_there : (before : ℕ) → batch_at seal before [] ≡ None
  unfolding batch_at
  nothing_there before = no_batch seal.form seal.salt before

  batches_sound : (k before : ℕ) (bytes : List ℕ) → IsBytes bytes → length bytes ≤ k → Kept before bytes (batches_within seal before k bytes).0 (batches_within seal before k bytes).1
  batches_sound zero before bytes fits short =
      let none : bytes ≡ [] = nil_from_length bytes (omega (arith, short)) in
      record { kept = []; parts = refl; are = refl; ends = ap (λ (z : List ℕ). batch_at seal before z) none ∙ nothing_there before }
  batches_sound (suc k) before bytes fits short = go (λ sum rest more less. batches_sound k sum rest more less) (batch_at seal before bytes) refl
    where
      step : Option (Batch × List ℕ) → List Batch × List ℕ
      step o = unwrap_or (o >>= λ b. let behind = batches_within seal b.0.sum k b.1 in Some (b.0 ∷ behind.0, behind.1)) ([], bytes)

      go : ((sum : ℕ) (rest : List ℕ) → IsBytes rest → length rest ≤ k → Kept sum rest (batches_within seal sum k rest).0 (batches_within seal sum k rest).1)
          → (o : Option (Batch × List ℕ)) → batch_at seal before bytes ≡ o → Kept before bytes (batches_within seal before (suc k) bytes).0 (batches_within seal before (suc k) bytes).1
      go later None is = subst (λ (p : List Batch × List ℕ). Kept before bytes p.0 p.1) (sym (ap step is)) (record { kept = []; parts = refl; are = refl; ends = is })
      go later (Some (b, rest)) is =
          let t = (exact_batch seal before).sound bytes b rest fits is in
          let len : length bytes ≡ length t.front + length rest = ap (λ (z : List ℕ). length z) t.parts ∙ length-append t.front rest in
          let r = later b.sum rest t.fits (omega (arith, len, short, batch_long seal before t.front b t.says)) in
          subst (λ (p : List Batch × List ℕ). Kept before bytes p.0 p.1) (sym (ap step is)) (record {
            kept = t.front ++ r.kept;
            parts = t.parts ∙ ap (λ (z : List ℕ). t.front ++ z) r.parts ∙ sym (append_assoc t.front r.kept (batches_within seal b.sum k rest).1);
            are = (t.front, r.kept, refl, t.says, r.are);
            ends = r.ends;
          })

  -- of all of these batches, and something behind them, with which none begins
  pub batches_complete : (bs : List Batch) (k before : ℕ) (bytes rest : List ℕ) → AreBatches seal before bytes bs → length (bytes ++ rest) ≤ k → batch_at seal (fold (λ (sum : ℕ) (b : Batch). b.sum) before bs) rest ≡ None
      → batches_within seal before k (bytes ++ rest) ≡ (bs, rest)
  batches_complete [] zero before bytes rest are short none = ap (λ (z : List ℕ). ([], z ++ rest)) are
  batches_complete [] (suc k) before bytes rest are short none =
      ap (λ (z : List ℕ). batches_within seal before (suc k) (z ++ rest)) are
      ∙ ap (λ (o : Option (Batch × List ℕ)). unwrap_or (o >>= λ b. let behind = batches_within seal b.0.sum k b.1 in Some (b.0 ∷ behind.0, behind.1)) ([], rest)) none
  batches_complete (b ∷ bs) zero before bytes rest are short none =
      let len : length bytes ≡ length are.0 + length are.1 = ap (λ (z : List ℕ). length z) are.2 ∙ length-append are.0 are.1 in
      absurd (omega (arith, len, short, length-append bytes rest, batch_long seal before are.0 b are.3))
  batches_complete (b ∷ bs) (suc k) before bytes rest are short none =
      let same : bytes ++ rest ≡ are.0 ++ (are.1 ++ rest) = ap (λ (z : List ℕ). z ++ rest) are.2 ∙ append_assoc are.0 are.1 rest in
      let len : length (bytes ++ rest) ≡ length are.0 + length (are.1 ++ rest) = ap (λ (z : List ℕ). length z) same ∙ length-append are.0 (are.1 ++ rest) in
      let first : batch_at seal before (are.0 ++ (are.1 ++ rest)) ≡ Some (b, are.1 ++ rest) = (exact_batch seal before).complete are.0 (are.1 ++ rest) b are.3 in
      let more : batches_within seal b.sum k (are.1 ++ rest) ≡ (bs, rest) = batches_complete bs k b.sum are.1 rest are.4 (omega (arith, len, short, batch_long seal before are.0 b are.3)) none in
      ap (λ (z : List ℕ). batches_within seal before (suc k) z) same
      ∙ ap (λ (o : Option (Batch × List ℕ)). unwrap_or (o >>= λ x. let behind = batches_within seal x.0.sum k x.1 in Some (x.0 ∷ behind.0, behind.1)) ([], are.0 ++ (are.1 ++ rest))) first
      ∙ ap (λ (p : List Batch × List ℕ). (b ∷ p.0, p.1)) more

  -- of a beginning of their bytes
  batches_cut : (bs : List Batch) (m k before : ℕ) (bytes : List ℕ) → IsBytes bytes → AreBatches seal before bytes bs → length (take m bytes) ≤ k
      → (n : ℕ) × (left : List ℕ) × (batches_within seal before k (take m bytes) ≡ (take n bs, left))
  batches_cut [] m k before bytes fits are short =
      let none : take m bytes ≡ [] = nil_from_length (take m bytes) (omega (arith, length-take m bytes, ap (λ (z : List ℕ). length z) are)) in
      (0, [], ap (λ (z : List ℕ). batches_within seal before k z) none ∙ batches_complete [] k before [] [] refl (omega arith) (nothing_there before))
  batches_cut (b ∷ bs) m k before bytes fits are short = elim (cases_lt m (length are.0)) [
    | inl less ↦
        let part : take m bytes ≡ take m are.0 = ap (λ (z : List ℕ). take m z) are.2 ∙ take_within m are.0 are.1 less in
        let none : batch_at seal before (take m are.0) ≡ None = cut_none (batch_at seal before) (IsBatch seal before) (exact_batch seal before) are.0 b m are.3 less (subst IsBytes part (bytes-take m bytes fits)) in
        (0, take m are.0, ap (λ (z : List ℕ). batches_within seal before k z) part ∙ batches_complete [] k before [] (take m are.0) refl (subst (λ (z : List ℕ). length z ≤ k) part short) none)
    | inr more ↦
        let part : take m bytes ≡ are.0 ++ take (m - length are.0) are.1 = ap (λ (z : List ℕ). take m z) are.2 ∙ take_beyond m (m - length are.0) are.0 are.1 (omega (arith, more)) in
        let rest : IsBytes are.1 = subst IsBytes (ap (λ (z : List ℕ). drop (length are.0) z) are.2 ∙ drop_at are.0 are.1 (length are.0) refl) (bytes-drop (length are.0) bytes fits) in
        let len : length (take m bytes) ≡ length are.0 + length (take (m - length are.0) are.1) = ap (λ (z : List ℕ). length z) part ∙ length-append are.0 (take (m - length are.0) are.1) in
        go k (λ k' enough. batches_cut bs (m - length are.0) k' b.sum are.1 rest are.4 enough) part (omega (arith, len, short, batch_long seal before are.0 b are.3))
  ]
    where
      Cut : ℕ → ℕ → Type 0
      Cut k' m' = (n : ℕ) × (left : List ℕ) × (batches_within seal b.sum k' (take m' are.1) ≡ (take n bs, left))

      go : (k : ℕ) → ((k' : ℕ) → length (take (m - length are.0) are.1) ≤ k' → Cut k' (m - length are.0)) → take m bytes ≡ are.0 ++ take (m - length are.0) are.1 → suc (length (take (m - length are.0) are.1)) ≤ k
          → (n : ℕ) × (left : List ℕ) × (batches_within seal before k (take m bytes) ≡ (take n (b ∷ bs), left))
      go zero later part enough = absurd (omega (arith, enough))
      go (suc k') later part enough =
          let r = later k' (omega (arith, enough)) in
          let first : batch_at seal before (are.0 ++ take (m - length are.0) are.1) ≡ Some (b, take (m - length are.0) are.1) = (exact_batch seal before).complete are.0 (take (m - length are.0) are.1) b are.3 in (
            suc r.0,
            r.1,
            ap (λ (z : List ℕ). batches_within seal before (suc k') z) part
                ∙ ap (λ (o : Option (Batch × List ℕ)). unwrap_or (o >>= λ x. let behind = batches_within seal x.0.sum k' x.1 in Some (x.0 ∷ behind.0, behind.1)) ([], are.0 ++ take (m - length are.0) are.1)) first
                ∙ ap (λ (p : List Batch × List ℕ). (b ∷ p.0, p.1)) r.2,
          )

pub whole_batches_are_kept : WholeBatchesAreKept
unfolding journal_of
whole_batches_are_kept bytes j fits is = on_bind (header_at bytes) (λ f. Some (journal_from f)) j (IsKept bytes j) is (λ f read made.
    let t = exact_front.sound bytes f.0 f.1 fits read in
    let r = batches_sound f.0.seal (length f.1) f.0.sum f.1 t.fits (omega arith) in
    subst (λ (x : Journal). IsKept bytes x) (some_inj (journal_from f) j made) (record {
      kept = t.front ++ r.kept;
      parts = t.parts ∙ ap (λ (z : List ℕ). t.front ++ z) r.parts ∙ sym (append_assoc t.front r.kept (journal_from f).left);
      journal = (t.front, r.kept, refl, t.says, r.are);
      ends = r.ends;
    }))

pub journals_are_read : JournalsAreRead
unfolding journal_of
journals_are_read bytes header bs fits = (forth, back)
  where
    forth : journal_of bytes ≡ Some (record { header = header; batches = bs; left = [] }) → IsJournal bytes header bs
    forth is =
        let k = whole_batches_are_kept bytes (record { header = header; batches = bs; left = [] }) fits is in
        subst (λ (z : List ℕ). IsJournal z header bs) (sym (k.parts ∙ append-nil k.kept)) k.journal

    back : IsJournal bytes header bs → journal_of bytes ≡ Some (record { header = header; batches = bs; left = [] })
    back is =
        let read : header_at bytes ≡ Some (header, is.1) = ap header_at is.2 ∙ exact_front.complete is.0 is.1 header is.3 in
        let all : batches_within header.seal header.sum (length is.1) (is.1 ++ []) ≡ (bs, []) = batches_complete header.seal bs (length is.1) header.sum is.1 [] is.4 (omega (arith, length-append is.1 [])) (nothing_there header.seal (last_sum header bs)) in
        let same : batches_within header.seal header.sum (length is.1) is.1 ≡ (bs, []) = ap (λ (z : List ℕ). batches_within header.seal header.sum (length is.1) z) (sym (append-nil is.1)) ∙ all in
        bind_some (header_at bytes) (header, is.1) (λ f. Some (journal_from f)) (Some (record { header = header; batches = bs; left = [] })) read
        (ap (λ (p : List Batch × List ℕ). Some (record { header = header; batches = p.0; left = p.1 })) same)

pub cuts_are_beginnings : CutsAreBeginnings
unfolding journal_of
cuts_are_beginnings bytes header bs n fits is le =
    let long : length is.0 ≡ 48 = front_long is.0 header is.3 in
    let part : take n bytes ≡ is.0 ++ take (n - length is.0) is.1 = ap (λ (z : List ℕ). take n z) is.2 ∙ take_beyond n (n - length is.0) is.0 is.1 (omega (arith, long, le)) in
    let rest : IsBytes is.1 = subst IsBytes (ap (λ (z : List ℕ). drop (length is.0) z) is.2 ∙ drop_at is.0 is.1 (length is.0) refl) (bytes-drop (length is.0) bytes fits) in
    let r = batches_cut header.seal bs (n - length is.0) (length (take (n - length is.0) is.1)) header.sum is.1 rest is.4 (omega arith) in
    let read : header_at (take n bytes) ≡ Some (header, take (n - length is.0) is.1) = ap header_at part ∙ exact_front.complete is.0 (take (n - length is.0) is.1) header is.3 in (
      r.0,
      r.1,
      bind_some (header_at (take n bytes)) (header, take (n - length is.0) is.1) (λ f. Some (journal_from f)) (Some (record { header = header; batches = take r.0 bs; left = r.1 })) read
          (ap (λ (p : List Batch × List ℕ). Some (record { header = header; batches = p.0; left = p.1 })) r.2),
    )
