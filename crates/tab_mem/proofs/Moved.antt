-- Records that are moved to the front of their body.
use Rattle.std.proofs.Common.{◌≡◌, ℕ, zero, suc, ◌+◌, ◌-◌, ◌≤◌, List, [], ◌∷◌, ◌++◌, refl, sym, ◌∙◌, ap, subst, length, take, drop, arith, length-append}
use Rattle.std.specs.List.{slice_range}
use Rattle.std.proofs.Math.Seq.{drop-append_seam, take-append_seam}
use Rattle.std.proofs.lemmas.List.{drop-drop, length-take-le}
use Rattle.tab_key.specs.Encoding.{span_at, record_at, records_at, places_from, end_from, IsAt, AreAt, IsShort, record_size}
use Rattle.tab_key.specs.RecordSpans.{IsWithin}
use Rattle.tab_key.specs.Records.{Record}
use Rattle.tab_key.proofs.Placed.{pushed_at, pushed_records}
use Rattle.tab_key.proofs.Sequence.{grown_places, grown_end}
use Rattle.tab_key.proofs.Windows.{tail_record, tail_end, ends_behind, piece_at, piece_record, piece_size, put_at, put_record}
use Rattle.tab_mem.specs.Lists.{IsFilled}

-- whatever a head says, its ends rise
ends_rise : (body : List ℕ) (p : ℕ) → (span_at body p).end ≤ length body → IsWithin body (span_at body p)
unfolding span_at
ends_rise body p low = record { row = omega arith; family = omega arith; qualifier = omega arith; label = omega arith; value = omega arith; whole = low }

-- ---- partitions that are the same from a place on hold the same records from there on
module _ (old new : List ℕ) (e : ℕ) (behind : drop e new ≡ drop e old) (long : length new ≡ length old) where
  onward : (p : ℕ) → e ≤ p → drop p new ≡ drop p old
  onward p le =
      let far : e + (p - e) ≡ p = omega (arith, le) in
      ap (λ n. drop n new) (sym far) ∙ sym (drop-drop (p - e) e new) ∙ ap (drop (p - e)) behind ∙ drop-drop (p - e) e old ∙ ap (λ n. drop n old) far

  next_same : (p : ℕ) → e ≤ p → (span_at new p).end ≡ (span_at old p).end
  next_same p le = tail_end new p ∙ ap (λ (b : List ℕ). p + (span_at b 0).end) (onward p le) ∙ sym (tail_end old p)

  record_same : (p : ℕ) → e ≤ p → record_at new p ≡ record_at old p
  record_same p le = sym (tail_record new p) ∙ ap (λ b. record_at b 0) (onward p le) ∙ tail_record old p

  at_same : (p : ℕ) → e ≤ p → IsAt old p → IsAt new p
  at_same p le w = record {
    within = ends_rise new p (omega (arith, next_same p le, w.within.whole, long));
    short = subst IsShort (sym (record_same p le)) w.short;
  }

  further : (p : ℕ) → e ≤ p → e ≤ (span_at old p).end
  further p le = omega (arith, le, ends_behind old p)

  pub left_at : (p n : ℕ) → e ≤ p → AreAt old (places_from old p n) → AreAt new (places_from new p n)
  left_at p zero le w = tt
  left_at p (suc n) le w = (at_same p le w.0, subst (λ q. AreAt new (places_from new q n)) (sym (next_same p le)) (left_at (span_at old p).end n (further p le) w.1))

  pub left_records : (p n : ℕ) → e ≤ p → records_at new (places_from new p n) ≡ records_at old (places_from old p n)
  left_records p zero le = refl
  left_records p (suc n) le = λ i. record_same p le i ∷ (ap (λ q. records_at new (places_from new q n)) (next_same p le) ∙ left_records (span_at old p).end n (further p le)) i

  pub left_end : (p n : ℕ) → e ≤ p → end_from new p n ≡ end_from old p n
  left_end p zero le = refl
  left_end p (suc n) le = ap (λ q. end_from new q n) (next_same p le) ∙ left_end (span_at old p).end n (further p le)

-- where a record ends whose bytes are put behind others
pub put_end : (old bytes : List ℕ) → (span_at bytes 0).end ≡ length bytes → (span_at (old ++ bytes) (length old)).end ≡ length (old ++ bytes)
put_end old bytes ends =
    omega (arith, tail_end (old ++ bytes) (length old), ap (λ (b : List ℕ). (span_at b 0).end) (drop-append_seam old bytes), ends, length-append old bytes)

-- ---- a record's own bytes
module _ (body : List ℕ) (p : ℕ) (w : IsAt body p) where
  abbrev piece : List ℕ
  piece = slice_range body p (span_at body p).end

  -- its end is theirs
  pub piece_end : (span_at piece 0).end ≡ length piece
  piece_end =
      let there = piece_at body p w in
      let inner : length (slice_range piece 0 (span_at piece 0).end) ≡ (span_at piece 0).end - 0 = length-take-le ((span_at piece 0).end - 0) piece (omega (arith, there.within.whole)) in
      let size : record_size (record_at piece 0) ≡ record_size (record_at body p) = ap (λ (r : Record). record_size r) (piece_record body p w) in
      omega (arith, inner, piece_size piece 0 there, size, piece_size body p w)

  -- ---- put behind those that fill another body
  module _ (kept : List ℕ) (n : ℕ) (filled : IsFilled kept n) where
    abbrev grown : List ℕ
    grown = kept ++ piece

    front : take (length kept) grown ≡ kept
    front = take-append_seam kept piece

    places : places_from grown 0 (n + 1) ≡ places_from kept 0 n ++ length kept ∷ []
    places = grown_places kept grown front n (length kept) filled.at filled.ends refl

    ends : (span_at grown (length kept)).end ≡ length grown
    ends = put_end kept piece piece_end

    filled_more : IsFilled grown (n + 1)
    filled_more = record {
      at = pushed_at kept grown (places_from kept 0 n) (places_from grown 0 (n + 1)) (length kept) places front filled.at (put_at kept piece (piece_at body p w));
      ends = grown_end kept grown front n (length kept) filled.at filled.ends refl ends;
    }

    records_more : records_at grown (places_from grown 0 (n + 1)) ≡ records_at kept (places_from kept 0 n) ++ record_at body p ∷ []
    records_more = pushed_records kept grown (places_from kept 0 n) (places_from grown 0 (n + 1)) (length kept) (record_at body p) places front filled.at (put_record kept piece (piece_at body p w) ∙ piece_record body p w)

-- .. under the names that these have where it is moved
module _ (body now kept : List ℕ) (p e n : ℕ) (w : IsAt body p) (is : e ≡ (span_at body p).end) (moved : now ≡ kept ++ slice_range body p e) (filled : IsFilled kept n) where
  whole : now ≡ kept ++ slice_range body p (span_at body p).end
  whole = moved ∙ ap (λ q. kept ++ slice_range body p q) is

  pub moved_filled : IsFilled now (n + 1)
  moved_filled = subst (λ b. IsFilled b (n + 1)) (sym whole) (filled_more body p w kept n filled)

  pub moved_records : records_at now (places_from now 0 (n + 1)) ≡ records_at kept (places_from kept 0 n) ++ record_at body p ∷ []
  moved_records = ap (λ b. records_at b (places_from b 0 (n + 1))) whole ∙ records_more body p w kept n filled
