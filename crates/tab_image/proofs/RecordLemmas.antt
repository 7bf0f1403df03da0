-- Records, read part by part.
use Rattle.std.proofs.Common.{◌≡◌, ℕ, ℤ, ◌+◌, ◌≤◌, List, [], ◌++◌, length, refl, sym, ap, subst, ◌∙◌, arith, length-append}
use Rattle.tab_key.specs.Records.{Record}
use Rattle.tab_key.specs.RecordSpans.{record_in}
use Rattle.tab_key.specs.Encoding.{IsShort}
use Rattle.tab_key.specs.declared.key.Kind.{Kind}
use Rattle.tab_key.specs.declared.limited_part.TheConstants.{MAX_PART_LEN}
use Rattle.tab_key.specs.declared.record_span.RecordSpan.{RecordSpan}
use Rattle.tab_key.proofs.Packed.{LaysOut, laid_within, laid_record}
use Rattle.tab_io.specs.declared.reading.Input.{Ghosts}
use Rattle.tab_codec.specs.Reading.{u32_at, u64_at, i64_at, kind_at}
use Rattle.tab_image.specs.declared.unread.Unread.{Unread}
use Rattle.tab_image.specs.Reading.{part_at, record_at}
use Rattle.tab_image.specs.Streams.{HasRead, Stops, Appended}
use Rattle.tab_image.specs.Laying.{HasLaid}
use Rattle.tab_image.proofs.Streams.{read_then, read_made, stops_first, stops_later}

-- the record of these parts
abbrev pub record_of : List ℕ → List ℕ → List ℕ → List ℕ → ℤ → Kind → ℕ → ℕ → List ℕ → Record
record_of ro f q l t k s i v = record { key = record { row = ro; family = f; qualifier = q; label = l; timestamp = t }; kind = k; value = v; seq = s; idx = i }

module _ {R : Type 0} (g : Ghosts R) where
  record_read : (s0 s1 s2 s3 s4 s5 s6 s7 s8 s9 : R) (ro f q l : List ℕ) (t : ℤ) (k : Kind) (s i : ℕ) (v : List ℕ)
      → HasRead g s0 s1 part_at ro → HasRead g s1 s2 part_at f → HasRead g s2 s3 part_at q → HasRead g s3 s4 part_at l → HasRead g s4 s5 i64_at t → HasRead g s5 s6 kind_at k → HasRead g s6 s7 u64_at s → HasRead g s7 s8 u32_at i → HasRead g s8 s9 part_at v
      → HasRead g s0 s9 record_at (record_of ro f q l t k s i v)
  unfolding record_at
  record_read s0 s1 s2 s3 s4 s5 s6 s7 s8 s9 ro f q l t k s i v p0 p1 p2 p3 p4 p5 p6 p7 p8 =
      read_then g s0 s1 s9 part_at _ ro _ p0 (read_then g s1 s2 s9 part_at _ f _ p1 (read_then g s2 s3 s9 part_at _ q _ p2 (read_then g s3 s4 s9 part_at _ l _ p3
      (read_then g s4 s5 s9 i64_at _ t _ p4 (read_then g s5 s6 s9 kind_at _ k _ p5 (read_then g s6 s7 s9 u64_at _ s _ p6 (read_then g s7 s8 s9 u32_at _ i _ p7 (read_then g s8 s9 s9 part_at _ v _ p8 (read_made g s9 _)))))))))

  -- the parts, put one behind another where nothing was
  pub all_laid : (s0 s1 s2 s3 s4 s5 s6 s7 s8 s9 : R) (b0 b1 b2 b3 b4 b5 : List ℕ) (e1 e2 e3 e4 : ℕ) (t : ℤ) (k : Kind) (s i : ℕ) → b0 ≡ []
      → Appended g s0 s1 part_at b0 b1 → Appended g s1 s2 part_at b1 b2 → Appended g s2 s3 part_at b2 b3 → Appended g s3 s4 part_at b3 b4 → HasRead g s4 s5 i64_at t → HasRead g s5 s6 kind_at k → HasRead g s6 s7 u64_at s → HasRead g s7 s8 u32_at i → Appended g s8 s9 part_at b4 b5
      → e1 ≡ length b1 → e2 ≡ length b2 → e3 ≡ length b3 → e4 ≡ length b4
      → length b1 ≤ length b0 + MAX_PART_LEN → length b2 ≤ length b1 + MAX_PART_LEN → length b3 ≤ length b2 + MAX_PART_LEN → length b4 ≤ length b3 + MAX_PART_LEN → length b5 ≤ length b4 + MAX_PART_LEN
      → HasLaid g s0 s9 b5 (record { row_end = e1; family_end = e2; qualifier_end = e3; label_end = e4; timestamp = t; kind = k; seq = s; idx = i })
  all_laid s0 s1 s2 s3 s4 s5 s6 s7 s8 s9 b0 b1 b2 b3 b4 b5 e1 e2 e3 e4 t k s i none p1 p2 p3 p4 p5 p6 p7 p8 p9 n1 n2 n3 n4 m1 m2 m3 m4 m5 =
      let r : Record = record_of p1.text p2.text p3.text p4.text t k s i p9.text in
      let span : RecordSpan = record { start = 0; row_end = e1; family_end = e2; qualifier_end = e3; label_end = e4; end = length b5; timestamp = t; seq = s; idx = i; kind = k } in
      let first : b1 ≡ p1.text = p1.whole ∙ ap (λ (z : List ℕ). z ++ p1.text) none in
      let whole : b5 ≡ p1.text ++ p2.text ++ p3.text ++ p4.text ++ p9.text = p9.whole ∙ ap (λ (z : List ℕ). z ++ p9.text) (p4.whole ∙ ap (λ (z : List ℕ). z ++ p4.text) (p3.whole ∙ ap (λ (z : List ℕ). z ++ p3.text) (p2.whole ∙ ap (λ (z : List ℕ). z ++ p2.text) first))) in
      let l1 : length b1 ≡ length p1.text = ap (λ (z : List ℕ). length z) first in
      let l2 : length b2 ≡ length b1 + length p2.text = ap (λ (z : List ℕ). length z) p2.whole ∙ length-append b1 p2.text in
      let l3 : length b3 ≡ length b2 + length p3.text = ap (λ (z : List ℕ). length z) p3.whole ∙ length-append b2 p3.text in
      let l4 : length b4 ≡ length b3 + length p4.text = ap (λ (z : List ℕ). length z) p4.whole ∙ length-append b3 p4.text in
      let l5 : length b5 ≡ length b4 + length p9.text = ap (λ (z : List ℕ). length z) p9.whole ∙ length-append b4 p9.text in
      let l0 : length b0 ≡ 0 = ap (λ (z : List ℕ). length z) none in
      let out : LaysOut [] r b5 span = record {
        whole = whole;
        start = refl;
        row = omega (arith, n1, l1);
        family = omega (arith, n1, n2, l2);
        qualifier = omega (arith, n2, n3, l3);
        label = omega (arith, n3, n4, l4);
        value = omega (arith, n4, l5);
        timestamp = refl;
        kind = refl;
        seq = refl;
        idx = refl;
      } in
      let is : record_in b5 span ≡ r = laid_record [] r b5 span out in
      let short : IsShort r = record { row = omega (arith, m1, l0, l1); family = omega (arith, m2, l2); qualifier = omega (arith, m3, l3); label = omega (arith, m4, l4); value = omega (arith, m5, l5) } in
      record {
        read = subst (λ (x : Record). HasRead g s0 s9 record_at x) (sym is) (record_read s0 s1 s2 s3 s4 s5 s6 s7 s8 s9 _ _ _ _ t k s i _ p1.read p2.read p3.read p4.read p5 p6 p7 p8 p9.read);
        within = laid_within [] r b5 span out;
        short = subst (λ (x : Record). IsShort x) (sym is) short;
      }

  -- ---- the first that isn't there, and those before it
  pub stops_1 : (s0 z : R) (e : Unread) → Stops g s0 z part_at e → Stops g s0 z record_at e
  unfolding record_at
  stops_1 s0 z e stop = stops_first g s0 z part_at _ e stop

  pub stops_2 : (s0 s1 z : R) (ro : List ℕ) (e : Unread) → HasRead g s0 s1 part_at ro → Stops g s1 z part_at e → Stops g s0 z record_at e
  unfolding record_at
  stops_2 s0 s1 z ro e p0 stop = stops_later g s0 s1 z part_at _ ro e p0 (stops_first g s1 z part_at _ e stop)

  pub stops_3 : (s0 s1 s2 z : R) (ro : List ℕ) (f : List ℕ) (e : Unread) → HasRead g s0 s1 part_at ro → HasRead g s1 s2 part_at f → Stops g s2 z part_at e → Stops g s0 z record_at e
  unfolding record_at
  stops_3 s0 s1 s2 z ro f e p0 p1 stop = stops_later g s0 s1 z part_at _ ro e p0 (stops_later g s1 s2 z part_at _ f e p1 (stops_first g s2 z part_at _ e stop))

  pub stops_4 : (s0 s1 s2 s3 z : R) (ro : List ℕ) (f : List ℕ) (q : List ℕ) (e : Unread) → HasRead g s0 s1 part_at ro → HasRead g s1 s2 part_at f → HasRead g s2 s3 part_at q → Stops g s3 z part_at e → Stops g s0 z record_at e
  unfolding record_at
  stops_4 s0 s1 s2 s3 z ro f q e p0 p1 p2 stop = stops_later g s0 s1 z part_at _ ro e p0 (stops_later g s1 s2 z part_at _ f e p1 (stops_later g s2 s3 z part_at _ q e p2 (stops_first g s3 z part_at _ e stop)))

  pub stops_5 : (s0 s1 s2 s3 s4 z : R) (ro : List ℕ) (f : List ℕ) (q : List ℕ) (l : List ℕ) (e : Unread) → HasRead g s0 s1 part_at ro → HasRead g s1 s2 part_at f → HasRead g s2 s3 part_at q → HasRead g s3 s4 part_at l → Stops g s4 z i64_at e → Stops g s0 z record_at e
  unfolding record_at
  stops_5 s0 s1 s2 s3 s4 z ro f q l e p0 p1 p2 p3 stop = stops_later g s0 s1 z part_at _ ro e p0 (stops_later g s1 s2 z part_at _ f e p1 (stops_later g s2 s3 z part_at _ q e p2 (stops_later g s3 s4 z part_at _ l e p3 (stops_first g s4 z i64_at _ e stop))))

  pub stops_6 : (s0 s1 s2 s3 s4 s5 z : R) (ro : List ℕ) (f : List ℕ) (q : List ℕ) (l : List ℕ) (t : ℤ) (e : Unread) → HasRead g s0 s1 part_at ro → HasRead g s1 s2 part_at f → HasRead g s2 s3 part_at q → HasRead g s3 s4 part_at l → HasRead g s4 s5 i64_at t → Stops g s5 z kind_at e → Stops g s0 z record_at e
  unfolding record_at
  stops_6 s0 s1 s2 s3 s4 s5 z ro f q l t e p0 p1 p2 p3 p4 stop = stops_later g s0 s1 z part_at _ ro e p0 (stops_later g s1 s2 z part_at _ f e p1 (stops_later g s2 s3 z part_at _ q e p2 (stops_later g s3 s4 z part_at _ l e p3 (stops_later g s4 s5 z i64_at _ t e p4 (stops_first g s5 z kind_at _ e stop)))))

  pub stops_7 : (s0 s1 s2 s3 s4 s5 s6 z : R) (ro : List ℕ) (f : List ℕ) (q : List ℕ) (l : List ℕ) (t : ℤ) (k : Kind) (e : Unread) → HasRead g s0 s1 part_at ro → HasRead g s1 s2 part_at f → HasRead g s2 s3 part_at q → HasRead g s3 s4 part_at l → HasRead g s4 s5 i64_at t → HasRead g s5 s6 kind_at k → Stops g s6 z u64_at e → Stops g s0 z record_at e
  unfolding record_at
  stops_7 s0 s1 s2 s3 s4 s5 s6 z ro f q l t k e p0 p1 p2 p3 p4 p5 stop = stops_later g s0 s1 z part_at _ ro e p0 (stops_later g s1 s2 z part_at _ f e p1 (stops_later g s2 s3 z part_at _ q e p2 (stops_later g s3 s4 z part_at _ l e p3 (stops_later g s4 s5 z i64_at _ t e p4 (stops_later g s5 s6 z kind_at _ k e p5 (stops_first g s6 z u64_at _ e stop))))))

  pub stops_8 : (s0 s1 s2 s3 s4 s5 s6 s7 z : R) (ro : List ℕ) (f : List ℕ) (q : List ℕ) (l : List ℕ) (t : ℤ) (k : Kind) (s : ℕ) (e : Unread) → HasRead g s0 s1 part_at ro → HasRead g s1 s2 part_at f → HasRead g s2 s3 part_at q → HasRead g s3 s4 part_at l → HasRead g s4 s5 i64_at t → HasRead g s5 s6 kind_at k → HasRead g s6 s7 u64_at s → Stops g s7 z u32_at e → Stops g s0 z record_at e
  unfolding record_at
  stops_8 s0 s1 s2 s3 s4 s5 s6 s7 z ro f q l t k s e p0 p1 p2 p3 p4 p5 p6 stop = stops_later g s0 s1 z part_at _ ro e p0 (stops_later g s1 s2 z part_at _ f e p1 (stops_later g s2 s3 z part_at _ q e p2 (stops_later g s3 s4 z part_at _ l e p3 (stops_later g s4 s5 z i64_at _ t e p4 (stops_later g s5 s6 z kind_at _ k e p5 (stops_later g s6 s7 z u64_at _ s e p6 (stops_first g s7 z u32_at _ e stop)))))))

  pub stops_9 : (s0 s1 s2 s3 s4 s5 s6 s7 s8 z : R) (ro : List ℕ) (f : List ℕ) (q : List ℕ) (l : List ℕ) (t : ℤ) (k : Kind) (s : ℕ) (i : ℕ) (e : Unread) → HasRead g s0 s1 part_at ro → HasRead g s1 s2 part_at f → HasRead g s2 s3 part_at q → HasRead g s3 s4 part_at l → HasRead g s4 s5 i64_at t → HasRead g s5 s6 kind_at k → HasRead g s6 s7 u64_at s → HasRead g s7 s8 u32_at i → Stops g s8 z part_at e → Stops g s0 z record_at e
  unfolding record_at
  stops_9 s0 s1 s2 s3 s4 s5 s6 s7 s8 z ro f q l t k s i e p0 p1 p2 p3 p4 p5 p6 p7 stop = stops_later g s0 s1 z part_at _ ro e p0 (stops_later g s1 s2 z part_at _ f e p1 (stops_later g s2 s3 z part_at _ q e p2 (stops_later g s3 s4 z part_at _ l e p3 (stops_later g s4 s5 z i64_at _ t e p4 (stops_later g s5 s6 z kind_at _ k e p5 (stops_later g s6 s7 z u64_at _ s e p6 (stops_later g s7 s8 z u32_at _ i e p7 (stops_first g s8 z part_at _ e stop))))))))
