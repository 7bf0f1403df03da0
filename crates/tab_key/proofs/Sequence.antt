-- Records that lie one after another in a body.
use Rattle.std.proofs.Common.{◌≡◌, ℕ, zero, suc, ◌+◌, ◌*◌, ◌≤◌, List, [], ◌∷◌, ◌++◌, refl, sym, ◌∙◌, ap, subst, length, take, arith}
use Rattle.tab_key.specs.Encoding.{span_at, places_from, end_from, IsAt, AreAt}
use Rattle.tab_key.specs.declared.record_span.RecordSpan.{RecordSpan}
use Rattle.tab_key.proofs.Placed.{head_inside, same_span}

-- one more
pub places_more : (body : List ℕ) (p n : ℕ) → places_from body p (suc n) ≡ places_from body p n ++ end_from body p n ∷ []
places_more body p zero = refl
places_more body p (suc n) = ap (λ l. p ∷ l) (places_more body (span_at body p).end n)

pub end_more : (body : List ℕ) (p n : ℕ) → end_from body p (suc n) ≡ (span_at body (end_from body p n)).end
end_more body p zero = refl
end_more body p (suc n) = end_more body (span_at body p).end n

-- in a body that keeps its front they lie where they lay
module _ (old new : List ℕ) (front : take (length old) new ≡ old) where
  same_next : (p : ℕ) → IsAt old p → (span_at new p).end ≡ (span_at old p).end
  same_next p w = ap (λ (s : RecordSpan). s.end) (same_span old new p front (head_inside old p w))

  pub same_places : (p n : ℕ) → AreAt old (places_from old p n) → places_from new p n ≡ places_from old p n
  same_places p zero w = refl
  same_places p (suc n) w = ap (λ l. p ∷ l) (ap (λ q. places_from new q n) (same_next p w.0) ∙ same_places (span_at old p).end n w.1)

  pub same_end : (p n : ℕ) → AreAt old (places_from old p n) → end_from new p n ≡ end_from old p n
  same_end p zero w = refl
  same_end p (suc n) w = ap (λ q. end_from new q n) (same_next p w.0) ∙ same_end (span_at old p).end n w.1

  -- and behind them one that was put at the end
  module _ (n p : ℕ) (w : AreAt old (places_from old 0 n)) (ends : end_from old 0 n ≡ length old) (at : p ≡ length old) where
    there : end_from new 0 n ≡ p
    there = same_end 0 n w ∙ ends ∙ sym at

    one_more : n + 1 ≡ suc n
    one_more = omega arith

    pub grown_places : places_from new 0 (n + 1) ≡ places_from old 0 n ++ p ∷ []
    grown_places = ap (places_from new 0) one_more ∙ places_more new 0 n ∙ (λ i. same_places 0 n w i ++ there i ∷ [])

    pub grown_end : (span_at new p).end ≡ length new → end_from new 0 (n + 1) ≡ length new
    grown_end e = ap (end_from new 0) one_more ∙ end_more new 0 n ∙ ap (λ q. (span_at new q).end) there ∙ e

-- each takes 41 bytes at least
head_before : (body : List ℕ) (p : ℕ) → p + 41 ≤ (span_at body p).end
unfolding span_at
head_before body p = omega arith

pub many_fit : (body : List ℕ) (p n : ℕ) → p + 41 * n ≤ end_from body p n
many_fit body p zero = omega arith
many_fit body p (suc n) = omega (arith, many_fit body (span_at body p).end n, head_before body p)
