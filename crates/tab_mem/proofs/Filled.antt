-- A body that records fill.
use Rattle.std.proofs.Common.{◌≡◌, ℕ, zero, suc, List, ◌∷◌, refl, ◌∙◌, ap, subst, length}
use Rattle.std.proofs.lemmas.List.{length-map}
use Rattle.tab_key.specs.Encoding.{span_at, record_at, records_at, places_from, IsAt, AreAt}

places_long : (body : List ℕ) (p n : ℕ) → length (places_from body p n) ≡ n
places_long body p zero = refl
places_long body p (suc n) = ap suc (places_long body (span_at body p).end n)

pub count_is : (body : List ℕ) (n : ℕ) → length (records_at body (places_from body 0 n)) ≡ n
count_is body n = length-map (places_from body 0 n) (record_at body) ∙ places_long body 0 n

-- ---- the first of those that are left
module _ (body : List ℕ) (p left k : ℕ) (e : left ≡ suc k) where
  pub first_at : AreAt body (places_from body p left) → IsAt body p
  first_at w = let there : AreAt body (places_from body p (suc k)) = subst (λ n. AreAt body (places_from body p n)) e w in there.0

  pub rest_at : AreAt body (places_from body p left) → AreAt body (places_from body (span_at body p).end k)
  rest_at w = let there : AreAt body (places_from body p (suc k)) = subst (λ n. AreAt body (places_from body p n)) e w in there.1

  pub first_of_them : records_at body (places_from body p left) ≡ record_at body p ∷ records_at body (places_from body (span_at body p).end k)
  first_of_them = ap (λ n. records_at body (places_from body p n)) e
