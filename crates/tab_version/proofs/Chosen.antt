-- Taking an equal member out for each input is a choice of the inputs, and finds one wherever there is one.
use Rattle.std.proofs.Common.{◌≡◌, ℕ, zero, suc, ◌+◌, ◌≤◌, List, [], ◌∷◌, Bool, true, false, cond, ◌||◌, refl, sym, ◌∙◌, ap, subst, arith}
use Rattle.std.specs.Prelude.{◌==◌, Option, Some, None, option_map, option_and_then, unwrap_or, is_some}
use Rattle.std.proofs.lemmas.Bool.Decides.{nat_tests}
use mathlib.Core.Bool.{true≢false}
use Rattle.tab_cells.proofs.Lists.{by_bool}
use Rattle.tab_version.specs.Choices.{HasAt, is_among, unchosen, IsChoice, Leave}
use Rattle.tab_version.specs.Sources.{without}

pub some_is : {X : Type 0} (x y : X) → Some x ≡ Some y → x ≡ y
some_is x y e = ap (λ o. unwrap_or o x) e

nat_itself : (n : ℕ) → (n == n) ≡ true
nat_itself n = grind (arith, nat_tests)

next_alike : (j k : ℕ) → (suc j == suc k) ≡ (j == k)
next_alike j k = grind (arith, nat_tests)

next_zero : (j : ℕ) → (suc j == zero) ≡ false
next_zero j = grind (arith, nat_tests)

zero_next : (k : ℕ) → (zero == suc k) ≡ false
zero_next k = grind (arith, nat_tests)

nat_same : (a b : ℕ) → (a == b) ≡ true → a ≡ b
nat_same a b e = grind (arith, nat_tests)

-- one place more is chosen
abbrev pub also : ℕ → (ℕ → Bool) → ℕ → Bool
also k chosen j = j == k || chosen j

-- and these places
abbrev pub with_all : List ℕ → (ℕ → Bool) → ℕ → Bool
with_all places chosen j = is_among j places || chosen j

-- ---- what isn't chosen
module _ {X : Type 0} where
  chosen_alike : (c d : ℕ → Bool) (xs : List X) → ((k : ℕ) → c k ≡ d k) → unchosen c xs ≡ unchosen d xs
  chosen_alike c d [] f = refl
  chosen_alike c d (x ∷ xs) f =
      let later : unchosen (λ k. c (suc k)) xs ≡ unchosen (λ k. d (suc k)) xs = chosen_alike (λ k. c (suc k)) (λ k. d (suc k)) xs (λ k. f (suc k)) in
      λ i. cond (f zero i) (later i) (x ∷ later i)

  -- the first place, and a later one
  also_first : (c : ℕ → Bool) (xs : List X) → unchosen (λ k. also zero c (suc k)) xs ≡ unchosen (λ k. c (suc k)) xs
  also_first c xs = chosen_alike (λ k. also zero c (suc k)) (λ k. c (suc k)) xs (λ k. ap (λ v. v || c (suc k)) (next_zero k))

  also_later : (c : ℕ → Bool) (k : ℕ) (xs : List X) → unchosen (λ j. also (suc k) c (suc j)) xs ≡ unchosen (also k (λ j. c (suc j))) xs
  also_later c k xs = chosen_alike (λ j. also (suc k) c (suc j)) (also k (λ j. c (suc j))) xs (λ j. ap (λ v. v || c (suc j)) (next_alike j k))

  pub all_left : (xs : List X) → unchosen (λ k. false) xs ≡ xs
  all_left [] = refl
  all_left (x ∷ xs) = ap (λ l. x ∷ l) (all_left xs)

  pub at_mapped : (P Q : X → Type 0) → ((x : X) → P x → Q x) → (k : ℕ) (xs : List X) → HasAt P k xs → HasAt Q k xs
  at_mapped P Q f k [] h = h
  at_mapped P Q f zero (x ∷ xs) h = f x h
  at_mapped P Q f (suc k) (x ∷ xs) h = at_mapped P Q f k xs h

  -- without the first place, or with it, what is left behind it
  chosen_first : (c : ℕ → Bool) (x : X) (xs : List X) → c zero ≡ true → unchosen c (x ∷ xs) ≡ unchosen (λ k. c (suc k)) xs
  chosen_first c x xs e = ap (λ v. cond v (unchosen (λ k. c (suc k)) xs) (x ∷ unchosen (λ k. c (suc k)) xs)) e

  left_first : (c : ℕ → Bool) (x : X) (xs : List X) → c zero ≡ false → unchosen c (x ∷ xs) ≡ x ∷ unchosen (λ k. c (suc k)) xs
  left_first c x xs e = ap (λ v. cond v (unchosen (λ k. c (suc k)) xs) (x ∷ unchosen (λ k. c (suc k)) xs)) e

-- ---- the first that passes, among what isn't chosen
module _ {X : Type 0} (p : X → Bool) where
  pub record Takes (c : ℕ → Bool) (xs left : List X) : Type 0 where
    pub place : ℕ
    pub free : c place ≡ false
    pub passes : HasAt (λ x. p x ≡ true) place xs
    pub rest : left ≡ unchosen (also place c) xs

  pub takes : (c : ℕ → Bool) (xs left : List X) → without p (unchosen c xs) ≡ Some left → Takes c xs left
  takes c [] left e = absurd (cc)
  takes c (x ∷ xs) left e = by_bool (c zero)
      (λ t. behind_chosen t (takes (λ k. c (suc k)) xs left (ap (without p) (sym (chosen_first c x xs t)) ∙ e)))
      (λ f. free f (p x) refl (ap (without p) (sym (left_first c x xs f)) ∙ e) (takes (λ k. c (suc k)) xs))
    where
      behind_chosen : c zero ≡ true → Takes (λ k. c (suc k)) xs left → Takes c (x ∷ xs) left
      behind_chosen t h = record {
        place = suc h.place;
        free = h.free;
        passes = h.passes;
        rest = h.rest ∙ sym (also_later c h.place xs) ∙ sym (chosen_first (also (suc h.place) c) x xs (ap (λ v. v || c zero) (zero_next h.place) ∙ t));
      }

      behind_left : c zero ≡ false → (later : List X) → x ∷ later ≡ left → Takes (λ k. c (suc k)) xs later → Takes c (x ∷ xs) left
      behind_left f later e h = record {
        place = suc h.place;
        free = h.free;
        passes = h.passes;
        rest = sym e ∙ ap (λ l. x ∷ l) (h.rest ∙ sym (also_later c h.place xs)) ∙ sym (left_first (also (suc h.place) c) x xs (ap (λ v. v || c zero) (zero_next h.place) ∙ f));
      }

      later_one : c zero ≡ false → (o : Option (List X)) → without p (unchosen (λ k. c (suc k)) xs) ≡ o → option_map (λ l. x ∷ l) o ≡ Some left → ((l : List X) → without p (unchosen (λ k. c (suc k)) xs) ≡ Some l → Takes (λ k. c (suc k)) xs l) → Takes c (x ∷ xs) left
      later_one f None q e ih = absurd (cc)
      later_one f (Some l) q e ih = behind_left f l (some_is (x ∷ l) left e) (ih l q)

      free : c zero ≡ false → (v : Bool) → p x ≡ v → cond v (Some (unchosen (λ k. c (suc k)) xs)) (option_map (λ l. x ∷ l) (without p (unchosen (λ k. c (suc k)) xs))) ≡ Some left → ((l : List X) → without p (unchosen (λ k. c (suc k)) xs) ≡ Some l → Takes (λ k. c (suc k)) xs l) → Takes c (x ∷ xs) left
      free f true t e ih = record {
        place = zero;
        free = f;
        passes = t;
        rest = sym (some_is (unchosen (λ k. c (suc k)) xs) left e) ∙ sym (also_first c xs) ∙ sym (chosen_first (also zero c) x xs refl);
      }
      free f false t e ih = later_one f (without p (unchosen (λ k. c (suc k)) xs)) refl e ih

-- ---- how many pass
bit : Bool → ℕ
bit b = cond b 1 0

abbrev pub many : {X : Type 0} → (X → Bool) → List X → ℕ
many p [] = 0
many p (x ∷ xs) = cond (p x) 1 0 + many p xs

module _ {X : Type 0} (p : X → Bool) where
  -- one place more is chosen, whose member passes or not
  pub one_chosen : (b : Bool) (c : ℕ → Bool) (k : ℕ) (xs : List X) → c k ≡ false → HasAt (λ x. p x ≡ b) k xs → many p (unchosen c xs) ≡ cond b 1 0 + many p (unchosen (also k c) xs)
  one_chosen b c k [] f h = absurd h
  one_chosen b c zero (x ∷ xs) f h =
      ap (many p) (left_first c x xs f)
      ∙ (λ i. cond (h i) 1 0 + many p (sym (also_first c xs) i))
      ∙ ap (λ l. cond b 1 0 + many p l) (sym (chosen_first (also zero c) x xs refl))
  one_chosen b c (suc k) (x ∷ xs) f h =
      let later : many p (unchosen (λ j. c (suc j)) xs) ≡ cond b 1 0 + many p (unchosen (λ j. also (suc k) c (suc j)) xs) = one_chosen b (λ j. c (suc j)) k xs f h ∙ ap (λ l. cond b 1 0 + many p l) (sym (also_later c k xs)) in
      by_bool (c zero)
      (λ t. ap (many p) (chosen_first c x xs t) ∙ later ∙ ap (λ l. cond b 1 0 + many p l) (sym (chosen_first (also (suc k) c) x xs (ap (λ v. v || c zero) (zero_next k) ∙ t))))
      (λ g.
      let moved : cond (p x) 1 0 + (cond b 1 0 + many p (unchosen (λ j. also (suc k) c (suc j)) xs)) ≡ cond b 1 0 + (cond (p x) 1 0 + many p (unchosen (λ j. also (suc k) c (suc j)) xs)) = omega arith in
      ap (many p) (left_first c x xs g) ∙ ap (λ n. cond (p x) 1 0 + n) later ∙ moved ∙ ap (λ l. cond b 1 0 + many p l) (sym (left_first (also (suc k) c) x xs (ap (λ v. v || c zero) (zero_next k) ∙ g))))

  -- some member passes
  pub found : (xs : List X) → 1 ≤ many p xs → is_some (without p xs) ≡ true
  found [] le = absurd (omega (arith, le))
  found (x ∷ xs) le = go (p x) le (found xs)
    where
      mapped : (o : Option (List X)) → is_some (option_map (λ l. x ∷ l) o) ≡ is_some o
      mapped None = refl
      mapped (Some l) = refl

      go : (v : Bool) → 1 ≤ cond v 1 0 + many p xs → (1 ≤ many p xs → is_some (without p xs) ≡ true) → is_some (cond v (Some xs) (option_map (λ l. x ∷ l) (without p xs))) ≡ true
      go true le ih = refl
      go false le ih = mapped (without p xs) ∙ ih (omega (arith, le))

-- what there is
pub there_is : {Y : Type 0} (o : Option Y) → is_some o ≡ true → (y : Y) × (o ≡ Some y)
there_is None e = absurd (true≢false (sym e))
there_is (Some y) e = (y, refl)

-- ---- an equal one for each input
module _ {X : Type 0} (equals : X → X → Type 0) (same : X → X → Bool)
    (told : (x y : X) → same x y ≡ true → equals x y) (alike : (x y z : X) → equals x y → same z x ≡ same z y) (itself : (x : X) → same x x ≡ true)
    (out : X → List X → Option (List X)) (all : List X → List X → Option (List X))
    (none : (ys : List X) → all [] ys ≡ Some ys) (step : (x : X) (xs ys : List X) → all (x ∷ xs) ys ≡ option_and_then (all xs) (out x ys))
    (takes_so : (x : X) (ys left : List X) → out x ys ≡ Some left → (p : X → Bool) × ((y : X) → p y ≡ true → same x y ≡ true) × (without p ys ≡ Some left))
    (takes_any : (x : X) (ys : List X) → is_some (without (same x) ys) ≡ true → is_some (out x ys) ≡ true) where
  -- the choice that is made of what isn't chosen
  record Chooses (c : ℕ → Bool) (sources inputs left : List X) : Type 0 where
    pub places : List ℕ
    pub choice : IsChoice equals sources inputs places
    pub free : (k : ℕ) → is_among k places ≡ true → c k ≡ false
    pub rest : left ≡ unchosen (with_all places c) sources

  one_more : (c : ℕ → Bool) (sources : List X) (x : X) (xs left between : List X) (p : X → Bool) → ((y : X) → p y ≡ true → same x y ≡ true) → (one : Takes p c sources between) → Chooses (also one.place c) sources xs left → Chooses c sources (x ∷ xs) left
  one_more c sources x xs left between p f one more =
      let k : ℕ = one.place in
      let own : is_among k more.places ≡ false = by_bool (is_among k more.places)
      (λ t. absurd (true≢false (sym (ap (λ v. v || c k) (nat_itself k)) ∙ more.free k t)))
      (λ f. f) in
      let free : (j : ℕ) → is_among j (k ∷ more.places) ≡ true → c j ≡ false = λ j. by_bool (j == k)
      (λ t e. subst (λ (n : ℕ). c n ≡ false) (sym (nat_same j k t)) one.free)
      (λ n e. sym (ap (λ v. v || c j) n) ∙ more.free j (sym (ap (λ v. v || is_among j more.places) n) ∙ e)) in
      record {
        places = k ∷ more.places;
        choice = (at_mapped (λ y. p y ≡ true) (equals x) (λ y t. told x y (f y t)) k sources one.passes, own, more.choice);
        free = free;
        rest = more.rest ∙ chosen_alike (with_all more.places (also k c)) (with_all (k ∷ more.places) c) sources (λ j. turned (is_among j more.places) (j == k) (c j));
      }
    where
      turned : (a b d : Bool) → (a || (b || d)) ≡ ((b || a) || d)
      turned true true d = refl
      turned true false d = refl
      turned false true d = refl
      turned false false d = refl

  chooses : (inputs : List X) (c : ℕ → Bool) (sources left : List X) → all inputs (unchosen c sources) ≡ Some left → Chooses c sources inputs left
  chooses [] c sources left e = record { places = []; choice = tt; free = λ k t. absurd (true≢false (sym t)); rest = sym (some_is (unchosen c sources) left (sym (none (unchosen c sources)) ∙ e)) }
  chooses (x ∷ xs) c sources left e = go (out x (unchosen c sources)) refl (sym (step x xs (unchosen c sources)) ∙ e) (λ d. chooses xs d sources left)
    where
      go : (o : Option (List X)) → out x (unchosen c sources) ≡ o → option_and_then (all xs) o ≡ Some left → ((d : ℕ → Bool) → all xs (unchosen d sources) ≡ Some left → Chooses d sources xs left) → Chooses c sources (x ∷ xs) left
      go None q e ih = absurd (cc)
      go (Some between) q e ih =
          let so = takes_so x (unchosen c sources) between q in
          let one : Takes so.0 c sources between = takes so.0 c sources between so.2 in
          one_more c sources x xs left between so.0 so.1 one (ih (also one.place c) (ap (all xs) (sym one.rest) ∙ e))

  pub leaves : (inputs sources left : List X) → all inputs sources ≡ Some left → Leave equals inputs sources left
  leaves inputs sources left e =
      let h : Chooses (λ k. false) sources inputs left = chooses inputs (λ k. false) sources left (ap (all inputs) (all_left sources) ∙ e) in
      (h.places, h.choice, h.rest ∙ chosen_alike (with_all h.places (λ k. false)) (λ k. is_among k h.places) sources (λ k. or_false (is_among k h.places)))
    where
      or_false : (v : Bool) → (v || false) ≡ v
      or_false true = refl
      or_false false = refl

  -- ---- a choice has as many sources of each kind as inputs
  enough : (z : X) (inputs sources : List X) (places : List ℕ) (c : ℕ → Bool) → IsChoice equals sources inputs places → ((k : ℕ) → is_among k places ≡ true → c k ≡ false) → many (same z) inputs ≤ many (same z) (unchosen c sources)
  enough z [] sources places c h free = omega arith
  enough z (x ∷ xs) sources [] c h free = absurd h
  enough z (x ∷ xs) sources (k ∷ ks) c h free =
      let one : many (same z) (unchosen c sources) ≡ cond (same z x) 1 0 + many (same z) (unchosen (also k c) sources) =
      one_chosen (same z) (same z x) c k sources (free k (ap (λ v. v || is_among k ks) (nat_itself k))) (at_mapped (equals x) (λ y. same z y ≡ same z x) (λ y e. sym (alike x y z e)) k sources h.0) in
      let later : (j : ℕ) → is_among j ks ≡ true → also k c j ≡ false = λ j t. by_bool (j == k)
      (λ is. absurd (true≢false (sym t ∙ ap (λ n. is_among n ks) (nat_same j k is) ∙ h.1)))
      (λ n. ap (λ v. v || c j) n ∙ free j (ap (λ v. v || is_among j ks) n ∙ t)) in
      let rest : many (same z) xs ≤ many (same z) (unchosen (also k c) sources) = enough z xs sources ks (also k c) h.2 later in
      omega (arith, one, rest)

  -- ---- where there are as many, one is found for each
  one_out : (p q : X → Bool) (b : Bool) (xs left : List X) → ((x : X) → p x ≡ true → q x ≡ b) → without p xs ≡ Some left → many q xs ≡ cond b 1 0 + many q left
  one_out p q b xs left f e =
      let one : Takes p (λ k. false) xs left = takes p (λ k. false) xs left (ap (without p) (all_left xs) ∙ e) in
      ap (many q) (sym (all_left xs)) ∙ one_chosen q b (λ k. false) one.place xs refl (at_mapped (λ x. p x ≡ true) (λ x. q x ≡ b) f one.place xs one.passes) ∙ ap (λ l. cond b 1 0 + many q l) (sym one.rest)

  serves : (inputs sources : List X) → ((z : X) → many (same z) inputs ≤ many (same z) sources) → is_some (all inputs sources) ≡ true
  serves [] sources few = ap is_some (none sources)
  serves (x ∷ xs) sources few =
      let first : many (same x) (x ∷ xs) ≡ 1 + many (same x) xs = ap (λ v. cond v 1 0 + many (same x) xs) (itself x) in
      let some : 1 ≤ many (same x) sources = let enough = few x in omega (arith, first, enough) in
      let there = there_is (out x sources) (takes_any x sources (found (same x) sources some)) in
      let left : List X = there.0 in
      let so = takes_so x sources left there.1 in
      let fewer : (z : X) → many (same z) xs ≤ many (same z) left = λ z.
      let one : many (same z) sources ≡ cond (same z x) 1 0 + many (same z) left = one_out so.0 (same z) (same z x) sources left (λ y t. sym (alike x y z (told x y (so.1 y t)))) so.2 in
      let enough : cond (same z x) 1 0 + many (same z) xs ≤ many (same z) sources = few z in
      omega (arith, one, enough) in
      ap is_some (step x xs sources ∙ ap (option_and_then (all xs)) there.1) ∙ serves xs left fewer

  pub served : (inputs sources left : List X) → Leave equals inputs sources left → is_some (all inputs sources) ≡ true
  served inputs sources left h = serves inputs sources (λ z. subst (λ l. many (same z) inputs ≤ many (same z) l) (all_left sources) (enough z inputs sources h.0 (λ k. false) h.1 (λ k t. refl)))
