-- Several texts that are put one behind the other.
use Rattle.std.proofs.Common.{◌≡◌, ℕ, ◌+◌, ◌-◌, ◌≤◌, List, take, drop, refl, sym, ap, subst, ◌∙◌, drop-drop, arith}
use Rattle.std.proofs.lemmas.List.{take-take}
use Rattle.tab_journal.specs.Device.{Torn, Follows}

-- ---- what a write leaves that a crash cuts short
torn_still : (at n : ℕ) (c : List ℕ) → Torn at n c c
torn_still at n c = record { before = refl; after = refl; no_shorter = omega arith; no_longer = omega arith }

-- the same of two, one behind the other
torn_again : (at n m : ℕ) (e d c : List ℕ) → Torn at n e d → Torn (at + n) m d c → Torn at (n + m) e c
torn_again at n m e d c first second =
    let all : at + (n + m) ≡ (at + n) + m = omega arith in
    let low : at ≤ at + n = omega arith in
    let behind : drop ((at + n) + m) d ≡ drop ((at + n) + m) e = sym (drop-drop m (at + n) d) ∙ ap (λ (z : List ℕ). drop m z) first.after ∙ drop-drop m (at + n) e in
    record {
      before = sym (take-take at (at + n) c low) ∙ ap (λ (z : List ℕ). take at z) second.before ∙ take-take at (at + n) d low ∙ first.before;
      after = ap (λ (k : ℕ). drop k c) all ∙ second.after ∙ behind ∙ ap (λ (k : ℕ). drop k e) (sym all);
      no_shorter = omega (arith, first.no_shorter, second.no_shorter);
      no_longer = omega (arith, first.no_longer, second.no_longer);
    }

-- of a longer one
torn_wider : (at n m : ℕ) (d c : List ℕ) → n ≤ m → Torn at n d c → Torn at m d c
torn_wider at n m d c le t =
    let all : at + m ≡ (at + n) + (m - n) = omega (arith, le) in
    record {
      before = t.before;
      after = ap (λ (k : ℕ). drop k c) all ∙ sym (drop-drop (m - n) (at + n) c) ∙ ap (λ (z : List ℕ). drop (m - n) z) t.after ∙ drop-drop (m - n) (at + n) d ∙ ap (λ (k : ℕ). drop k d) (sym all);
      no_shorter = t.no_shorter;
      no_longer = omega (arith, le, t.no_longer);
    }

-- ---- three of them
module _ (at a b c : ℕ) (old : List ℕ → Type 0) where
  abbrev pub Something : List ℕ → Type 0
  Something x = (d : List ℕ) × old d × Torn at (a + (b + c)) d x

  pub something_at_first : (x : List ℕ) → old x → Something x
  something_at_first x left = (x, left, torn_still at (a + (b + c)) x)

  module _ (one : List ℕ → Type 0) (f : Follows (Torn at a) old one) where
    pub something_of_one : (x : List ℕ) → one x → Something x
    something_of_one x left = let d = f x left in (d.0, d.1, torn_wider at a (a + (b + c)) d.0 x (omega arith) d.2)

    module _ (two : List ℕ → Type 0) (n : ℕ) (is : n ≡ at + a) (g : Follows (Torn n b) one two) where
      both : Follows (Torn at (a + b)) old two
      both x left =
          let d = g x left in
          let e = f d.0 d.1 in
          (e.0, e.1, torn_again at a b e.0 d.0 x e.2 (subst (λ (k : ℕ). Torn k b d.0 x) is d.2))

      pub something_of_two : (x : List ℕ) → two x → Something x
      something_of_two x left = let d = both x left in (d.0, d.1, torn_wider at (a + b) (a + (b + c)) d.0 x (omega arith) d.2)

      pub something_of_three : (three : List ℕ → Type 0) (m : ℕ) → m ≡ n + b → Follows (Torn m c) two three → Follows (Torn at (a + (b + c))) old three
      something_of_three three m more h x left =
          let d = h x left in
          let e = both d.0 d.1 in
          let place : m ≡ at + (a + b) = omega (arith, is, more) in
          let all : (a + b) + c ≡ a + (b + c) = omega arith in
          (e.0, e.1, subst (λ (k : ℕ). Torn at k e.0 x) all (torn_again at (a + b) c e.0 d.0 x e.2 (subst (λ (k : ℕ). Torn k c d.0 x) place d.2)))
