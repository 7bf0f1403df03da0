-- Verdicts on short labels, noted and found again by number.
use Rattle.std.proofs.Common.{◌≡◌, ℕ, zero, suc, ◌^◌, ◌<◌, ◌≤◌, Bool, true, false, List, [], ◌∷◌, length, get_or, sym, refl, subst, ap, ◌∙◌, set, replicate, arith}
use Rattle.std.specs.Prelude.{IfSome, is_some, nat_le, Option, Some, None}
use Rattle.std.proofs.lemmas.Bool.Decides.{nat_tests}
use Rattle.std.proofs.Math.Nat.{pow-le-pow_right}
use Rattle.tab_key.specs.Words.{word_of, IsWord}
use Rattle.tab_key.proofs.BigEndian.{worth_bound}
use Rattle.tab_key.proofs.WordLaws.{same_words}
use Rattle.tab_label.specs.Holding.{label_holds}
use Rattle.tab_iter.specs.Verdicts.{told_number, Tells, AreTold}

-- a short label's number has room for one bit more
pub small_word : (word : ℕ) (label : List ℕ) → length label ≤ 7 → IsWord word label → word < 2 ^ 57
unfolding word_of
small_word word label short at =
    let power : 256 ^ length label ≤ 256 ^ 7 = pow-le-pow_right (omega arith) short in
    omega (arith, at.value, worth_bound label at.bytes, power)

pub small_if_short : (label : List ℕ) (word : Option ℕ) → is_some word ≡ nat_le (length label) 7 → IfSome word (λ w. IsWord w label) → IfSome word (λ w. w < 2 ^ 57)
small_if_short label None short at = at
small_if_short label (Some word) short at =
    let few : length label ≤ 7 = grind (arith, nat_tests, short) in
    small_word word label few at

-- the number that is none's tells nothing
pub zero_tells : (auths : List (List ℕ)) → Tells auths 0
unfolding word_of
zero_tells auths holds word label e at = absurd (omega (arith, e, at.value, worth_bound label at.bytes))

pub zeros_told : (auths : List (List ℕ)) (n : ℕ) → AreTold auths (replicate n 0)
zeros_told auths zero = tt
zeros_told auths (suc n) = (zero_tells auths, zeros_told auths n)

same_told : (word other : ℕ) (h b : Bool) → told_number word h ≡ told_number other b → (word ≡ other) × (h ≡ b)
same_told word other true true e = (omega (arith, e), refl)
same_told word other false false e = (omega (arith, e), refl)
same_told word other true false e = absurd (omega (arith, e))
same_told word other false true e = absurd (omega (arith, e))

-- what is noted of a label is told of no other
pub one_tells : (auths : List (List ℕ)) (word : ℕ) (h : Bool) (label : List ℕ) → IsWord word label → h ≡ label_holds label auths → Tells auths (told_number word h)
one_tells auths word h label at tells b other text e is =
    let both = same_told word other h b e in
    let text_is : label ≡ text = same_words word label text at (subst (λ (w : ℕ). IsWord w text) (sym both.0) is) in
    sym both.1 ∙ tells ∙ ap (λ (z : List ℕ). label_holds z auths) text_is

pub told_set : (auths : List (List ℕ)) (numbers : List ℕ) (place number : ℕ) → Tells auths number → AreTold auths numbers → AreTold auths (set numbers place number)
told_set auths [] place number t ts = tt
told_set auths (n ∷ numbers) zero number t ts = (t, ts.1)
told_set auths (n ∷ numbers) (suc place) number t ts = (ts.0, told_set auths numbers place number t ts.1)

pub told_at : (auths : List (List ℕ)) (numbers : List ℕ) (place number : ℕ) → place < length numbers → number ≡ get_or numbers place number → AreTold auths numbers → Tells auths number
told_at auths [] place number lt is ts = absurd (omega (arith, lt))
told_at auths (n ∷ numbers) zero number lt is ts = subst (λ (m : ℕ). Tells auths m) (sym is) ts.0
told_at auths (n ∷ numbers) (suc place) number lt is ts = told_at auths numbers place number (omega (arith, lt)) is ts.1
