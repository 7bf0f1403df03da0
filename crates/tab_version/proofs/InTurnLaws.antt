-- What is left of lists that are read one after another.
use Rattle.std.proofs.Common.{◌≡◌, ◌≢◌, ◌⊎◌, inl, inr, ℕ, zero, suc, ◌+◌, ◌<◌, ◌≤◌, List, [], ◌∷◌, ◌++◌, true, false, refl, sym, ◌∙◌, ap, subst, length, drop, arith}
use Rattle.std.specs.Prelude.{Option, Some, None, is_some, slice_index_or}
use Rattle.std.specs.List.{AllByRecursion}
use Rattle.std.proofs.lemmas.List.{drop_more}
use Rattle.std.proofs.Math.ListN.{drop_of_length-le}
use mathlib.Core.Bool.{true≢false}
use Rattle.tab_key.specs.Records.{Key, Record}
use Rattle.tab_iter.specs.Bags.{flat, IsEnding}
use Rattle.tab_iter.specs.Lists.{first_of, tail, from_key, IsEnd}
use Rattle.tab_iter.proofs.ListLaws.{ends_whole, ends_from_key}
use Rattle.tab_iter.proofs.MergingLaws.{ending_of_end}
use Rattle.tab_version.specs.InTurn.{of_current, before, left_in, reaches}
use Rattle.tab_version.proofs.Reaching.{sought, reached_some, filled_here}

drop_none : (n : ℕ) (xss : List (List Record)) → length xss ≤ n → flat (drop n xss) ≡ []
drop_none n xss le = ap flat (drop_of_length-le xss le)

-- ---- whether there is a first record
pub some_first : (xs : List Record) → is_some (first_of xs) ≡ true → xs ≡ [] → ⊥
some_first xs e n = true≢false (sym e ∙ ap (λ l. is_some (first_of l)) n)

pub none_first : (xs : List Record) → is_some (first_of xs) ≡ false → xs ≡ []
none_first [] e = refl
none_first (x ∷ xs) e = absurd (true≢false e)

-- ---- the first record, and what is behind it
pub first_left : (xs : List Record) (n : ℕ) (xss : List (List Record)) → (xs ≡ [] → length xss ≤ n) → first_of xs ≡ first_of (xs ++ flat (drop n xss))
first_left [] n xss h = ap first_of (sym (drop_none n xss (h refl)))
first_left (x ∷ xs) n xss h = refl

tail_left : (xs : List Record) (n : ℕ) (xss : List (List Record)) → (xs ≡ [] → length xss ≤ n) → tail xs ++ flat (drop n xss) ≡ tail (xs ++ flat (drop n xss))
tail_left [] n xss h = let none = drop_none n xss (h refl) in none ∙ ap tail (sym none)
tail_left (x ∷ xs) n xss h = refl

-- an advance of the source that is read, which has more
pub stepped : {S : Type 0} (rest : S → List Record) (a b : Option S) (n : ℕ) (xss : List (List Record)) → (of_current rest a ≡ [] → length xss ≤ n) → of_current rest b ≡ tail (of_current rest a) → left_in rest b n xss ≡ tail (left_in rest a n xss)
stepped rest a b n xss ended is = ap (λ l. l ++ flat (drop n xss)) is ∙ tail_left (of_current rest a) n xss ended

-- one that leaves nothing, and then the next list
pub advanced : {S : Type 0} (rest : S → List Record) (a b c : Option S) (n m : ℕ) (xss : List (List Record)) → (of_current rest a ≡ [] → length xss ≤ n) → of_current rest b ≡ tail (of_current rest a) → is_some (first_of (of_current rest b)) ≡ false → left_in rest c m xss ≡ flat (drop n xss) → left_in rest c m xss ≡ tail (left_in rest a n xss)
advanced rest a b c n m xss ended is none same = same ∙ ap (λ l. l ++ flat (drop n xss)) (sym (none_first (of_current rest b) none)) ∙ stepped rest a b n xss ended is

-- ---- ends
pub ending_whole : (xs w : List Record) → xs ≡ w → IsEnding xs w
ending_whole xs w e = subst (λ l. IsEnding l w) (sym e) (ending_of_end w w (ends_whole w))

pub ending_key : (k : Key) (xs w : List Record) → xs ≡ from_key k w → IsEnding xs w
ending_key k xs w e = subst (λ l. IsEnding l w) (sym e) (ending_of_end (from_key k w) w (ends_from_key k w))

-- ---- the next list
pub before_more : (n m : ℕ) (xss : List (List Record)) → m ≡ n + 1 → before m xss ≡ slice_index_or xss n []
before_more n m xss e = let more : m ≡ suc n = omega (arith, e) in ap (λ k. before k xss) more

pub next_left : (ys : List Record) (n m : ℕ) (xss : List (List Record)) → n < length xss → m ≡ n + 1 → ys ≡ slice_index_or xss n [] → ys ++ flat (drop m xss) ≡ flat (drop n xss)
next_left ys n m xss lt more is = (λ i. is i ++ flat (drop (more i) xss)) ∙ ap flat (sym (drop_more xss n [] lt))

pub next_filled : (ys : List Record) (n m : ℕ) (xss : List (List Record)) → AllByRecursion (λ (xs : List Record). xs ≢ []) xss → n < length xss → ys ≡ slice_index_or xss n [] → ys ≡ [] → length xss ≤ m
next_filled ys n m xss f lt is none = absurd (filled_here xss f n lt (sym is ∙ none))

-- ---- a seek
-- without lists nothing is left
nothing_in : (xs : List Record) → IsEnd xs [] → xs ≡ []
nothing_in [] e = refl
nothing_in (x ∷ xs) e = absurd (go e.passed e.whole)
  where
    go : (ps : List Record) → ps ++ x ∷ xs ≡ [] → ⊥
    go [] w = true≢false (ap (λ l. is_some (first_of l)) w)
    go (p ∷ ps) w = true≢false (ap (λ l. is_some (first_of l)) w)

before_none : (n : ℕ) → before n [] ≡ []
before_none zero = refl
before_none (suc n) = refl

pub none_left : {S : Type 0} (rest whole : S → List Record) → ((s : S) → IsEnd (rest s) (whole s)) → (current : Option S) (n : ℕ) (xss : List (List Record)) → length xss ≡ 0 → of_current whole current ≡ before n xss → (k : Key) → left_in rest current n xss ≡ from_key k (flat xss)
none_left rest whole ends None zero [] e over k = refl
none_left rest whole ends None (suc n) [] e over k = refl
none_left rest whole ends (Some s) n [] e over k =
    let none : rest s ≡ [] = nothing_in (rest s) (subst (IsEnd (rest s)) (over ∙ before_none n) (ends s)) in
    ap (λ l. l ++ flat (drop n [])) none ∙ drop_none n [] (omega arith)
none_left rest whole ends current n (xs ∷ xss) e over k = absurd (omega (arith, e))

pub sought_left : {S : Type 0} (rest whole : S → List Record) (a b : Option S) (n at : ℕ) (xss : List (List Record)) (k : Key) → at < length xss → n ≡ at + 1 → ((i : ℕ) → i < at → reaches k (slice_index_or xss i []) ≡ false) → (at + 1 < length xss → reaches k (slice_index_or xss at []) ≡ true) → of_current whole a ≡ before n xss → of_current rest b ≡ from_key k (of_current whole a) → left_in rest b n xss ≡ from_key k (flat xss)
sought_left rest whole a b n at xss k lt next passed found over is =
    (λ i. is i ++ flat (drop (next i) xss))
    ∙ ap (λ l. from_key k l ++ flat (drop (at + 1) xss)) (over ∙ before_more at n xss next)
    ∙ sought k xss at lt passed found

pub sought_ended : {S : Type 0} (rest whole : S → List Record) (a b : Option S) (n at : ℕ) (xss : List (List Record)) (k : Key) → n ≡ at + 1 → (at + 1 < length xss → reaches k (slice_index_or xss at []) ≡ true) → of_current whole a ≡ before n xss → of_current rest b ≡ from_key k (of_current whole a) → of_current rest b ≡ [] → length xss ≤ n
sought_ended rest whole a b n at xss k next found over is none = go (at_end (at + 1) (length xss))
  where
    at_end : (m l : ℕ) → (m < l) ⊎ (l ≤ m)
    at_end m zero = inr (omega arith)
    at_end zero (suc l) = inl (omega arith)
    at_end (suc m) (suc l) = up (at_end m l)
      where
        up : (m < l) ⊎ (l ≤ m) → (suc m < suc l) ⊎ (suc l ≤ suc m)
        up (inl a) = inl (omega arith)
        up (inr b) = inr (omega arith)

    go : (at + 1 < length xss) ⊎ (length xss ≤ at + 1) → length xss ≤ n
    go (inl lt) = absurd (reached_some k (slice_index_or xss at []) (found lt) (sym (is ∙ ap (from_key k) (over ∙ before_more at n xss next)) ∙ none))
    go (inr le) = omega (arith, le, next)
