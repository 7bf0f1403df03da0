-- How a line is cut into words.
use Rattle.std.proofs.Common.{ℕ, suc, ◌≡◌, ◌+◌, ◌≤◌, ◌<◌, ◌==◌, Bool, true, false, cond, not, List, [], ◌∷◌, length, take, drop, refl, sym, ap, ◌∙◌, subst, arith, drop-cons}
use Rattle.std.specs.Prelude.{filter}
use Rattle.std.specs.List.{prefix_len, onto_first}
use Rattle.std.proofs.lemmas.List.{take_all, drop_all}
use Rattle.tab_lines.specs.Words.{words_of, parts_at, is_filled}

pub prefix_fits : {A : Type 0} (p : A → Bool) (xs : List A) → prefix_len p xs ≤ length xs
prefix_fits p [] = omega arith
prefix_fits p (x ∷ xs) = let h = prefix_fits p xs in elim (p x) as (λ b. cond b (1 + prefix_len p xs) 0 ≤ suc (length xs)) [ true ↦ omega arith | false ↦ omega arith ]

-- spaces in front go
pub words_skip : (text : List ℕ) → words_of (drop (prefix_len (λ b. b == 32) text) text) ≡ words_of text
unfolding words_of
words_skip [] = refl
words_skip (b ∷ bs) =
    let more : 1 + prefix_len (λ c. c == 32) bs ≡ suc (prefix_len (λ c. c == 32) bs) = omega arith in
    elim (b == 32) as
    (λ t. (b == 32) ≡ t → filter is_filled (parts_at 32 (drop (cond t (1 + prefix_len (λ c. c == 32) bs) 0) (b ∷ bs))) ≡ filter is_filled (cond t ([] ∷ parts_at 32 bs) (onto_first b (parts_at 32 bs)))) [
      | true ↦ λ is. rw more (words_skip bs)
      | false ↦ λ is. ap (λ t. filter is_filled (cond t ([] ∷ parts_at 32 bs) (onto_first b (parts_at 32 bs)))) is
    ] refl

-- what follows the first part
others : ℕ → List ℕ → List (List ℕ)
others c [] = []
others c (x ∷ xs) = parts_at c xs

first_part : (c : ℕ) (text : List ℕ) → let n = prefix_len (λ b. not (b == c)) text in parts_at c text ≡ take n text ∷ others c (drop n text)
unfolding others
first_part c [] = refl
first_part c (b ∷ bs) =
    let n = prefix_len (λ b. not (b == c)) bs in
    let more : 1 + n ≡ suc n = omega arith in
    elim (b == c) as
    (λ t. let m = cond (not t) (1 + n) 0 in cond t ([] ∷ parts_at c bs) (onto_first b (parts_at c bs)) ≡ take m (b ∷ bs) ∷ others c (drop m (b ∷ bs))) [
      | true ↦ refl
      | false ↦ rw more (ap (onto_first b) (first_part c bs))
    ]

-- all of it is one part
pub one_part : (c : ℕ) (text : List ℕ) → prefix_len (λ b. not (b == c)) text ≡ length text → parts_at c text ≡ text ∷ []
unfolding others
one_part c text all =
    let P : ℕ → Type 0 = λ n. parts_at c text ≡ take n text ∷ others c (drop n text) in
    let h : P (length text) = subst P all (first_part c text) in
    h ∙ ap (λ t. t ∷ others c (drop (length text) text)) (take_all (length text) text (omega arith)) ∙ ap (λ r. text ∷ others c r) (drop_all (length text) text (omega arith))

-- a part, and what stands behind the byte
pub more_parts : (c : ℕ) (text : List ℕ) (n : ℕ) → n ≡ prefix_len (λ b. not (b == c)) text → n < length text → parts_at c text ≡ take n text ∷ parts_at c (drop (n + 1) text)
unfolding others
more_parts c text n is lt =
    let P : ℕ → Type 0 = λ n. parts_at c text ≡ take n text ∷ others c (drop n text) in
    let h : P n = subst P (sym is) (first_part c text) in
    let one : n + 1 ≡ suc n = omega arith in
    h ∙ ap (λ r. take n text ∷ others c r) (drop-cons text n 0 lt) ∙ ap (λ m. take n text ∷ parts_at c (drop m text)) (sym one)

rest_words : (text : List ℕ) → let n = prefix_len (λ b. not (b == 32)) text in filter is_filled (others 32 (drop n text)) ≡ words_of (drop n text)
unfolding others words_of
rest_words [] = refl
rest_words (b ∷ bs) =
    let n = prefix_len (λ b. not (b == 32)) bs in
    let more : 1 + n ≡ suc n = omega arith in
    elim (b == 32) as
    (λ t. (b == 32) ≡ t → let m = cond (not t) (1 + n) 0 in filter is_filled (others 32 (drop m (b ∷ bs))) ≡ filter is_filled (parts_at 32 (drop m (b ∷ bs)))) [
      | true ↦ λ is. sym (ap (λ t. filter is_filled (cond t ([] ∷ parts_at 32 bs) (onto_first b (parts_at 32 bs)))) is)
      | false ↦ λ is. rw more (rest_words bs)
    ] refl

-- the first word, where no space stands in front
pub words_cut : (text : List ℕ) → 0 < length text → prefix_len (λ b. b == 32) text ≡ 0 → let n = prefix_len (λ b. not (b == 32)) text in words_of text ≡ take n text ∷ words_of (drop n text)
unfolding words_of
words_cut [] some none = absurd (omega arith)
words_cut (b ∷ bs) some none =
    let n = prefix_len (λ b. not (b == 32)) bs in
    let more : 1 + n ≡ suc n = omega arith in
    elim (b == 32) as
    (λ t. (b == 32) ≡ t → cond t (1 + prefix_len (λ b. b == 32) bs) 0 ≡ 0 → let m = cond (not t) (1 + n) 0 in filter is_filled (parts_at 32 (b ∷ bs)) ≡ take m (b ∷ bs) ∷ words_of (drop m (b ∷ bs))) [
      | true ↦ λ is no. absurd (omega arith)
      | false ↦ λ is no. rw more (ap (λ t. filter is_filled (cond t ([] ∷ parts_at 32 bs) (onto_first b (parts_at 32 bs)))) is ∙ ap (λ ps. filter is_filled (onto_first b ps)) (first_part 32 bs) ∙ ap (λ ws. (b ∷ take n bs) ∷ ws) (rest_words bs))
    ] refl none

-- no space stands in front of what is left
pub skipped : (text : List ℕ) → prefix_len (λ b. b == 32) (drop (prefix_len (λ b. b == 32) text) text) ≡ 0
skipped [] = refl
skipped (b ∷ bs) =
    let n = prefix_len (λ c. c == 32) bs in
    let more : 1 + n ≡ suc n = omega arith in
    elim (b == 32) as (λ t. (b == 32) ≡ t → prefix_len (λ c. c == 32) (drop (cond t (1 + n) 0) (b ∷ bs)) ≡ 0) [
      | true ↦ λ is. rw more (skipped bs)
      | false ↦ λ is. ap (λ t. cond t (1 + n) 0) is
    ] refl

pub no_words : (text : List ℕ) → length text ≡ 0 → words_of text ≡ []
unfolding words_of
no_words [] none = refl
no_words (b ∷ bs) none = absurd (omega arith)
