-- The words of a text are exactly what stands between its spaces.
use Rattle.std.proofs.Common.{ℕ, zero, suc, ◌≡◌, ◌≢◌, ◌+◌, ◌<◌, ◌==◌, Bool, true, false, cond, not, List, [], ◌∷◌, ◌++◌, length, take, drop, replicate, refl, sym, ap, ◌∙◌, subst, arith, inl, inr, append-nil}
use Rattle.std.specs.Prelude.{◌⊎◌, ◌&&◌, filter}
use Rattle.std.specs.List.{list_all, prefix_len, onto_first}
use Rattle.std.proofs.lemmas.List.{take-append-drop}
use Rattle.std.proofs.lemmas.Bool.Decides.{nat_tests}
use Rattle.tab_lines.specs.Words.{words_of, parts_at, is_filled}
use Rattle.tab_lines.specs.Forms.{IsPlainWord, AreWords}
use Rattle.tab_lines.proofs.Cutting.{words_skip, words_cut, skipped}

abbrev Words : Type 0
Words = List (List ℕ)

abbrev is_space : ℕ → Bool
is_space b = b == 32

abbrev is_other : ℕ → Bool
is_other b = not (b == 32)

-- ---- from the relation

-- spaces in front go
spaces_go : (n : ℕ) (text : List ℕ) → words_of (replicate n 32 ++ text) ≡ words_of text
unfolding words_of
spaces_go zero text = refl
spaces_go (suc n) text = spaces_go n text

no_spaces : words_of [] ≡ []
unfolding words_of
no_spaces = refl

spaces_alone : (n : ℕ) → words_of (replicate n 32) ≡ []
spaces_alone n = ap (λ (t : List ℕ). words_of t) (sym (append-nil (replicate n 32))) ∙ spaces_go n [] ∙ no_spaces

part_front : (word rest : List ℕ) → list_all is_other word ≡ true → parts_at 32 (word ++ 32 ∷ rest) ≡ word ∷ parts_at 32 rest
part_front [] rest all = refl
part_front (x ∷ xs) rest all =
    elim (x == 32) as (λ b. (not b && list_all is_other xs) ≡ true → cond b ([] ∷ parts_at 32 (xs ++ 32 ∷ rest)) (onto_first x (parts_at 32 (xs ++ 32 ∷ rest))) ≡ (x ∷ xs) ∷ parts_at 32 rest) [
      | true ↦ λ e. absurd cc
      | false ↦ λ e. ap (λ (ps : Words). onto_first x ps) (part_front xs rest e)
    ] all

part_all : (word : List ℕ) → list_all is_other word ≡ true → parts_at 32 word ≡ word ∷ []
part_all [] all = refl
part_all (x ∷ xs) all =
    elim (x == 32) as (λ b. (not b && list_all is_other xs) ≡ true → cond b ([] ∷ parts_at 32 xs) (onto_first x (parts_at 32 xs)) ≡ (x ∷ xs) ∷ []) [
      | true ↦ λ e. absurd cc
      | false ↦ λ e. ap (λ (ps : Words). onto_first x ps) (part_all xs e)
    ] all

-- a word, a space and more
word_more : (word rest : List ℕ) → IsPlainWord word → words_of (word ++ 32 ∷ rest) ≡ word ∷ words_of rest
unfolding words_of
word_more [] rest plain = absurd (plain.0 refl)
word_more (x ∷ xs) rest plain = ap (λ (ps : Words). filter is_filled ps) (part_front (x ∷ xs) rest plain.1)

word_alone : (word : List ℕ) → IsPlainWord word → words_of word ≡ word ∷ []
unfolding words_of
word_alone [] plain = absurd (plain.0 refl)
word_alone (x ∷ xs) plain = ap (λ (ps : Words). filter is_filled ps) (part_all (x ∷ xs) plain.1)

-- a word, and spaces
word_last : (word : List ℕ) (n : ℕ) → IsPlainWord word → words_of (word ++ replicate n 32) ≡ word ∷ []
word_last word zero plain = ap (λ (t : List ℕ). words_of t) (append-nil word) ∙ word_alone word plain
word_last word (suc n) plain = word_more word (replicate n 32) plain ∙ ap (λ (ws : Words). word ∷ ws) (spaces_alone n)

pub words_complete : (words : Words) (text : List ℕ) → AreWords text words → words_of text ≡ words
words_complete [] text (before, e) = ap (λ (t : List ℕ). words_of t) e ∙ spaces_alone before
words_complete (word ∷ []) text (before, behind, e, plain) =
    ap (λ (t : List ℕ). words_of t) e ∙ spaces_go before (word ++ replicate behind 32) ∙ word_last word behind plain
words_complete (word ∷ next ∷ words) text (before, rest, e, plain, more) =
    ap (λ (t : List ℕ). words_of t) e ∙ spaces_go before (word ++ 32 ∷ rest) ∙ word_more word rest plain ∙ ap (λ (ws : Words). word ∷ ws) (words_complete (next ∷ words) rest more)

-- ---- to the relation

-- a text is its first spaces and the rest
spaces_front : (text : List ℕ) → text ≡ replicate (prefix_len is_space text) 32 ++ drop (prefix_len is_space text) text
spaces_front [] = refl
spaces_front (x ∷ xs) =
    let n : ℕ = prefix_len is_space xs in
    let more : 1 + n ≡ suc n = omega arith in
    elim (x == 32) as (λ b. (x == 32) ≡ b → x ∷ xs ≡ replicate (cond b (1 + n) 0) 32 ++ drop (cond b (1 + n) 0) (x ∷ xs)) [
      | true ↦ λ is. let space : x ≡ 32 = grind (arith, nat_tests) in rw more (ap (λ (c : ℕ). c ∷ xs) space ∙ ap (λ (t : List ℕ). 32 ∷ t) (spaces_front xs))
      | false ↦ λ is. refl
    ] refl

-- the front of a word has no space
front_other : (text : List ℕ) → list_all is_other (take (prefix_len is_other text) text) ≡ true
front_other [] = refl
front_other (x ∷ xs) =
    let n : ℕ = prefix_len is_other xs in
    let more : 1 + n ≡ suc n = omega arith in
    elim (is_other x) as (λ b. is_other x ≡ b → list_all is_other (take (cond b (1 + n) 0) (x ∷ xs)) ≡ true) [
      | true ↦ λ is. rw more (ap (λ b. b && list_all is_other (take n xs)) is ∙ front_other xs)
      | false ↦ λ is. refl
    ] refl

-- behind it the text ends, or a space stands there
behind_front : (text : List ℕ) → let tail = drop (prefix_len is_other text) text in (tail ≡ []) ⊎ ((rest : List ℕ) × (tail ≡ 32 ∷ rest))
behind_front [] = inl refl
behind_front (x ∷ xs) =
    let n : ℕ = prefix_len is_other xs in
    let more : 1 + n ≡ suc n = omega arith in
    elim (x == 32) as (λ b. (x == 32) ≡ b → let tail = drop (cond (not b) (1 + n) 0) (x ∷ xs) in (tail ≡ []) ⊎ ((rest : List ℕ) × (tail ≡ 32 ∷ rest))) [
      | true ↦ λ is. let space : x ≡ 32 = grind (arith, nat_tests) in inr (xs, ap (λ (c : ℕ). c ∷ xs) space)
      | false ↦ λ is. rw more (behind_front xs)
    ] refl

-- a text with a word: spaces, the word, and what stands behind it
pub record FirstWord (text word : List ℕ) (words : Words) : Type 0 where
  pub before : ℕ
  pub tail : List ℕ
  pub split : text ≡ replicate before 32 ++ (word ++ tail)
  pub plain : IsPlainWord word
  pub behind : (tail ≡ []) ⊎ ((rest : List ℕ) × (tail ≡ 32 ∷ rest))
  pub more : words_of tail ≡ words

-- no space stands first, so a word does
word_first : (text : List ℕ) → 0 < length text → prefix_len is_space text ≡ 0 → take (prefix_len is_other text) text ≢ []
word_first [] some none = absurd (omega arith)
word_first (x ∷ xs) some none =
    elim (x == 32) as (λ b. cond b (1 + prefix_len is_space xs) 0 ≡ 0 → take (cond (not b) (1 + prefix_len is_other xs) 0) (x ∷ xs) ≢ []) [
      | true ↦ λ e. absurd (omega arith)
      | false ↦ λ e. let more : 1 + prefix_len is_other xs ≡ suc (prefix_len is_other xs) = omega arith in rw more (λ no. absurd cc)
    ] none

first_word : (text word : List ℕ) (words : Words) → words_of text ≡ word ∷ words → FirstWord text word words
first_word text word words is =
    let k : ℕ = prefix_len is_space text in
    let t : List ℕ = drop k text in
    let n : ℕ = prefix_len is_other t in
    let read : words_of t ≡ word ∷ words = words_skip text ∙ is in
    let some : 0 < length t = filled t read in
    let none : prefix_len is_space t ≡ 0 = skipped text in
    let cut : take n t ∷ words_of (drop n t) ≡ word ∷ words = sym (words_cut t some none) ∙ read in
    let same : take n t ≡ word = head_of (take n t) (words_of (drop n t)) word words cut in
    let rest : words_of (drop n t) ≡ words = tail_of (take n t) (words_of (drop n t)) word words cut in
    record {
      before = k;
      tail = drop n t;
      split = spaces_front text ∙ ap (λ (s : List ℕ). replicate k 32 ++ s) (sym (take-append-drop n t) ∙ ap (λ (w : List ℕ). w ++ drop n t) same);
      plain = subst (λ (w : List ℕ). IsPlainWord w) same (word_first t some none, front_other t);
      behind = behind_front t;
      more = rest;
    }
  where
    filled : (t : List ℕ) → words_of t ≡ word ∷ words → 0 < length t
    filled [] read = let no : [] ≡ word ∷ words = sym no_spaces ∙ read in absurd cc
    filled (x ∷ xs) read = omega arith

    head_of : (x : List ℕ) (xs : Words) (y : List ℕ) (ys : Words) → x ∷ xs ≡ y ∷ ys → x ≡ y
    head_of x xs y ys e = cc

    tail_of : (x : List ℕ) (xs : Words) (y : List ℕ) (ys : Words) → x ∷ xs ≡ y ∷ ys → xs ≡ ys
    tail_of x xs y ys e = cc

-- a text without words is spaces
none_sound : (text : List ℕ) → words_of text ≡ [] → AreWords text []
none_sound text is =
    let k : ℕ = prefix_len is_space text in
    (k, spaces_front text ∙ ap (λ (s : List ℕ). replicate k 32 ++ s) (gone (drop k text) (words_skip text ∙ is) (skipped text)) ∙ append-nil (replicate k 32))
  where
    gone : (t : List ℕ) → words_of t ≡ [] → prefix_len is_space t ≡ 0 → t ≡ []
    gone [] read none = refl
    gone (x ∷ xs) read none = let no : take (prefix_len is_other (x ∷ xs)) (x ∷ xs) ∷ words_of (drop (prefix_len is_other (x ∷ xs)) (x ∷ xs)) ≡ [] = sym (words_cut (x ∷ xs) (omega arith) none) ∙ read in absurd cc

-- a space in front changes no words
space_goes : (text : List ℕ) → words_of (32 ∷ text) ≡ words_of text
space_goes text = spaces_go 1 text

pub words_sound : (words : Words) (text : List ℕ) → words_of text ≡ words → AreWords text words
words_sound [] text is = none_sound text is
words_sound (word ∷ []) text is =
    let h = first_word text word [] is in
    elim h.behind [
      | inl end ↦ (h.before, 0, h.split ∙ ap (λ (t : List ℕ). replicate h.before 32 ++ (word ++ t)) end, h.plain)
      | inr on ↦
          let spaces = none_sound on.0 (sym (space_goes on.0) ∙ ap (λ (t : List ℕ). words_of t) (sym on.1) ∙ h.more) in
          (h.before, suc spaces.0, h.split ∙ ap (λ (t : List ℕ). replicate h.before 32 ++ (word ++ t)) (on.1 ∙ ap (λ (t : List ℕ). 32 ∷ t) spaces.1), h.plain)
    ]
words_sound (word ∷ next ∷ words) text is =
    let h = first_word text word (next ∷ words) is in
    elim h.behind [
      | inl end ↦ let no : [] ≡ next ∷ words = sym no_spaces ∙ ap (λ (t : List ℕ). words_of t) (sym end) ∙ h.more in absurd cc
      | inr on ↦
          (h.before, on.0, h.split ∙ ap (λ (t : List ℕ). replicate h.before 32 ++ (word ++ t)) on.1, h.plain, words_sound (next ∷ words) on.0 (sym (space_goes on.0) ∙ ap (λ (t : List ℕ). words_of t) (sym on.1) ∙ h.more))
    ]
