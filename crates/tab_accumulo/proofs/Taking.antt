-- What goes over is taken as it is.
use Rattle.std.proofs.Common.{◌≡◌, ℕ, ◌+◌, ◌/◌, ◌%◌, ◌<◌, ◌==◌, true, false, Bool, cond, List, [], ◌∷◌, ◌++◌, length, get_or, refl, sym, ap, ◌∙◌, subst, arith, Some, None, map}
use Rattle.std.specs.Prelude.{not, ◌&&◌, nat_lt, nat_le, reverse}
use Rattle.std.specs.List.{All, flat_map, list_all, list_any, slice_split}
use Rattle.std.specs.Option.{option_map}
use Rattle.std.proofs.lemmas.List.{append-nil, get_or-reverse, reverse-reverse}
use Rattle.std.proofs.lemmas.List.Splits.{slice_split_none, slice_split_at}
use Rattle.std.proofs.lemmas.List.Sums.{AllPass-from_list_all}
use Rattle.std.proofs.lemmas.Bool.Decides.{nat_tests}
use Rattle.tab_accumulo.proofs.Tests.{both}
use Rattle.tab_accumulo.specs.Carried.{first, last, is_option_word, is_term_word}
use Rattle.tab_accumulo.specs.Shell.{inner, unquoted, option_word, utf8, cut, trimmed, between_commas, LabelsAreTaken, TermsAreTaken}

not_true : (x : Bool) → not x ≡ true → x ≡ false
not_true true is = absurd cc
not_true false is = refl

-- bytes below 128 stay in UTF-8
stays : (w : List ℕ) → list_all (λ b. nat_lt b 128) w ≡ true → utf8 w ≡ w
stays [] all = refl
stays (b ∷ bs) all =
    let each = both (nat_lt b 128) (list_all (λ c. nat_lt c 128) bs) all in
    ap (λ (x : Bool). cond x (b ∷ []) ((192 + b / 64) ∷ (128 + b % 64) ∷ []) ++ utf8 bs) each.0 ∙ ap (λ t. b ∷ t) (stays bs each.1)

-- no quote is taken off what begins with none
not_unquoted : (w : List ℕ) → (first w == 34) ≡ false → unquoted w ≡ w
not_unquoted w is =
    let rest : Bool = last w == 34 && not (list_any (λ b. b == 34) (inner w)) in
    ap (λ (x : Bool). cond (nat_lt 1 (length w) && (x && rest)) (inner w) w) is ∙ by_length (nat_lt 1 (length w))
  where
    by_length : (x : Bool) → cond (x && false) (inner w) w ≡ w
    by_length true = refl
    by_length false = refl

-- an option's word that is none
taken : (w : List ℕ) → (first w == 45) ≡ false → (first w == 34) ≡ false → option_word w ≡ Some w
taken w dash quote = ap (λ (x : Bool). cond x None (Some (unquoted w))) dash ∙ ap (λ u. Some u) (not_unquoted w quote)

-- what the test of an option's word says
option_parts : (w : List ℕ) → is_option_word w ≡ true → (list_all (λ b. nat_lt b 128) w ≡ true) × ((first w == 45) ≡ false) × ((first w == 34) ≡ false)
option_parts w is =
    let a = both (list_all (λ b. nat_lt b 128) w) (not (first w == 45) && (not (first w == 34) && not (last w == 34))) is in
    let b = both (not (first w == 45)) (not (first w == 34) && not (last w == 34)) a.1 in
    let c = both (not (first w == 34)) (not (last w == 34)) b.1 in
    (a.0, not_true (first w == 45) b.0, not_true (first w == 34) c.0)

pub labels_are_taken : LabelsAreTaken
labels_are_taken w is =
    let p = option_parts w is in
    ap (option_map utf8) (taken w p.1 p.2) ∙ ap (λ u. Some u) (stays w p.0)

-- ---- authorizations
-- what the test of one says
term_parts : (t : List ℕ) → is_term_word t ≡ true → (is_option_word t ≡ true) × (list_all (λ b. not (b == 44)) t ≡ true) × (32 < first t) × (32 < last t)
term_parts t is =
    let a = both (is_option_word t) (list_all (λ b. not (b == 44)) t && (nat_lt 32 (first t) && nat_lt 32 (last t))) is in
    let b = both (list_all (λ b. not (b == 44)) t) (nat_lt 32 (first t) && nat_lt 32 (last t)) a.1 in
    let c = both (nat_lt 32 (first t)) (nat_lt 32 (last t)) b.1 in
    (a.0, b.0, grind (arith, nat_tests, c.0), grind (arith, nat_tests, c.1))

not_cut : (t : List ℕ) → 32 < first t → cut t ≡ t
not_cut [] some = refl
not_cut (b ∷ bs) some = let is : nat_le b 32 ≡ false = grind (arith, nat_tests, some) in ap (λ (x : Bool). cond x (cut bs) (b ∷ bs)) is

first_of_reverse : (t : List ℕ) → 0 < length t → first (reverse t) ≡ last t
first_of_reverse t some = get_or-reverse t 0 0 some ∙ ap (λ n. get_or t n 0) (omega arith)

has_first : (t : List ℕ) → 32 < first t → 0 < length t
has_first [] some = absurd (omega (arith, some))
has_first (b ∷ bs) some = omega arith

not_trimmed : (t : List ℕ) → 32 < first t → 32 < last t → trimmed t ≡ t
not_trimmed t begins ends =
    let end : 32 < first (reverse t) = subst (λ n. 32 < n) (sym (first_of_reverse t (has_first t begins))) ends in
    ap (λ u. reverse (cut (reverse u))) (not_cut t begins) ∙ ap reverse (not_cut (reverse t) end) ∙ reverse-reverse t

term_stays : (t : List ℕ) → is_term_word t ≡ true → utf8 (trimmed t) ≡ t
term_stays t is =
    let p = term_parts t is in
    ap utf8 (not_trimmed t p.2 p.3) ∙ stays t (option_parts t p.0).0

terms_stay : (ts : List (List ℕ)) → list_all is_term_word ts ≡ true → map (λ t. utf8 (trimmed t)) ts ≡ ts
terms_stay [] all = refl
terms_stay (t ∷ ts) all =
    let each = both (is_term_word t) (list_all is_term_word ts) all in
    λ i. term_stays t each.0 i ∷ terms_stay ts each.1 i

-- no comma within
whole : (t : List ℕ) → list_all (λ b. not (b == 44)) t ≡ true → All (λ b. (b == 44) ≡ false) t
whole t all k d there = not_true (get_or t k d == 44) (AllPass-from_list_all (λ b. not (b == 44)) t all k d there)

separated : (x : List ℕ) (xs : List (List ℕ)) → list_all is_term_word (x ∷ xs) ≡ true → slice_split (λ b. b == 44) (between_commas x xs) ≡ x ∷ xs
separated x [] all =
    let p = term_parts x (both (is_term_word x) true all).0 in
    ap (slice_split (λ b. b == 44)) (append-nil x) ∙ slice_split_none (λ b. b == 44) x (whole x p.1)
separated x (y ∷ ys) all =
    let each = both (is_term_word x) (list_all is_term_word (y ∷ ys)) all in
    slice_split_at (λ b. b == 44) x 44 (between_commas y ys) (whole x (term_parts x each.0).1) refl ∙ ap (λ ts. x ∷ ts) (separated y ys each.1)

-- the first byte of all is that of the first one
first_of_all : (x rest : List ℕ) → 0 < length x → first (x ++ rest) ≡ first x
first_of_all [] rest some = absurd (omega (arith, some))
first_of_all (b ∷ bs) rest some = refl

pub terms_are_taken : TermsAreTaken
terms_are_taken x xs all =
    let p = term_parts x (both (is_term_word x) (list_all is_term_word xs) all).0 in
    let o = option_parts x p.0 in
    let text : List ℕ = between_commas x xs in
    let begins : first text ≡ first x = first_of_all x (flat_map (λ y. 44 ∷ y) xs) (has_first x p.2) in
    let as_option : option_word text ≡ Some text = taken text (ap (λ n. n == 45) begins ∙ o.1) (ap (λ n. n == 34) begins ∙ o.2) in
    ap (option_map (λ t. map (λ term. utf8 (trimmed term)) (slice_split (λ b. b == 44) t))) as_option
    ∙ ap (λ ts. Some (map (λ term. utf8 (trimmed term)) ts)) (separated x xs all) ∙ ap (λ ts. Some ts) (terms_stay (x ∷ xs) all)
