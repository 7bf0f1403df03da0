-- How lines are taken from what is read.
use Rattle.std.proofs.Common.{ℕ, suc, ◌≡◌, ◌+◌, ◌<◌, ◌≤◌, ◌==◌, true, false, cond, not, List, [], ◌∷◌, ◌++◌, length, take, refl, sym, ap, ◌∙◌, subst, arith, append_assoc, Option, Some, None, inl, inr}
use Rattle.std.specs.List.{prefix_len, onto_first}
use Rattle.tab_lines.proofs.Cutting as cutting
use Rattle.std.specs.Prelude.{Result}
use Rattle.std.specs.Io.KnownBytes.{Consumes}
use Rattle.std.proofs.lemmas.Bool.{eqb-true}
use Rattle.std.proofs.lemmas.List.{append-nil}
use Rattle.tab_lines.specs.declared.line.Line.{Line}
use Rattle.tab_text.specs.declared.parse_error.ParseError.{ParseError}
use Rattle.tab_lines.specs.Words.{parts_at}
use Rattle.tab_shell.specs.declared.pending.Pending.{Pending}
use Rattle.tab_replies.specs.Texts.{lines_of, without_last_empty, EndsLine}
use Rattle.tab_shell.specs.Scripts.{is_inside, IsInside}
use Rattle.tab_shell.specs.Ahead.{Pends, Ahead, ReadsLine, TakesLine}
use Rattle.tab_shell.proofs.PendingLemmas.{inside_more}

pub prefix_fits : (xs : List ℕ) → prefix_len is_inside xs ≤ length xs
prefix_fits xs = cutting.prefix_fits is_inside xs

parts_cut : (l after : List ℕ) → IsInside l → parts_at 10 (l ++ 10 ∷ after) ≡ l ∷ parts_at 10 after
parts_cut [] after h = refl
parts_cut (x ∷ xs) after h =
    elim (x == 10) as (λ t. cond (not t) (1 + prefix_len is_inside xs) 0 ≡ suc (length xs) → cond t ([] ∷ parts_at 10 (xs ++ 10 ∷ after)) (onto_first x (parts_at 10 (xs ++ 10 ∷ after))) ≡ (x ∷ xs) ∷ parts_at 10 after) [
      | true ↦ λ h. absurd (omega (arith, h))
      | false ↦ λ h. let i : IsInside xs = omega (arith, h) in ap (onto_first x) (parts_cut xs after i)
    ] h

some_parts : (text : List ℕ) → (p : List ℕ) × (ps : List (List ℕ)) × (parts_at 10 text ≡ p ∷ ps)
some_parts [] = ([], [], refl)
some_parts (x ∷ xs) =
    let h = some_parts xs in
    elim (x == 10) as (λ t. (p : List ℕ) × (ps : List (List ℕ)) × (cond t ([] ∷ parts_at 10 xs) (onto_first x (parts_at 10 xs)) ≡ p ∷ ps)) [
      | true ↦ ([], parts_at 10 xs, refl)
      | false ↦ (x ∷ h.0, h.1, ap (onto_first x) h.2)
    ]

-- a line that ends
pub lines_cut : (l after : List ℕ) → IsInside l → lines_of (l ++ 10 ∷ after) ≡ l ∷ lines_of after
unfolding lines_of
lines_cut l after h =
    let s = some_parts after in
    ap without_last_empty (parts_cut l after h ∙ ap (λ (ps : List (List ℕ)). l ∷ ps) s.2) ∙ ap (λ (ps : List (List ℕ)). l ∷ without_last_empty ps) (sym s.2)

-- the last line, which doesn't
parts_last : (l : List ℕ) → IsInside l → parts_at 10 l ≡ l ∷ []
parts_last l h = cutting.one_part 10 l h

pub lines_last : (l : List ℕ) → IsInside l → 0 < length l → lines_of l ≡ l ∷ []
unfolding lines_of
lines_last [] h some = absurd (omega arith)
lines_last (x ∷ xs) h some = ap without_last_empty (parts_last (x ∷ xs) h)

pub lines_none : lines_of [] ≡ []
unfolding lines_of
lines_none = refl

-- ---- whole lines, and what stands behind them
parts_behind : (front after : List ℕ) → parts_at 10 (front ++ 10 ∷ after) ≡ parts_at 10 front ++ parts_at 10 after
parts_behind [] after = refl
parts_behind (x ∷ xs) after =
    let s = some_parts xs in
    let h : parts_at 10 (xs ++ 10 ∷ after) ≡ parts_at 10 xs ++ parts_at 10 after = parts_behind xs after in
    elim (x == 10) as
    (λ t. cond t ([] ∷ parts_at 10 (xs ++ 10 ∷ after)) (onto_first x (parts_at 10 (xs ++ 10 ∷ after))) ≡ cond t ([] ∷ parts_at 10 xs) (onto_first x (parts_at 10 xs)) ++ parts_at 10 after) [
      | true ↦ ap (λ (ps : List (List ℕ)). [] ∷ ps) h
      | false ↦ ap (onto_first x) (h ∙ ap (λ (ps : List (List ℕ)). ps ++ parts_at 10 after) s.2) ∙ ap (λ (ps : List (List ℕ)). onto_first x ps ++ parts_at 10 after) (sym s.2)
    ]

last_empty : (ps : List (List ℕ)) (q : List ℕ) (qs : List (List ℕ)) → without_last_empty (ps ++ q ∷ qs) ≡ ps ++ without_last_empty (q ∷ qs)
last_empty [] q qs = refl
last_empty (p ∷ []) q qs = refl
last_empty (p ∷ p2 ∷ ps) q qs = ap (λ (ls : List (List ℕ)). p ∷ ls) (last_empty (p2 ∷ ps) q qs)

lines_behind : (front after : List ℕ) → lines_of (front ++ 10 ∷ after) ≡ parts_at 10 front ++ lines_of after
unfolding lines_of
lines_behind front after =
    let s = some_parts after in
    ap without_last_empty (parts_behind front after ∙ ap (λ (ps : List (List ℕ)). parts_at 10 front ++ ps) s.2)
    ∙ last_empty (parts_at 10 front) s.0 s.1 ∙ ap (λ (ps : List (List ℕ)). parts_at 10 front ++ without_last_empty ps) (sym s.2)

pub lines_join : (whole after : List ℕ) → EndsLine whole → lines_of (whole ++ after) ≡ lines_of whole ++ lines_of after
lines_join whole after (inl none) =
    ap (λ (t : List ℕ). lines_of (t ++ after)) none ∙ ap (λ (ls : List (List ℕ)). ls ++ lines_of after) (sym lines_none) ∙ ap (λ (t : List ℕ). lines_of t ++ lines_of after) (sym none)
lines_join whole after (inr ends) =
    let front : List ℕ = ends.0 in
    let one : lines_of whole ≡ parts_at 10 front = ap lines_of ends.1 ∙ lines_behind front [] ∙ ap (λ (ls : List (List ℕ)). parts_at 10 front ++ ls) lines_none ∙ append-nil (parts_at 10 front) in
    ap (λ (t : List ℕ). lines_of (t ++ after)) ends.1 ∙ ap lines_of (append_assoc front (10 ∷ []) after) ∙ lines_behind front after ∙ ap (λ (ls : List (List ℕ)). ls ++ lines_of after) (sym one)

pub ends_both : (a b : List ℕ) → EndsLine a → EndsLine b → EndsLine (a ++ b)
ends_both a b ends (inl none) = subst EndsLine (sym (ap (λ (t : List ℕ). a ++ t) none ∙ append-nil a)) ends
ends_both a b ends (inr more) = inr (a ++ more.0, ap (λ (t : List ℕ). a ++ t) more.1 ∙ sym (append_assoc a more.0 (10 ∷ [])))

-- up to the first line feed
front_line : (front : List ℕ) → prefix_len is_inside front < length front → let n = prefix_len is_inside front in IsInside (take n front) × (take (suc n) front ≡ take n front ++ 10 ∷ [])
front_line [] lt = absurd (omega arith)
front_line (x ∷ xs) lt =
    let n : ℕ = prefix_len is_inside xs in
    let one : 1 + n ≡ suc n = omega arith in
    elim (x == 10) as
    (λ t. (x == 10) ≡ t → cond (not t) (1 + n) 0 < suc (length xs) → let m = cond (not t) (1 + n) 0 in IsInside (take m (x ∷ xs)) × (take (suc m) (x ∷ xs) ≡ take m (x ∷ xs) ++ 10 ∷ [])) [
      | true ↦ λ is lt. (refl, ap (λ (y : ℕ). y ∷ []) (eqb-true x 10 is))
      | false ↦ λ is lt.
          let small : n < length xs = omega (arith, lt) in
          let h = front_line xs small in
          let inside : IsInside (x ∷ take n xs) = ap (λ t. cond (not t) (1 + prefix_len is_inside (take n xs)) 0) is ∙ (omega (arith, h.0)) in
          rw one (inside, ap (λ (ys : List ℕ). x ∷ ys) h.1)
    ] refl lt

-- what stands in front of a line's end is of the line
pub inside_before : (front : List ℕ) (at : ℕ) → at ≡ prefix_len is_inside front → at < length front → IsInside (take at front)
inside_before front at is lt =
    let small : prefix_len is_inside front < length front = omega (arith, is, lt) in
    subst (λ n. IsInside (take n front)) (sym is) (front_line front small).0

pub takes_line : (r r' : Option (List ℕ)) (p p' : Pending) (said : Result Line ParseError) (front : List ℕ) (at : ℕ) → at ≡ prefix_len is_inside front → at < length front → Consumes r r' (take (at + 1) front)
    → ((gone : List ℕ) → Pends p gone → ReadsLine said (gone ++ take at front)) → Pends p' [] → TakesLine r p said r' p'
takes_line None r' p p' said front at is lt eats says none = λ (todo : List ℕ) (ahead : Ahead None p todo). absurd ahead
takes_line (Some rest) None p p' said front at is lt eats says none = absurd eats
takes_line (Some rest) (Some after) p p' said front at is lt eats says none = λ (todo : List ℕ) (ahead : Ahead (Some rest) p todo).
    let gone : List ℕ = ahead.0 in
    let P : ℕ → Type 0 = λ n. IsInside (take n front) × (take (suc n) front ≡ take n front ++ 10 ∷ []) in
    let small : prefix_len is_inside front < length front = omega (arith, is) in
    let h : P at = subst P (sym is) (front_line front small) in
    let one : at + 1 ≡ suc at = omega arith in
    let line : List ℕ = gone ++ take at front in
    let whole : todo ≡ line ++ 10 ∷ after =
    ahead.2 ∙ ap (λ x. gone ++ x) (eats ∙ ap (λ n. take n front ++ after) one ∙ ap (λ x. x ++ after) h.1 ∙ append_assoc (take at front) (10 ∷ []) after) ∙ sym (append_assoc gone (take at front) (10 ∷ after)) in (
      line,
      after,
      says gone ahead.1,
      inside_more gone (take at front) ahead.1.inside h.0,
      whole,
      (refl, none),
    )
