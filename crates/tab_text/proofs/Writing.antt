-- The word that is written, piece by piece.
use Rattle.std.proofs.Common.{◌≡◌, ℕ, suc, ◌+◌, ◌<◌, ◌==◌, true, false, cond, List, [], ◌∷◌, ◌++◌, length, get_or, take, drop, refl, sym, ap, ◌∙◌, subst, arith, append_assoc, append-nil, take-append-drop}
use Rattle.std.specs.List.{prefix_len}
use Rattle.std.proofs.Math.Seq.{take-add}
use Rattle.tab_io.specs.Writing.{HasPut, HasPutPart}
use Rattle.tab_io.specs.declared.writing.Output.{Ghosts}
use Rattle.tab_io.proofs.Putting.{put_more, put_part_more, part_longer}
use Rattle.tab_text.specs.Words.{is_plain, hex_form, escaped_byte, escaped, word, empty_word}

pub word_none : (bs : List ℕ) → length bs ≡ 0 → word bs ≡ empty_word
word_none [] none = refl
word_none (b ∷ bs) none = absurd (omega arith)

pub word_some : (bs : List ℕ) → 0 < length bs → word bs ≡ escaped bs
word_some [] some = absurd (omega arith)
word_some (b ∷ bs) some = refl

pub escaped-append : (a b : List ℕ) → escaped (a ++ b) ≡ escaped a ++ escaped b
escaped-append [] b = refl
escaped-append (x ∷ a) b = ap (λ t. escaped_byte x ++ t) (escaped-append a b) ∙ sym (append_assoc (escaped_byte x) (escaped a) (escaped b))

-- a run of plain bytes writes itself
pub plain_run : (bs : List ℕ) → escaped (take (prefix_len is_plain bs) bs) ≡ take (prefix_len is_plain bs) bs
plain_run [] = refl
plain_run (b ∷ bs) =
    let n : ℕ = prefix_len is_plain bs in
    let more : 1 + n ≡ suc n = omega arith in
    elim (is_plain b) as (λ t. is_plain b ≡ t → escaped (take (cond t (1 + n) 0) (b ∷ bs)) ≡ take (cond t (1 + n) 0) (b ∷ bs)) [
      | true ↦ λ is. rw more (ap (λ t. cond t (b ∷ []) (cond (b == 92) (92 ∷ 92 ∷ []) (hex_form b)) ++ escaped (take n bs)) is ∙ ap (λ t. b ∷ t) (plain_run bs))
      | false ↦ λ is. refl
    ] refl

pub plain_some : (bs : List ℕ) → 0 < length bs → is_plain (get_or bs 0 0) ≡ true → 0 < prefix_len is_plain bs
plain_some [] some is = absurd (omega arith)
plain_some (b ∷ bs) some is =
    let first : prefix_len is_plain (b ∷ bs) ≡ 1 + prefix_len is_plain bs = ap (λ t. cond t (1 + prefix_len is_plain bs) 0) is in
    omega (arith, first)

pub one_escaped : (bs : List ℕ) → 0 < length bs → escaped (take 1 bs) ≡ escaped_byte (get_or bs 0 0)
one_escaped [] some = absurd (omega arith)
one_escaped (b ∷ bs) some = append-nil (escaped_byte b)

-- the rest of the bytes, where some are written
rest_escaped : (bs rest : List ℕ) (done : ℕ) → rest ≡ drop done bs → escaped (take done bs) ++ escaped rest ≡ escaped bs
rest_escaped bs rest done is = ap (λ r. escaped (take done bs) ++ escaped r) is ∙ sym (escaped-append (take done bs) (drop done bs)) ∙ ap escaped (take-append-drop done bs)

-- ---- over an output
module _ {W : Type 0} {g : Ghosts W} where
  -- the first bytes were put, and then some of the rest
  pub escaped_more : {a b c : W} (bs rest : List ℕ) (done n : ℕ) → rest ≡ drop done bs → HasPut g a b (escaped (take done bs)) → HasPut g b c (escaped (take n rest)) → HasPut g a c (escaped (take (done + n) bs))
  escaped_more {a} {b} {c} bs rest done n is p q =
      let all : escaped (take done bs) ++ escaped (take n rest) ≡ escaped (take (done + n) bs) =
      ap (λ r. escaped (take done bs) ++ escaped (take n r)) is ∙ sym (escaped-append (take done bs) (take n (drop done bs))) ∙ ap escaped (sym (take-add done n bs)) in
      subst (λ t. HasPut g a c t) all (put_more p q)

  -- the first bytes were put, and a beginning of the rest
  pub escaped_part : {a b c : W} (bs rest : List ℕ) (done : ℕ) → rest ≡ drop done bs → HasPut g a b (escaped (take done bs)) → HasPutPart g b c (escaped rest) → HasPutPart g a c (escaped bs)
  escaped_part {a} {b} {c} bs rest done is p q = subst (λ t. HasPutPart g a c t) (rest_escaped bs rest done is) (put_part_more p q)

  -- a run of plain bytes was put
  pub plain_put : {a b : W} (bs run : List ℕ) (n : ℕ) → n ≡ prefix_len is_plain bs → run ≡ take n bs → HasPut g a b run → HasPut g a b (escaped (take n bs))
  plain_put {a} {b} bs run n is cut p =
      let same : run ≡ escaped (take n bs) = cut ∙ ap (λ k. take k bs) is ∙ sym (plain_run bs) ∙ ap (λ k. escaped (take k bs)) (sym is) in
      subst (λ t. HasPut g a b t) same p

  -- a beginning of such a run was put
  pub plain_part : {a b : W} (bs run : List ℕ) (n : ℕ) → n ≡ prefix_len is_plain bs → run ≡ take n bs → HasPutPart g a b run → HasPutPart g a b (escaped bs)
  plain_part {a} {b} bs run n is cut p =
      let m : ℕ = prefix_len is_plain bs in
      let same : run ≡ escaped (take m bs) = cut ∙ ap (λ k. take k bs) is ∙ sym (plain_run bs) in
      subst (λ t. HasPutPart g a b t) (rest_escaped bs (drop m bs) m refl) (part_longer (escaped (drop m bs)) (subst (λ t. HasPutPart g a b t) same p))

  -- the first byte was put, escaped
  pub first_put : {a b : W} (bs : List ℕ) → 0 < length bs → HasPut g a b (escaped_byte (get_or bs 0 0)) → HasPut g a b (escaped (take 1 bs))
  first_put {a} {b} bs some p = subst (λ t. HasPut g a b t) (sym (one_escaped bs some)) p

  pub first_part : {a b : W} (bs : List ℕ) → 0 < length bs → HasPutPart g a b (escaped_byte (get_or bs 0 0)) → HasPutPart g a b (escaped bs)
  first_part {a} {b} [] some p = absurd (omega arith)
  first_part {a} {b} (x ∷ xs) some p = part_longer (escaped xs) p
