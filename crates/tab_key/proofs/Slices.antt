-- The pieces of a record's bytes, and where each of them lies.
use Rattle.std.proofs.Common.{◌≡◌, ℕ, ◌+◌, List, [], ◌∷◌, ◌++◌, refl, ◌∙◌, ap, length, arith, get_or, append_assoc, append-nil, length-append}
use Rattle.std.specs.List.{slice_range, slice_index}
use Rattle.std.proofs.Math.Seq.{get_or-append_seam}
use Rattle.tab_key.proofs.Packed.{part_of}

module _ (old a b c d e t : List ℕ) (k : ℕ) (s i parts body : List ℕ) (is : body ≡ old ++ ((((((a ++ b) ++ c) ++ d) ++ e) ++ (((t ++ k ∷ []) ++ s) ++ i)) ++ parts))
    (a4 : length a ≡ 4) (b4 : length b ≡ 4) (c4 : length c ≡ 4) (d4 : length d ≡ 4) (e4 : length e ≡ 4) (t8 : length t ≡ 8) (s8 : length s ≡ 8) (i4 : length i ≡ 4) where
  pub first_length : slice_range body (length old) (length old + 4) ≡ a
  first_length = part_of body old a (b ++ c ++ d ++ e ++ t ++ k ∷ s ++ i ++ parts) (length old) (length old + 4) (is ∙ simp append_assoc) refl (omega (arith, a4))

  pub second_length : slice_range body (length old + 4) (length old + 4 + 4) ≡ b
  second_length = part_of body (old ++ a) b (c ++ d ++ e ++ t ++ k ∷ s ++ i ++ parts) (length old + 4) (length old + 4 + 4) (is ∙ simp append_assoc) (simp length-append (omega (arith, a4))) (omega (arith, b4))

  pub third_length : slice_range body (length old + 8) (length old + 8 + 4) ≡ c
  third_length = part_of body (old ++ a ++ b) c (d ++ e ++ t ++ k ∷ s ++ i ++ parts) (length old + 8) (length old + 8 + 4) (is ∙ simp append_assoc) (simp length-append (omega (arith, a4, b4))) (omega (arith, c4))

  pub fourth_length : slice_range body (length old + 12) (length old + 12 + 4) ≡ d
  fourth_length = part_of body (old ++ a ++ b ++ c) d (e ++ t ++ k ∷ s ++ i ++ parts) (length old + 12) (length old + 12 + 4) (is ∙ simp append_assoc) (simp length-append (omega (arith, a4, b4, c4))) (omega (arith, d4))

  pub fifth_length : slice_range body (length old + 16) (length old + 16 + 4) ≡ e
  fifth_length = part_of body (old ++ a ++ b ++ c ++ d) e (t ++ k ∷ s ++ i ++ parts) (length old + 16) (length old + 16 + 4) (is ∙ simp append_assoc) (simp length-append (omega (arith, a4, b4, c4, d4))) (omega (arith, e4))

  pub time_there : slice_range body (length old + 20) (length old + 20 + 8) ≡ t
  time_there = part_of body (old ++ a ++ b ++ c ++ d ++ e) t (k ∷ s ++ i ++ parts) (length old + 20) (length old + 20 + 8) (is ∙ simp append_assoc) (simp length-append (omega (arith, a4, b4, c4, d4, e4))) (omega (arith, t8))

  pub kind_there : slice_index body (length old + 28) ≡ k
  kind_there =
      let front : length old + 28 ≡ length (old ++ a ++ b ++ c ++ d ++ e ++ t) = simp length-append (omega (arith, a4, b4, c4, d4, e4, t8)) in
      let whole : body ≡ (old ++ a ++ b ++ c ++ d ++ e ++ t) ++ k ∷ (s ++ i ++ parts) = is ∙ simp append_assoc in
      ap (λ xs. get_or xs (length old + 28) 0) whole ∙ ap (λ n. get_or ((old ++ a ++ b ++ c ++ d ++ e ++ t) ++ k ∷ (s ++ i ++ parts)) n 0) front ∙ get_or-append_seam (old ++ a ++ b ++ c ++ d ++ e ++ t) k (s ++ i ++ parts) 0

  pub seq_there : slice_range body (length old + 29) (length old + 29 + 8) ≡ s
  seq_there = part_of body (old ++ a ++ b ++ c ++ d ++ e ++ t ++ k ∷ []) s (i ++ parts) (length old + 29) (length old + 29 + 8) (is ∙ simp append_assoc) (simp length-append (omega (arith, a4, b4, c4, d4, e4, t8))) (omega (arith, s8))

  pub idx_there : slice_range body (length old + 37) (length old + 37 + 4) ≡ i
  idx_there = part_of body (old ++ a ++ b ++ c ++ d ++ e ++ t ++ k ∷ [] ++ s) i parts (length old + 37) (length old + 37 + 4) (is ∙ simp append_assoc) (simp length-append (omega (arith, a4, b4, c4, d4, e4, t8, s8))) (omega (arith, i4))

  pub head_long : length (old ++ (((((a ++ b) ++ c) ++ d) ++ e) ++ (((t ++ k ∷ []) ++ s) ++ i))) ≡ length old + 41
  head_long = simp length-append (omega (arith, a4, b4, c4, d4, e4, t8, s8, i4))
