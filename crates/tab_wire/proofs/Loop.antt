-- Reading parts one after another, as a loop does.
use Rattle.std.proofs.Common.{◌≡◌, ℕ, suc, ◌-◌, ◌+◌, ◌≤◌, ◌<◌, List, [], ◌∷◌, ◌++◌, Option, Some, None, refl, sym, ap, ◌∙◌, append_assoc, arith}
use Rattle.std.proofs.lemmas.List.{append-nil}
use Rattle.tab_text.specs.declared.parse_error.ParseError.{ParseError}
use Rattle.tab_text.specs.declared.parse_error.ParseError.TheVariants as unread
use Rattle.tab_text.specs.Gives.{SaysNone}
use Rattle.tab_codec.specs.Reading.{◌>>=◌, Reader, parts_at}

module _ {A : Type 0} where
  -- what was read before, and what is still read
  abbrev pub with_front : List A → Option (List A × List ℕ) → Option (List A × List ℕ)
  with_front front read = read >>= λ x. Some (front ++ x.0, x.1)

  regroup : (front : List A) (n : A) (read : Option (List A × List ℕ)) → with_front front (read >>= λ x. Some (n ∷ x.0, x.1)) ≡ with_front (front ++ n ∷ []) read
  regroup front n (Some x) = ap (λ (ns : List A). Some (ns, x.1)) (sym (append_assoc front (n ∷ []) x.0))
  regroup front n None = refl

  pub goes_on : (reads : Reader A) (front : List A) (count i : ℕ) (bytes : List ℕ) (n : A) (after : List ℕ) (total : Option (List A × List ℕ)) → i < count → reads bytes ≡ Some (n, after)
      → with_front front (parts_at reads (count - i) bytes) ≡ total → with_front (front ++ n ∷ []) (parts_at reads (count - (i + 1)) after) ≡ total
  goes_on reads front count i bytes n after total lt h so_far =
      let k : count - i ≡ suc (count - (i + 1)) = omega arith in
      let one : with_front front (parts_at reads (count - i) bytes) ≡ with_front (front ++ n ∷ []) (parts_at reads (count - (i + 1)) after) =
      ap (λ (j : ℕ). with_front front (parts_at reads j bytes)) k ∙ ap (λ r. with_front front (r >>= λ x. parts_at reads (count - (i + 1)) x.1 >>= λ ys. Some (x.0 ∷ ys.0, ys.1))) h ∙ regroup front n (parts_at reads (count - (i + 1)) after) in
      sym one ∙ so_far

  pub ends : (reads : Reader A) (e : ParseError) (front : List A) (count i : ℕ) (bytes : List ℕ) (total : Option (List A × List ℕ)) → i < count → SaysNone e (reads bytes)
      → with_front front (parts_at reads (count - i) bytes) ≡ total → SaysNone e total
  ends reads unread.NoMemory front count i bytes total lt h so_far = tt
  ends reads unread.Malformed front count i bytes total lt h so_far =
      let k : count - i ≡ suc (count - (i + 1)) = omega arith in
      let one : with_front front (parts_at reads (count - i) bytes) ≡ None =
      ap (λ (j : ℕ). with_front front (parts_at reads j bytes)) k ∙ ap (λ r. with_front front (r >>= λ x. parts_at reads (count - (i + 1)) x.1 >>= λ ys. Some (x.0 ∷ ys.0, ys.1))) h in
      sym so_far ∙ one

  pub is_done : (reads : Reader A) (front : List A) (count i : ℕ) (bytes : List ℕ) (total : Option (List A × List ℕ)) → count ≤ i → with_front front (parts_at reads (count - i) bytes) ≡ total → total ≡ Some (front, bytes)
  is_done reads front count i bytes total le so_far =
      let k : count - i ≡ 0 = omega arith in
      let one : with_front front (parts_at reads (count - i) bytes) ≡ Some (front, bytes) = ap (λ (j : ℕ). with_front front (parts_at reads j bytes)) k ∙ ap (λ (ns : List A). Some (ns, bytes)) (append-nil front) in
      sym so_far ∙ one
