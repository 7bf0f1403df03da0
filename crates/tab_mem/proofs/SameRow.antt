-- Rows of one length, of 16 bytes at most, that have one number are one row.
use Rattle.std.proofs.Common.{◌≡◌, ◌∙◌, ℕ, ◌≤◌, List, sym, ap, length, take, arith}
use Rattle.std.proofs.lemmas.List.{take_all}
use Rattle.tab_key.specs.RowPrefix.{padded, IsRowPrefix}
use Rattle.tab_key.specs.Words.{worth}
use Rattle.tab_key.proofs.BigEndian.{is_worth}
use Rattle.tab_key.proofs.WordLaws.{same_digits, length_padded, take_padded}

-- a short string is the front of itself with zeros behind
front : (xs : List ℕ) → length xs ≤ 16 → take (length xs) (padded 16 xs) ≡ xs
front xs few = take_padded (length xs) 16 xs few (omega arith) ∙ take_all (length xs) xs (omega arith)

pub same_row : (a b : List ℕ) (p q : ℕ) → IsRowPrefix p a → IsRowPrefix q b → p ≡ q → length a ≡ length b → length b ≤ 16 → a ≡ b
same_row a b p q m n e s few =
    let told : worth (padded 16 a) ≡ worth (padded 16 b) = sym (m.value ∙ is_worth (padded 16 a) (length_padded 16 a)) ∙ e ∙ n.value ∙ is_worth (padded 16 b) (length_padded 16 b) in
    let same : padded 16 a ≡ padded 16 b = same_digits (padded 16 a) (padded 16 b) (length_padded 16 a ∙ sym (length_padded 16 b)) m.bytes n.bytes told in
    sym (front a (omega (arith, s, few))) ∙ ap (take (length a)) same ∙ ap (λ (k : ℕ). take k (padded 16 b)) s ∙ front b few
