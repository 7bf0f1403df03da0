-- Columns in one piece.
use Rattle.std.proofs.Common.{◌≡◌, ◌≢◌, ℕ, ◌+◌, ◌-◌, ◌≤◌, List, [], ◌∷◌, ◌++◌, Bool, true, false, refl, ◌∙◌, ap, length, take, drop, arith}
use Rattle.std.specs.Prelude.{bytes_eq, ◌&&◌, nat_eq}
use Rattle.std.specs.List.{slice_range}
use Rattle.std.specs.Cmp.Lexicographic.{bytes_decides}
use Rattle.std.proofs.lemmas.List.{length-take-le, length-drop, length-append}
use Rattle.std.proofs.lemmas.List.Folds.{drop_split}
use Rattle.std.proofs.Math.Seq.{take-append-add}
use Rattle.tab_key.specs.Kept.{same_column}
use Rattle.tab_key.specs.Records.{Key}

split_part : {X : Type 0} (xs : List X) (a m b : ℕ) → a ≤ m → m ≤ b → b ≤ length xs → slice_range xs a b ≡ slice_range xs a m ++ slice_range xs m b
split_part xs a m b p q r =
    let front = slice_range xs a m in
    let size : length front ≡ m - a = length-take-le (m - a) (drop a xs) (omega (arith, length-drop a xs)) in
    let amount : b - a ≡ length front + (b - m) = omega (arith, size) in
    ap (take (b - a)) (drop_split xs a m p) ∙ ap (λ n. take n (front ++ drop m xs)) amount ∙ take-append-add front (drop m xs) (b - m)

pub three_parts : (xs : List ℕ) (s a b c : ℕ) → s ≤ a → a ≤ b → b ≤ c → c ≤ length xs → slice_range xs s c ≡ slice_range xs s a ++ slice_range xs a b ++ slice_range xs b c
three_parts xs s a b c p q r u =
    split_part xs s b c (omega arith) r u ∙ ap (λ z. z ++ slice_range xs b c) (split_part xs s a b p q (omega arith))

pub four_parts : (xs : List ℕ) (s a b c e : ℕ) → s ≤ a → a ≤ b → b ≤ c → c ≤ e → e ≤ length xs → slice_range xs s e ≡ slice_range xs s a ++ slice_range xs a b ++ slice_range xs b c ++ slice_range xs c e
four_parts xs s a b c e p q r t u =
    split_part xs s c e (omega arith) t u ∙ ap (λ z. z ++ slice_range xs c e) (split_part xs s b c (omega arith) r (omega arith) ∙ ap (λ z. z ++ slice_range xs b c) (split_part xs s a b p q (omega arith)))

pub five_parts : (xs : List ℕ) (s a b c e z : ℕ) → s ≤ a → a ≤ b → b ≤ c → c ≤ e → e ≤ z → z ≤ length xs → slice_range xs s z ≡ slice_range xs s a ++ slice_range xs a b ++ slice_range xs b c ++ slice_range xs c e ++ slice_range xs e z
five_parts xs s a b c e z p q r t u w =
    split_part xs s e z (omega arith) u w ∙ ap (λ y. y ++ slice_range xs e z) (four_parts xs s a b c e p q r t (omega arith))

bytes_append : (a b c d : List ℕ) → length a ≡ length b → bytes_eq (a ++ c) (b ++ d) ≡ (bytes_eq a b && bytes_eq c d)
bytes_append [] [] c d e = refl
bytes_append [] (y ∷ b) c d e = absurd (omega (arith, e))
bytes_append (x ∷ a) [] c d e = absurd (omega (arith, e))
bytes_append (x ∷ a) (y ∷ b) c d e = go (nat_eq x y) (bytes_append a b c d (omega (arith, e)))
  where
    go : (v : Bool) → bytes_eq (a ++ c) (b ++ d) ≡ (bytes_eq a b && bytes_eq c d) → (v && bytes_eq (a ++ c) (b ++ d)) ≡ ((v && bytes_eq a b) && bytes_eq c d)
    go true ih = ih
    go false ih = refl

unequal : (a b : List ℕ) → length a ≢ length b → bytes_eq a b ≡ false
unequal a b n = go (bytes_eq a b) refl
  where
    go : (v : Bool) → bytes_eq a b ≡ v → v ≡ false
    go true e = absurd (n (ap length ((bytes_decides a b).0 e)))
    go false e = refl

pub and_false : (v : Bool) → (v && false) ≡ false
and_false true = refl
and_false false = refl

pub same_pieces : (a b : Key) → length a.row ≡ length b.row → length a.family ≡ length b.family → length a.qualifier ≡ length b.qualifier → bytes_eq (a.row ++ a.family ++ a.qualifier ++ a.label) (b.row ++ b.family ++ b.qualifier ++ b.label) ≡ same_column a b
unfolding same_column
same_pieces a b row family qualifier =
    let two : length (a.row ++ a.family) ≡ length (b.row ++ b.family) = omega (arith, length-append a.row a.family, length-append b.row b.family) in
    let three : length (a.row ++ a.family ++ a.qualifier) ≡ length (b.row ++ b.family ++ b.qualifier) = omega (arith, length-append (a.row ++ a.family) a.qualifier, length-append (b.row ++ b.family) b.qualifier, two) in
    bytes_append (a.row ++ a.family ++ a.qualifier) (b.row ++ b.family ++ b.qualifier) a.label b.label three
    ∙ ap (λ v. v && bytes_eq a.label b.label) (bytes_append (a.row ++ a.family) (b.row ++ b.family) a.qualifier b.qualifier two
    ∙ ap (λ v. v && bytes_eq a.qualifier b.qualifier) (bytes_append a.row b.row a.family b.family row))

pub other_rows : (a b : Key) → length a.row ≢ length b.row → same_column a b ≡ false
unfolding same_column
other_rows a b n = rw (unequal a.row b.row n)

pub other_families : (a b : Key) → length a.family ≢ length b.family → same_column a b ≡ false
unfolding same_column
other_families a b n = rw (unequal a.family b.family n, and_false)

pub other_qualifiers : (a b : Key) → length a.qualifier ≢ length b.qualifier → same_column a b ≡ false
unfolding same_column
other_qualifiers a b n = rw (unequal a.qualifier b.qualifier n, and_false)
