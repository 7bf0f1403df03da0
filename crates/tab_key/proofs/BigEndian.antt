-- Sixteen bytes as one number: the less number has the less bytes.
use Rattle.std.proofs.Common.{◌≡◌, ℕ, ◌+◌, ◌*◌, ◌^◌, ◌<◌, ◌≤◌, List, [], ◌∷◌, refl, sym, ◌∙◌, subst, length, arith, mul-le-mul_right}
use Rattle.std.specs.List.{AllByRecursion}
use Rattle.std.specs.Int.{from_be_bytes, w128}
use Rattle.std.specs.Ordering.{nat_cmp, ordering_then}
use Rattle.std.specs.declared.cmp.Ordering.{Ordering}
use Rattle.std.specs.declared.cmp.Ordering.TheVariants.{Less, Equal, Greater}
use Rattle.std.proofs.lemmas.Bool.Decides.{nat_tests}
use Rattle.std.proofs.lemmas.Nat.{mul-add-lt}
use Rattle.std.proofs.Math.Nat.{pow-suc}
use Rattle.tab_key.specs.Bytes.{bytes_cmp}
use Rattle.tab_key.specs.Words.{worth}

pub worth_bound : (xs : List ℕ) → AllByRecursion (λ x. x < 256) xs → worth xs < 256 ^ length xs
worth_bound [] a = omega arith
worth_bound (x ∷ xs) a = rw (pow-suc 256 (length xs)) (mul-add-lt x (256 ^ length xs) (worth xs) 256 a.0 (worth_bound xs a.1))

equal_from : (x y : ℕ) → nat_cmp x y ≡ Equal → x ≡ y
equal_from x y e = grind (arith, nat_tests)

greater_from : (x y : ℕ) → nat_cmp x y ≡ Greater → y < x
greater_from x y e = grind (arith, nat_tests)

too_great : (x y p r s : ℕ) → y < x → s < p → x * p + r < y * p + s → ⊥
too_great x y p r s g b l =
    let more : (y + 1) * p ≤ x * p = mul-le-mul_right p (omega (arith, g)) in
    absurd (omega (arith, more))

pub less_worth : (xs ys : List ℕ) → length xs ≡ length ys → AllByRecursion (λ y. y < 256) ys → worth xs < worth ys → bytes_cmp xs ys ≡ Less
less_worth [] [] e b l = absurd (omega (arith, l))
less_worth [] (y ∷ ys) e b l = refl
less_worth (x ∷ xs) [] e b l = absurd (omega (arith, e))
less_worth (x ∷ xs) (y ∷ ys) e b l = go (nat_cmp x y) refl (less_worth xs ys (omega (arith, e)) b.1)
  where
    same : length xs ≡ length ys
    same = omega (arith, e)

    over : x * 256 ^ length ys + worth xs < y * 256 ^ length ys + worth ys
    over = subst (λ (n : ℕ). x * 256 ^ n + worth xs < y * 256 ^ length ys + worth ys) same l

    go : (o : Ordering) → nat_cmp x y ≡ o → (worth xs < worth ys → bytes_cmp xs ys ≡ Less) → ordering_then o (bytes_cmp xs ys) ≡ Less
    go Less t ih = refl
    go Equal t ih = ih (let rest : y * 256 ^ length ys + worth xs < y * 256 ^ length ys + worth ys = subst (λ (n : ℕ). n * 256 ^ length ys + worth xs < y * 256 ^ length ys + worth ys) (equal_from x y t) over in omega (arith, rest))
    go Greater t ih = absurd (too_great x y (256 ^ length ys) (worth xs) (worth ys) (greater_from x y t) (worth_bound ys b.1) over)

pub worth_of_sixteen : (a b c d e f g h i j k l m n o p : ℕ) → from_be_bytes w128 (a ∷ b ∷ c ∷ d ∷ e ∷ f ∷ g ∷ h ∷ i ∷ j ∷ k ∷ l ∷ m ∷ n ∷ o ∷ p ∷ []) ≡ worth (a ∷ b ∷ c ∷ d ∷ e ∷ f ∷ g ∷ h ∷ i ∷ j ∷ k ∷ l ∷ m ∷ n ∷ o ∷ p ∷ [])
worth_of_sixteen a b c d e f g h i j k l m n o p = omega arith

pub is_worth : (xs : List ℕ) → length xs ≡ 16 → from_be_bytes w128 xs ≡ worth xs
is_worth ([]) s = absurd (omega (arith, s))
is_worth (a ∷ []) s = absurd (omega (arith, s))
is_worth (a ∷ b ∷ []) s = absurd (omega (arith, s))
is_worth (a ∷ b ∷ c ∷ []) s = absurd (omega (arith, s))
is_worth (a ∷ b ∷ c ∷ d ∷ []) s = absurd (omega (arith, s))
is_worth (a ∷ b ∷ c ∷ d ∷ e ∷ []) s = absurd (omega (arith, s))
is_worth (a ∷ b ∷ c ∷ d ∷ e ∷ f ∷ []) s = absurd (omega (arith, s))
is_worth (a ∷ b ∷ c ∷ d ∷ e ∷ f ∷ g ∷ []) s = absurd (omega (arith, s))
is_worth (a ∷ b ∷ c ∷ d ∷ e ∷ f ∷ g ∷ h ∷ []) s = absurd (omega (arith, s))
is_worth (a ∷ b ∷ c ∷ d ∷ e ∷ f ∷ g ∷ h ∷ i ∷ []) s = absurd (omega (arith, s))
is_worth (a ∷ b ∷ c ∷ d ∷ e ∷ f ∷ g ∷ h ∷ i ∷ j ∷ []) s = absurd (omega (arith, s))
is_worth (a ∷ b ∷ c ∷ d ∷ e ∷ f ∷ g ∷ h ∷ i ∷ j ∷ k ∷ []) s = absurd (omega (arith, s))
is_worth (a ∷ b ∷ c ∷ d ∷ e ∷ f ∷ g ∷ h ∷ i ∷ j ∷ k ∷ l ∷ []) s = absurd (omega (arith, s))
is_worth (a ∷ b ∷ c ∷ d ∷ e ∷ f ∷ g ∷ h ∷ i ∷ j ∷ k ∷ l ∷ m ∷ []) s = absurd (omega (arith, s))
is_worth (a ∷ b ∷ c ∷ d ∷ e ∷ f ∷ g ∷ h ∷ i ∷ j ∷ k ∷ l ∷ m ∷ n ∷ []) s = absurd (omega (arith, s))
is_worth (a ∷ b ∷ c ∷ d ∷ e ∷ f ∷ g ∷ h ∷ i ∷ j ∷ k ∷ l ∷ m ∷ n ∷ o ∷ []) s = absurd (omega (arith, s))
is_worth (a ∷ b ∷ c ∷ d ∷ e ∷ f ∷ g ∷ h ∷ i ∷ j ∷ k ∷ l ∷ m ∷ n ∷ o ∷ p ∷ []) s = worth_of_sixteen a b c d e f g h i j k l m n o p
is_worth (a ∷ b ∷ c ∷ d ∷ e ∷ f ∷ g ∷ h ∷ i ∷ j ∷ k ∷ l ∷ m ∷ n ∷ o ∷ p ∷ q ∷ qs) s = absurd (omega (arith, s))

-- of two lists of 16 bytes, the one that spells the less number is the less
pub less_sixteen : (xs ys : List ℕ) → length xs ≡ 16 → length ys ≡ 16 → AllByRecursion (λ y. y < 256) ys → from_be_bytes w128 xs < from_be_bytes w128 ys → bytes_cmp xs ys ≡ Less
less_sixteen xs ys m n b l = less_worth xs ys (m ∙ sym n) b (omega (arith, l, is_worth xs m, is_worth ys n))
