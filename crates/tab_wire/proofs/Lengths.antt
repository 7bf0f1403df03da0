-- Lengths as four bytes hold them.
use Rattle.std.proofs.Common.{◌≡◌, ℕ, suc, ◌+◌, ◌*◌, ◌%◌, ◌^◌, ◌<◌, List, [], ◌∷◌, ◌++◌, length, take, get_or, map, refl, sym, ap, ◌∙◌, arith, length-append, append-nil}
use Rattle.std.specs.Prelude.{Vec}
use Rattle.std.specs.List.{flat_map}
use Rattle.std.specs.declared.alloc.Global.{Global}
use Rattle.tab_label.specs.Sets.{byte_lists}
use Rattle.std.proofs.Math.Seq.{take-suc}
use Rattle.tab_io.proofs.Each.{flat_map-append}
use Rattle.tab_rules.specs.declared.violation.Violation.{Violation}
use Rattle.tab_wire.specs.Replies.{u32, field, violation_bytes}
use Rattle.tab_wire.specs.Values.{joined}

-- a sum goes by what is held of its parts
pub held_sum : (a b n m : ℕ) → a ≡ n % 2 ^ 32 → b ≡ m % 2 ^ 32 → (a + b) % 2 ^ 32 ≡ (n + m) % 2 ^ 32
held_sum a b n m p q = omega (arith, p, q)

-- the texts of those before, and that of the next one
each_one : {X : Type 0} (f : X → List ℕ) (xs : List X) (i : ℕ) (d : X) → i < length xs → flat_map f (take (i + 1) xs) ≡ flat_map f (take i xs) ++ f (get_or xs i d)
each_one f xs i d lt =
    let x = get_or xs i d in
    let more : i + 1 ≡ suc i = omega arith in
    ap (λ (n : ℕ). flat_map f (take n xs)) more ∙ ap (flat_map f) (take-suc xs i d lt) ∙ flat_map-append f (take i xs) (x ∷ []) ∙ ap (λ (t : List ℕ). flat_map f (take i xs) ++ t) (append-nil (f x))

-- values that were joined, and the next one
pub more_bytes : {X : Type 0} (f : X → List ℕ) (xs : List X) (i : ℕ) (d : X) (a b : ℕ) → i < length xs → a ≡ length (flat_map f (take i xs)) % 2 ^ 32 → b ≡ length (f (get_or xs i d)) % 2 ^ 32
    → (a + b) % 2 ^ 32 ≡ length (flat_map f (take (i + 1) xs)) % 2 ^ 32
more_bytes f xs i d a b lt p q =
    held_sum a b (length (flat_map f (take i xs))) (length (f (get_or xs i d))) p q
    ∙ ap (λ (n : ℕ). n % 2 ^ 32) (sym (ap (λ (t : List ℕ). length t) (each_one f xs i d lt) ∙ length-append (flat_map f (take i xs)) (f (get_or xs i d))))

-- joined is one after another
pub joined_each : {X : Type 0} (f : X → List ℕ) (xs : List X) → flat_map f xs ≡ joined (map f xs)
joined_each f [] = refl
joined_each f (x ∷ []) = append-nil (f x)
joined_each f (x ∷ y ∷ ys) = ap (λ t. f x ++ t) (joined_each f (y ∷ ys))

-- what is violated takes six bytes each
pub violations_length : (vs : List Violation) → length (flat_map violation_bytes vs) ≡ length vs * 6
unfolding u32
violations_length [] = refl
violations_length (v ∷ vs) = let e = violations_length vs in omega (arith, e)

-- ---- what is held of the length of a value
pub held_field : (text : List ℕ) → (length text % 2 ^ 32 + 4) % 2 ^ 32 ≡ length (field text) % 2 ^ 32
unfolding u32
held_field text = omega arith

pub held_counted : (n a : ℕ) (bytes : List ℕ) → a ≡ length bytes % 2 ^ 32 → (a + 4) % 2 ^ 32 ≡ length (u32 n ++ bytes) % 2 ^ 32
unfolding u32
held_counted n a bytes is = omega (arith, is)

pub held_violations : (vs : List Violation) → (length vs % 2 ^ 32 * 6 % 2 ^ 32 + 4) % 2 ^ 32 ≡ length (u32 (length vs) ++ flat_map violation_bytes vs) % 2 ^ 32
held_violations vs = held_counted (length vs) (length vs % 2 ^ 32 * 6 % 2 ^ 32) (flat_map violation_bytes vs) (omega (arith, violations_length vs))

-- ---- terms
pub terms_each : (terms : List (Vec ℕ Global)) → flat_map (λ t. field t.items) terms ≡ flat_map field (byte_lists terms)
terms_each [] = refl
terms_each (t ∷ ts) = ap (λ bytes. field t.items ++ bytes) (terms_each ts)

pub terms_count : (terms : List (Vec ℕ Global)) → length terms ≡ length (byte_lists terms)
terms_count [] = refl
terms_count (t ∷ ts) = ap suc (terms_count ts)
