-- Where an entry lies in blocks.
use Rattle.std.proofs.Common.{◌≡◌, ℕ, zero, suc, ◌+◌, ◌*◌, ◌/◌, ◌%◌, ◌<◌, ◌≤◌, List, [], ◌∷◌, ◌++◌, length, length-append, slice_get, Vec, refl, sym, ap, ◌∙◌, arith}
use Rattle.std.specs.Prelude.{flat_map}
use Rattle.std.specs.declared.alloc.Global.{Global}
use Rattle.std.specs.List.{AllByRecursion}
use Rattle.std.proofs.Math.Nat.{div-add-mod}
use Rattle.tab_book.specs.Entries.{Posted}
use Rattle.tab_book.specs.Blocks.{in_order, block_at, IsInBlocks}

abbrev AreFull : List (Vec Posted Global) → Type 0
AreFull full = AllByRecursion (λ v. length v.items ≡ 1024) full

in_front : (xs ys : List Posted) (k : ℕ) → k < length xs → slice_get (xs ++ ys) k ≡ slice_get xs k
in_front [] ys k below = absurd (omega (arith, below))
in_front (x ∷ xs) ys zero below = refl
in_front (x ∷ xs) ys (suc k) below = in_front xs ys k (omega (arith, below))

behind : (xs ys : List Posted) (k j : ℕ) → k ≡ length xs + j → slice_get (xs ++ ys) k ≡ slice_get ys j
behind [] ys k j is = ap (slice_get ys) (omega (arith, is))
behind (x ∷ xs) ys zero j is = absurd (omega (arith, is))
behind (x ∷ xs) ys (suc k) j is = behind xs ys k j (omega (arith, is))

join_assoc : (xs ys zs : List Posted) → (xs ++ ys) ++ zs ≡ xs ++ (ys ++ zs)
join_assoc [] ys zs = refl
join_assoc (x ∷ xs) ys zs = ap (λ r. x ∷ r) (join_assoc xs ys zs)

lies : (full : List (Vec Posted Global)) (last : List Posted) (k q r : ℕ) → AreFull full → length last ≤ 1024 → k ≡ 1024 * q + r → r < 1024 → k < length (in_order full last) → slice_get (in_order full last) k ≡ slice_get (block_at full last q) r
lies [] last k zero r sizes most is small below = ap (slice_get last) (omega (arith, is))
lies [] last k (suc q) r sizes most is small below = absurd (omega (arith, is, below, most))
lies (v ∷ full) last k zero r sizes most is small below =
    let e : k ≡ r = omega (arith, is) in
    ap (λ xs. slice_get xs k) (join_assoc v.items (flat_map (λ w. w.items) full) last)
    ∙ in_front v.items (in_order full last) k (omega (arith, e, small, sizes.0))
    ∙ ap (slice_get v.items) e
lies (v ∷ full) last k (suc q) r sizes most is small below =
    let j : ℕ = 1024 * q + r in
    let whole : (v.items ++ flat_map (λ w. w.items) full) ++ last ≡ v.items ++ in_order full last = join_assoc v.items (flat_map (λ w. w.items) full) last in
    let many : length ((v.items ++ flat_map (λ w. w.items) full) ++ last) ≡ length v.items + length (in_order full last) = ap length whole ∙ length-append v.items (in_order full last) in
    let at : k ≡ length v.items + j = omega (arith, is, sizes.0) in
    ap (λ xs. slice_get xs k) whole
    ∙ behind v.items (in_order full last) k j at
    ∙ lies full last j q r sizes.1 most refl small (omega (arith, at, many, below))

-- the entry with this number lies in its block
pub found : (full : List (Vec Posted Global)) (last : List Posted) (count k : ℕ) → IsInBlocks full last count → k < count → slice_get (in_order full last) k ≡ slice_get (block_at full last (k / 1024)) (k % 1024)
found full last count k in_blocks below =
    lies full last k (k / 1024) (k % 1024) in_blocks.sizes in_blocks.most (sym (div-add-mod k 1024)) (omega arith) (omega (arith, below, in_blocks.counted))
