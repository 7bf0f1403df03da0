-- How far among rising numbers those go that are below another one.
use Rattle.std.proofs.Common.{◌≡◌, ◌≢◌, ◌⊎◌, inl, inr, ℕ, ◌+◌, ◌-◌, ◌*◌, ◌≤◌, ◌<◌, List, Bool, true, false, refl, sym, ◌∙◌, ap, subst, length, get_or, arith}
use Rattle.std.specs.Prelude.{nat_lt, min, max}
use Rattle.std.specs.List.Sorted.{IsNonDecreasing}
use Rattle.std.proofs.lemmas.Bool.Decides.{nat_tests}
use Rattle.std.proofs.lemmas.List.Sums.{prefix_len_passes, prefix_len_stops, prefix_len_is, prefix_len-le-length}
use mir.Val.{bool_byte}
use Rattle.tab_cells.proofs.Lists.{by_bool}
use Rattle.tab_mem.specs.Numbers.{count_below}

pub below_within : (bound : ℕ) (ns : List ℕ) → count_below bound ns ≤ length ns
below_within bound ns = prefix_len-le-length (λ n. nat_lt n bound) ns

pub below_first : (bound : ℕ) (ns : List ℕ) (k d : ℕ) → k < count_below bound ns → get_or ns k d < bound
below_first bound ns k d lt = let e : nat_lt (get_or ns k d) bound ≡ true = prefix_len_passes (λ n. nat_lt n bound) ns k d lt in grind (arith, nat_tests)

pub not_below : (bound : ℕ) (ns : List ℕ) (d : ℕ) → count_below bound ns < length ns → bound ≤ get_or ns (count_below bound ns) d
not_below bound ns d lt = let e : nat_lt (get_or ns (count_below bound ns) d) bound ≡ false = prefix_len_stops (λ n. nat_lt n bound) ns d lt in grind (arith, nat_tests)

-- and no later one is below it, where they rise
pub none_below : (bound : ℕ) (ns : List ℕ) (k d : ℕ) → IsNonDecreasing ns → count_below bound ns ≤ k → k < length ns → bound ≤ get_or ns k d
none_below bound ns k d rise le lt = let at = not_below bound ns d (omega arith) in let up = rise (count_below bound ns) k d le lt in omega arith

-- as many are below a higher bound
pub below_rises : (m n : ℕ) (ns : List ℕ) → m ≤ n → count_below m ns ≤ count_below n ns
below_rises m n ns le = by_bool (nat_lt (count_below n ns) (count_below m ns))
    (λ e.
    let lt : count_below n ns < count_below m ns = grind (arith, nat_tests) in
    let within = below_within m ns in let at = not_below n ns 0 (omega (arith, within)) in let under = below_first m ns (count_below n ns) 0 lt in
    omega arith)
    (λ e. grind (arith, nat_tests))

pub below_next : (bound : ℕ) (ns : List ℕ) → count_below bound ns ≤ count_below (bound + 1) ns
below_next bound ns = below_rises bound (bound + 1) ns (omega arith)

-- so a number is below the bound exactly where it is one of the first
pub below_at : (bound : ℕ) (ns : List ℕ) (k d : ℕ) → IsNonDecreasing ns → k < length ns → nat_lt (get_or ns k d) bound ≡ nat_lt k (count_below bound ns)
below_at bound ns k d rise lt = by_bool (nat_lt k (count_below bound ns))
    (λ e. let first : k < count_below bound ns = grind (arith, nat_tests) in let under = below_first bound ns k d first in let t : nat_lt (get_or ns k d) bound ≡ true = grind (arith, nat_tests) in t ∙ sym e)
    (λ e. let le : count_below bound ns ≤ k = grind (arith, nat_tests) in let over = none_below bound ns k d rise le lt in let f : nat_lt (get_or ns k d) bound ≡ false = grind (arith, nat_tests) in f ∙ sym e)

-- ---- up to the bound
-- no more, where the next one isn't the bound
pub next_is_other : (bound : ℕ) (ns : List ℕ) (k d : ℕ) → k ≡ count_below bound ns → (k < length ns → get_or ns k d ≢ bound) → k ≡ count_below (bound + 1) ns
next_is_other bound ns k d is other = sym (prefix_len_is (λ n. nat_lt n (bound + 1)) ns k d le under over)
  where
    le : k ≤ length ns
    le = let w = below_within bound ns in omega (arith, is)

    under : (j : ℕ) → j < k → nat_lt (get_or ns j d) (bound + 1) ≡ true
    under j lt = let u = below_first bound ns j d (omega (arith, is)) in grind (arith, nat_tests)

    over : k < length ns → nat_lt (get_or ns k d) (bound + 1) ≡ false
    over lt =
        let at : bound ≤ get_or ns k d = subst (λ j. bound ≤ get_or ns j d) (sym is) (not_below bound ns d (omega (arith, is))) in
        let ne = other lt in grind (arith, nat_tests)

-- all of them, where none is above it
pub all_up_to : (bound : ℕ) (ns : List ℕ) → ((k : ℕ) → get_or ns k 0 ≤ bound) → length ns ≡ count_below (bound + 1) ns
all_up_to bound ns up = sym (prefix_len_is (λ n. nat_lt n (bound + 1)) ns (length ns) 0 (omega arith) (λ k lt. let u = up k in grind (arith, nat_tests)) (λ lt. absurd (omega arith)))

-- ---- three parts at once
-- how many of the three parts from this place on end at another place or before
abbrev pub parts : ℕ → ℕ → ℕ → ℕ
parts from part end = bool_byte (nat_lt (from + part - 1) end) + bool_byte (nat_lt (from + 2 * part - 1) end) + bool_byte (nat_lt (from + 3 * part - 1) end)

pub parts_below : (from part end : ℕ) → 0 < part → from ≤ end → from + parts from part end * part ≤ end
parts_below from part end some le = go (nat_lt (from + part - 1) end) (nat_lt (from + 2 * part - 1) end) (nat_lt (from + 3 * part - 1) end) refl refl refl
  where
    go : (a b c : Bool) → nat_lt (from + part - 1) end ≡ a → nat_lt (from + 2 * part - 1) end ≡ b → nat_lt (from + 3 * part - 1) end ≡ c → from + (bool_byte a + bool_byte b + bool_byte c) * part ≤ end
    go true true true p q r = grind (arith, nat_tests)
    go true true false p q r = grind (arith, nat_tests)
    go true false true p q r = grind (arith, nat_tests)
    go true false false p q r = grind (arith, nat_tests)
    go false true true p q r = grind (arith, nat_tests)
    go false true false p q r = grind (arith, nat_tests)
    go false false true p q r = grind (arith, nat_tests)
    go false false false p q r = grind (arith, nat_tests)

pub parts_most : (from part end : ℕ) → 0 < part → (parts from part end * part ≡ 3 * part) ⊎ (end < from + parts from part end * part + part)
parts_most from part end some = go (nat_lt (from + part - 1) end) (nat_lt (from + 2 * part - 1) end) (nat_lt (from + 3 * part - 1) end) refl refl refl
  where
    go : (a b c : Bool) → nat_lt (from + part - 1) end ≡ a → nat_lt (from + 2 * part - 1) end ≡ b → nat_lt (from + 3 * part - 1) end ≡ c → ((bool_byte a + bool_byte b + bool_byte c) * part ≡ 3 * part) ⊎ (end < from + (bool_byte a + bool_byte b + bool_byte c) * part + part)
    go true true true p q r = inl (grind (arith, nat_tests))
    go true true false p q r = inr (grind (arith, nat_tests))
    go true false true p q r = inr (grind (arith, nat_tests))
    go true false false p q r = inr (grind (arith, nat_tests))
    go false true true p q r = inr (grind (arith, nat_tests))
    go false true false p q r = inr (grind (arith, nat_tests))
    go false false true p q r = inr (grind (arith, nat_tests))
    go false false false p q r = inr (grind (arith, nat_tests))

-- their last numbers tell so
pub passed_parts : (bound : ℕ) (ns : List ℕ) (from part : ℕ) → IsNonDecreasing ns → 0 < part → from + 3 * part ≤ length ns
    → bool_byte (nat_lt (get_or ns (from + part - 1) 0) bound) + bool_byte (nat_lt (get_or ns (from + 2 * part - 1) 0) bound) + bool_byte (nat_lt (get_or ns (from + 3 * part - 1) 0) bound) ≡ parts from part (count_below bound ns)
passed_parts bound ns from part rise some le = λ i. bool_byte (tells (from + part - 1) (omega arith) i) + bool_byte (tells (from + 2 * part - 1) (omega arith) i) + bool_byte (tells (from + 3 * part - 1) (omega arith) i)
  where
    tells : (k : ℕ) → k < length ns → nat_lt (get_or ns k 0) bound ≡ nat_lt k (count_below bound ns)
    tells k lt = below_at bound ns k 0 rise lt

-- ---- one by one
pub one_further : (from count place : ℕ) → from ≤ place → max from (min count place) + bool_byte (nat_lt place count) ≡ max from (min count (place + 1))
one_further from count place le = by_bool (nat_lt place count)
    (λ e. let lt : place < count = grind (arith, nat_tests) in ap (λ v. max from (min count place) + bool_byte v) e ∙ omega arith)
    (λ e. let ge : count ≤ place = grind (arith, nat_tests) in ap (λ v. max from (min count place) + bool_byte v) e ∙ omega arith)
