-- The first cells of a list, taken one by one.
use Rattle.std.proofs.Common.{◌≡◌, ℕ, zero, suc, ◌+◌, ◌≤◌, List, [], ◌∷◌, ◌++◌, sym, ◌∙◌, ap, map, take, drop, arith}
use Rattle.std.specs.Prelude.{Some, None}
use Rattle.std.proofs.Math.Seq.{take-nil, drop-nil}
use Rattle.tab_key.specs.Records.{Record, Cell, cell_of}
use Rattle.tab_iter.specs.Lists.{first_of}

one_more : (i : ℕ) (w : List Record) (u : Record) → Some u ≡ first_of (drop i w) → take (suc i) (map cell_of w) ≡ take i (map cell_of w) ++ cell_of u ∷ []
one_more zero [] u e = absurd (let bad : Some u ≡ None = e in cc)
one_more (suc i) [] u e = absurd (let bad : Some u ≡ None = e in cc)
one_more zero (x ∷ xs) u e = let first : u ≡ x = cc in ap (λ r. cell_of r ∷ []) (sym first)
one_more (suc i) (x ∷ xs) u e = ap (λ l. cell_of x ∷ l) (one_more i xs u e)

-- the cell of the first record that is left
pub takes_one : (i : ℕ) (w rest : List Record) (u : Record) (before after : List Cell) → before ≡ take i (map cell_of w) → rest ≡ drop i w → Some u ≡ first_of rest → after ≡ before ++ cell_of u ∷ [] → after ≡ take (i + 1) (map cell_of w)
takes_one i w rest u before after t r f more =
    let next : i + 1 ≡ suc i = omega arith in
    let found : take (suc i) (map cell_of w) ≡ take i (map cell_of w) ++ cell_of u ∷ [] = one_more i w u (f ∙ ap first_of r) in
    more ∙ ap (λ cells. cells ++ cell_of u ∷ []) t ∙ sym found ∙ ap (λ n. take n (map cell_of w)) (sym next)

-- where nothing is left, no count takes more
none_left : (i n : ℕ) (w : List Record) → i ≤ n → None ≡ first_of (drop i w) → take i (map cell_of w) ≡ take n (map cell_of w)
none_left i n [] le e = take-nil i ∙ sym (take-nil n)
none_left zero n (x ∷ xs) le e = absurd (let bad : None ≡ Some x = e in cc)
none_left (suc i) zero (x ∷ xs) le e = absurd (omega (arith, le))
none_left (suc i) (suc n) (x ∷ xs) le e = ap (λ l. cell_of x ∷ l) (none_left i n xs (omega (arith, le)) e)

none_dropped : (i n : ℕ) (w : List Record) → i ≤ n → None ≡ first_of (drop i w) → drop i w ≡ drop n w
none_dropped i n [] le e = drop-nil i ∙ sym (drop-nil n)
none_dropped zero n (x ∷ xs) le e = absurd (let bad : None ≡ Some x = e in cc)
none_dropped (suc i) zero (x ∷ xs) le e = absurd (omega (arith, le))
none_dropped (suc i) (suc n) (x ∷ xs) le e = none_dropped i n xs (omega (arith, le)) e

pub all_taken : (i n : ℕ) (w rest : List Record) (cells : List Cell) → i ≤ n → cells ≡ take i (map cell_of w) → rest ≡ drop i w → None ≡ first_of rest → cells ≡ take n (map cell_of w)
all_taken i n w rest cells le t r e = t ∙ none_left i n w le (e ∙ ap first_of r)

pub all_passed : (i n : ℕ) (w rest : List Record) → i ≤ n → rest ≡ drop i w → None ≡ first_of rest → rest ≡ drop n w
all_passed i n w rest le r e = r ∙ none_dropped i n w le (e ∙ ap first_of r)
