-- A list as a source.
use Rattle.std.proofs.Common.{◌≡◌, ◌<◌, ℕ, zero, suc, List, [], ◌∷◌, Bool, true, false, cond, refl, drop, length, ◌+◌, ap, ◌∙◌, arith}
use Rattle.std.specs.Prelude.{int_le}
use Rattle.std.specs.List.{prefix_len, slice_index_or}
use Rattle.std.specs.Ordering.{is_lt}
use Rattle.tab_key.specs.Order.{key_cmp}
use Rattle.tab_key.specs.Records.{Key, Record}
use Rattle.tab_key.proofs.Rising.{in_to}
use Rattle.tab_iter.specs.Lists.{tail, from_key, latest, HasI64Timestamps}

pub tail_drop : (n : ℕ) (xs : List Record) → drop (n + 1) xs ≡ tail (drop n xs)
tail_drop n xs = let more : n + 1 ≡ suc n = omega arith in rw more (go n xs)
  where
    go : (n : ℕ) (xs : List Record) → drop (suc n) xs ≡ tail (drop n xs)
    go zero [] = refl
    go zero (x ∷ xs) = refl
    go (suc n) [] = refl
    go (suc n) (x ∷ xs) = go n xs

drop_prefix : (k : Key) (xs : List Record) → drop (prefix_len (λ r. is_lt (key_cmp r.key k)) xs) xs ≡ from_key k xs
drop_prefix k [] = refl
drop_prefix k (x ∷ xs) = go (is_lt (key_cmp x.key k)) (drop_prefix k xs)
  where
    go : (v : Bool) → drop (prefix_len (λ r. is_lt (key_cmp r.key k)) xs) xs ≡ from_key k xs → drop (cond v (1 + prefix_len (λ r. is_lt (key_cmp r.key k)) xs) 0) (x ∷ xs) ≡ cond v (from_key k xs) (x ∷ xs)
    go true e = let n = prefix_len (λ r. is_lt (key_cmp r.key k)) xs in let more : 1 + n ≡ suc n = omega arith in ap (λ m. drop m (x ∷ xs)) more ∙ e
    go false e = refl

pub lands_key : (k : Key) (n : ℕ) (lent xs : List Record) → n ≡ prefix_len (λ r. is_lt (key_cmp r.key k)) lent → lent ≡ xs → drop n xs ≡ from_key k xs
lands_key k n lent xs e v = ap (λ m. drop m xs) (e ∙ ap (prefix_len (λ r. is_lt (key_cmp r.key k))) v) ∙ drop_prefix k xs

pub i64_timestamps_all : (xs : List Record) → ((k : ℕ) → k < length xs → (u : Record) → slice_index_or xs k u ≡ u → int_le u.key.timestamp latest ≡ true) → HasI64Timestamps xs
i64_timestamps_all xs f u h = let c = in_to xs u h in f c.0 c.1 u c.2
