-- The prefix of a start's row decides of records whose rows have another one.
use Rattle.std.proofs.Common.{◌≡◌, ◌<◌, ◌^◌, ◌-◌, ℕ, List, true, false, not, refl, sym, ap, arith, Bor}
use Rattle.std.specs.Ordering.{nat_cmp, is_lt, is_le}
use Rattle.std.specs.declared.cmp.Ordering.TheVariants.{Less, Greater}
use Rattle.std.proofs.lemmas.Bool.Decides.{nat_tests}
use Rattle.tab_key.specs.Bytes.{bytes_cmp}
use Rattle.tab_key.specs.KeyOf.{key_of}
use Rattle.tab_key.specs.Records.{Key}
use Rattle.tab_key.specs.Order.{column_cmp, key_cmp}
use Rattle.tab_key.specs.Ranges.{is_above, is_below}
use Rattle.tab_key.specs.RowPrefix.{IsRowPrefix}
use Rattle.tab_key.specs.declared.key.Key.{Key as Lent}
use Rattle.tab_key.specs.declared.range.Bound.{Bound}
use Rattle.tab_key.specs.declared.range.Bound.TheVariants.{Unbounded, Inclusive, Exclusive}
use Rattle.tab_key.proofs.RowPrefix.{prefix_orders}
use Rattle.tab_mem.specs.Starts.{is_before, IsEndPrefix, IsPrefixOf}
use Rattle.tab_mem.specs.declared.start.Start.TheVariants.{AtKey, AtLow, PastHigh}

pub less_rows : (a b : List ℕ) (p q : ℕ) → IsRowPrefix p a → IsRowPrefix q b → p < q → bytes_cmp a b ≡ Less
less_rows a b p q m n lt = let less : nat_cmp p q ≡ Less = grind (arith, nat_tests) in sym (prefix_orders a b p q Less m n less (λ x. cc))

pub greater_rows : (a b : List ℕ) (p q : ℕ) → IsRowPrefix p a → IsRowPrefix q b → q < p → bytes_cmp a b ≡ Greater
greater_rows a b p q m n lt = let more : nat_cmp p q ≡ Greater = grind (arith, nat_tests) in sym (prefix_orders a b p q Greater m n more (λ x. cc))

-- ---- a key
row_less : (a b : Key) → bytes_cmp a.row b.row ≡ Less → is_lt (key_cmp a b) ≡ true
unfolding key_cmp column_cmp
row_less a b e = rw e refl

row_greater : (a b : Key) → bytes_cmp a.row b.row ≡ Greater → is_lt (key_cmp a b) ≡ false
unfolding key_cmp column_cmp
row_greater a b e = rw e refl

pub key_prefix : (k : Lent) (q : ℕ) → IsRowPrefix q (key_of k).row → IsPrefixOf (AtKey k) q
unfolding is_before
key_prefix k q own = record {
  lower = λ u p is lt. row_less u.key (key_of k) (less_rows u.key.row (key_of k).row p q is own lt);
  higher = λ u p fits is lt. row_greater u.key (key_of k) (greater_rows u.key.row (key_of k).row p q is own lt);
}

-- ---- an end
low_lower : (b : Bound) (q p : ℕ) (row : List ℕ) → IsEndPrefix 0 b q → IsRowPrefix p row → p < q → is_above b row ≡ false
low_lower Unbounded q p row own is lt = absurd (omega (arith, own, lt))
low_lower (Inclusive low) q p row own is lt = ap is_le (greater_rows low row q p own is lt)
low_lower (Exclusive low) q p row own is lt = ap is_lt (greater_rows low row q p own is lt)

low_higher : (b : Bound) (q p : ℕ) (row : List ℕ) → IsEndPrefix 0 b q → IsRowPrefix p row → q < p → is_above b row ≡ true
low_higher Unbounded q p row own is lt = refl
low_higher (Inclusive low) q p row own is lt = ap is_le (less_rows low row q p own is lt)
low_higher (Exclusive low) q p row own is lt = ap is_lt (less_rows low row q p own is lt)

high_lower : (b : Bound) (q p : ℕ) (row : List ℕ) → IsEndPrefix (2 ^ 128 - 1) b q → IsRowPrefix p row → p < q → is_below b row ≡ true
high_lower Unbounded q p row own is lt = refl
high_lower (Inclusive high) q p row own is lt = ap is_le (less_rows row high p q is own lt)
high_lower (Exclusive high) q p row own is lt = ap is_lt (less_rows row high p q is own lt)

high_higher : (b : Bound) (q p : ℕ) (row : List ℕ) → IsEndPrefix (2 ^ 128 - 1) b q → p < 2 ^ 128 → IsRowPrefix p row → q < p → is_below b row ≡ false
high_higher Unbounded q p row own fits is lt = absurd (omega (arith, own, fits, lt))
high_higher (Inclusive high) q p row own fits is lt = ap is_le (greater_rows row high p q is own lt)
high_higher (Exclusive high) q p row own fits is lt = ap is_lt (greater_rows row high p q is own lt)

pub low_prefix : (b : Bor Bound) (q : ℕ) → IsEndPrefix 0 b.now q → IsPrefixOf (AtLow b) q
unfolding is_before
low_prefix b q own = record {
  lower = λ u p is lt. ap not (low_lower b.now q p u.key.row own is lt);
  higher = λ u p fits is lt. ap not (low_higher b.now q p u.key.row own is lt);
}

pub high_prefix : (b : Bor Bound) (q : ℕ) → IsEndPrefix (2 ^ 128 - 1) b.now q → IsPrefixOf (PastHigh b) q
unfolding is_before
high_prefix b q own = record {
  lower = λ u p is lt. high_lower b.now q p u.key.row own is lt;
  higher = λ u p fits is lt. high_higher b.now q p u.key.row own fits is lt;
}
