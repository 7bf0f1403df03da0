-- Records cut by rows into tablets.
use Rattle.std.proofs.Common.{◌≡◌, ◌⊎◌, inl, inr, ℕ, List, [], ◌∷◌, ◌++◌, Bool, true, false, ◌&&◌, refl, sym, ◌∙◌, ap, subst, map, append_assoc, append-nil}
use Rattle.std.specs.Prelude.{filter}
use Rattle.std.specs.Ordering.{is_lt, is_le, is_gt, ordering_reverse}
use Rattle.std.specs.BTreeMap.Comparable.{le_lt_trans}
use Rattle.std.specs.Cmp.Lexicographic.{nat_list_cmp_total}
use Rattle.std.specs.declared.cmp.Ordering.{Ordering}
use Rattle.std.specs.declared.cmp.Ordering.TheVariants.{Less, Equal, Greater}
use Rattle.std.proofs.lemmas.List.{map-append}
use Rattle.std.proofs.lemmas.List.Elements.{filter-append}
use mathlib.Core.Bool.{true≢false}
use Rattle.tab_key.specs.Bytes.{bytes_cmp}
use Rattle.tab_key.specs.Order.{record_cmp, place_cmp, key_cmp, column_cmp}
use Rattle.tab_key.specs.Records.{Record}
use Rattle.tab_key.specs.Sorted.{sorted, IsDistinct, IsIn}
use Rattle.tab_key.proofs.Rising.{is_less, in_sorted, sorted_in, in_filter, filter_in, rising_sorted, same_rising, distinct_filter}
use Rattle.tab_cells.proofs.Lists.{by_bool, in_append, in_left, in_right}
use Rattle.tab_iter.specs.Bags.{flat}
use Rattle.tab_iter.specs.Lists.{IsRising}
use Rattle.tab_iter.proofs.ListLaws.{rises_more, first_less, later_rises}
use Rattle.tab_version.specs.InTurn.{in_order}
use Rattle.tab_version.specs.Sources.{Sorted, Sources, records_of, clipped}
use Rattle.tab_version.proofs.Gathering.{flat_both}

-- one tablet lies before what is behind it
pub one_rises : (ts none : List Sources) (t : Sources) → none ≡ [] → ts ≡ none ++ t ∷ [] → IsDistinct (records_of t) → IsRising (flat (in_order ts))
one_rises ts none t n e d = subst (λ l. IsRising (flat (in_order l))) (sym (e ∙ ap (λ l. l ++ t ∷ []) n)) (subst IsRising (sym (append-nil (sorted (records_of t)))) (rising_sorted (records_of t) d))

-- ---- rising lists one behind the other
rising_both : (xs ys : List Record) → IsRising xs → IsRising ys → ((x y : Record) → IsIn xs x → IsIn ys y → record_cmp x y ≡ Less) → IsRising (xs ++ ys)
rising_both [] ys up vp f = vp
rising_both (x ∷ xs) ys up vp f = rises_more x (xs ++ ys) (λ u h. go u (in_append xs ys u h)) (rising_both xs ys (later_rises x xs up) vp (λ a b h k. f a b (inr h) k))
  where
    go : (u : Record) → IsIn xs u ⊎ IsIn ys u → record_cmp x u ≡ Less
    go u (inl h) = first_less x xs up u h
    go u (inr k) = f x u (inl refl) k

upto : List ℕ → Record → Bool
upto row u = is_le (bytes_cmp u.key.row row)

behind : List ℕ → Record → Bool
behind row u = is_lt (bytes_cmp row u.key.row)

either : (row : List ℕ) (u : Record) → upto row u ≡ false → behind row u ≡ true
unfolding upto behind
either row u e = ap is_lt (nat_list_cmp_total.antisymm row u.key.row) ∙ go (bytes_cmp u.key.row row) e
  where
    go : (o : Ordering) → is_le o ≡ false → is_lt (ordering_reverse o) ≡ true
    go Less f = absurd (true≢false f)
    go Equal f = absurd (true≢false f)
    go Greater f = refl

row_first : (a b : Record) → bytes_cmp a.key.row b.key.row ≡ Less → record_cmp a b ≡ Less
unfolding column_cmp key_cmp place_cmp
row_first a b e = rw e refl

cut_less : (row : List ℕ) (u v : Record) → upto row u ≡ true → behind row v ≡ true → record_cmp u v ≡ Less
unfolding upto behind
cut_less row u v e f = row_first u v (le_lt_trans nat_list_cmp_total u.key.row row v.key.row e (is_less (bytes_cmp row v.key.row) f))

module _ (row : List ℕ) (us : List Record) where
  abbrev low : List Record
  low = sorted (filter (upto row) us)

  abbrev high : List Record
  high = sorted (filter (behind row) us)

  of_both : (u : Record) → IsIn low u ⊎ IsIn high u → IsIn us u
  of_both u (inl h) = (in_filter (upto row) us u (in_sorted _ u h)).0
  of_both u (inr k) = (in_filter (behind row) us u (in_sorted _ u k)).0

  in_both : (u : Record) → IsIn us u → IsIn (low ++ high) u
  in_both u h = by_bool (upto row u)
      (λ e. in_left low high u (sorted_in _ u (filter_in (upto row) us u h e)))
      (λ e. in_right low high u (sorted_in _ u (filter_in (behind row) us u h (either row u e))))

  parts_sorted : IsDistinct us → low ++ high ≡ sorted us
  parts_sorted d = same_rising (low ++ high) (sorted us)
      (rising_both low high (rising_sorted (filter (upto row) us) (distinct_filter (upto row) us d)) (rising_sorted (filter (behind row) us) (distinct_filter (behind row) us d))
      (λ x y h k. cut_less row x y (in_filter (upto row) us x (in_sorted _ x h)).1 (in_filter (behind row) us y (in_sorted _ y k)).1))
      (rising_sorted us d)
      (λ u h. sorted_in us u (of_both u (in_append low high u h)))
      (λ u h. in_both u (in_sorted us u h))

-- ---- clips cut to rows
flat_filter : (p : Record → Bool) (xss : List (List Record)) → flat (map (filter p) xss) ≡ filter p (flat xss)
flat_filter p [] = refl
flat_filter p (xs ∷ xss) = ap (λ l. filter p xs ++ l) (flat_filter p xss) ∙ sym (filter-append p xs (flat xss))

tables_filter : (p : List ℕ → Bool) (ts : List Sorted) → flat (map (λ (t : Sorted). t.records) (map (λ (t : Sorted). record t { records = filter (λ (u : Record). p u.key.row) t.records }) ts)) ≡ filter (λ (u : Record). p u.key.row) (flat (map (λ (t : Sorted). t.records) ts))
tables_filter p [] = refl
tables_filter p (t ∷ ts) = ap (λ l. filter (λ (u : Record). p u.key.row) t.records ++ l) (tables_filter p ts) ∙ sym (filter-append (λ (u : Record). p u.key.row) t.records (flat (map (λ (s : Sorted). s.records) ts)))

clipped_records : (p : List ℕ → Bool) (s : Sources) → records_of (clipped p s) ≡ filter (λ (u : Record). p u.key.row) (records_of s)
clipped_records p s =
    (λ i. flat_filter (λ (u : Record). p u.key.row) s.runs i ++ tables_filter p s.tables i)
    ∙ sym (filter-append (λ (u : Record). p u.key.row) (flat s.runs) (flat (map (λ (t : Sorted). t.records) s.tables)))

and_true : (v : Bool) → (v && true) ≡ v
and_true true = refl
and_true false = refl

-- a range that has one end
pub from_end : (row end : List ℕ) (s part : Sources) → end ≡ row → part ≡ clipped (λ r. is_lt (bytes_cmp end r) && true) s → part ≡ clipped (λ r. is_lt (bytes_cmp row r)) s
from_end row end s part e is = is ∙ (λ i. clipped (λ r. and_true (is_lt (bytes_cmp (e i) r)) i) s)

pub to_end : (row end : List ℕ) (s part : Sources) → end ≡ row → part ≡ clipped (λ r. is_le (bytes_cmp r end)) s → part ≡ clipped (λ r. is_le (bytes_cmp r row)) s
to_end row end s part e is = is ∙ (λ i. clipped (λ r. is_le (bytes_cmp r (e i))) s)

pub left_distinct : (row : List ℕ) (s left : Sources) → left ≡ clipped (λ r. is_lt (bytes_cmp row r)) s → IsDistinct (records_of s) → IsDistinct (records_of left)
left_distinct row s left e d = subst IsDistinct (sym (ap records_of e ∙ clipped_records (λ r. is_lt (bytes_cmp row r)) s)) (distinct_filter (λ (u : Record). is_lt (bytes_cmp row u.key.row)) (records_of s) d)

order_of : (ts : List Sources) (t : Sources) → flat (in_order (ts ++ t ∷ [])) ≡ flat (in_order ts) ++ sorted (records_of t)
order_of ts t =
    ap flat (map-append (λ (s : Sources). sorted (records_of s)) ts (t ∷ []))
    ∙ flat_both (in_order ts) (in_order (t ∷ []))
    ∙ ap (λ l. flat (in_order ts) ++ l) (append-nil (sorted (records_of t)))

pub cut_order : (row : List ℕ) (s low left : Sources) (old new : List Sources) → new ≡ old ++ low ∷ [] → low ≡ clipped (λ r. is_le (bytes_cmp r row)) s → left ≡ clipped (λ r. is_lt (bytes_cmp row r)) s → IsDistinct (records_of s) → flat (in_order new) ++ sorted (records_of left) ≡ flat (in_order old) ++ sorted (records_of s)
unfolding upto behind
cut_order row s low left old new e lo hi d =
    let a : records_of low ≡ filter (upto row) (records_of s) = ap records_of lo ∙ clipped_records (λ r. is_le (bytes_cmp r row)) s in
    let b : records_of left ≡ filter (behind row) (records_of s) = ap records_of hi ∙ clipped_records (λ r. is_lt (bytes_cmp row r)) s in
    ap (λ l. flat (in_order l) ++ sorted (records_of left)) e
    ∙ ap (λ l. l ++ sorted (records_of left)) (order_of old low)
    ∙ append_assoc (flat (in_order old)) (sorted (records_of low)) (sorted (records_of left))
    ∙ ap (λ l. flat (in_order old) ++ l) (ap (λ l. sorted l ++ sorted (records_of left)) a ∙ ap (λ l. sorted (filter (upto row) (records_of s)) ++ sorted l) b ∙ parts_sorted row (records_of s) d)

-- the last tablet
pub cut_rises : (s left : Sources) (old new : List Sources) → new ≡ old ++ left ∷ [] → flat (in_order old) ++ sorted (records_of left) ≡ sorted (records_of s) → IsDistinct (records_of s) → IsRising (flat (in_order new))
cut_rises s left old new e is d = subst IsRising (sym (ap (λ l. flat (in_order l)) e ∙ order_of old left ∙ is)) (rising_sorted (records_of s) d)
