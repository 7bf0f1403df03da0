-- Lists of records that show the same in the same order, whatever their numbers.
use Rattle.std.proofs.Common.{◌≡◌, ℕ, suc, List, [], ◌∷◌, Bool, true, false, cond, not, ◌&&◌, ◌||◌, refl, sym, ◌∙◌, ap}
use Rattle.std.specs.Prelude.{int_le, nat_lt, filter, map, length}
use Rattle.std.specs.Ordering.{is_lt, ordering_then, nat_cmp}
use Rattle.std.specs.declared.cmp.Ordering.TheVariants.{Less, Greater}
use Rattle.tab_key.specs.Order.{kind_rank, key_cmp, place_cmp, stands_before, IsNewer}
use Rattle.tab_key.specs.Kept.{is_put, same_column, hides, is_deleted, outranks, is_kept}
use Rattle.tab_key.specs.Sorted.{inserted, sorted}
use Rattle.tab_cells.specs.Cells.{matches, Query, is_shown, cells}
use Rattle.tab_key.specs.Records.{Record, cell_of}
use Rattle.tab_key.proofs.Order.{newer_first, older_last, not_before_itself}

-- they show the same
pub record Alike (x y : Record) : Type 0 where
  pub key : x.key ≡ y.key
  pub kind : x.kind ≡ y.kind
  pub value : x.value ≡ y.value

-- x stands to a as y does to b
pub record SameOrder (x y a b : Record) : Type 0 where
  pub ahead : stands_before x a ≡ stands_before y b
  pub behind : stands_before a x ≡ stands_before b y

-- R holds of each pair, and the lists are as long
abbrev pub Pairwise : (Record → Record → Type 0) → List Record → List Record → Type 0
Pairwise R [] [] = Unit {0}
Pairwise R (x ∷ xs) (y ∷ ys) = R x y × Pairwise R xs ys
Pairwise R [] (y ∷ ys) = ⊥
Pairwise R (x ∷ xs) [] = ⊥

-- pair by pair they show the same, and any two stand to each other alike
abbrev pub Matched : List Record → List Record → Type 0
Matched [] [] = Unit {0}
Matched (x ∷ xs) (y ∷ ys) = Alike x y × Pairwise (SameOrder x y) xs ys × Matched xs ys
Matched [] (y ∷ ys) = ⊥
Matched (x ∷ xs) [] = ⊥

pub pairwise_zip : (R S T : Record → Record → Type 0) → ((x y : Record) → R x y → S x y → T x y) → (xs ys : List Record) → Pairwise R xs ys → Pairwise S xs ys → Pairwise T xs ys
pairwise_zip R S T f [] [] r s = tt
pairwise_zip R S T f (x ∷ xs) (y ∷ ys) r s = (f x y r.0 s.0, pairwise_zip R S T f xs ys r.1 s.1)
pairwise_zip R S T f [] (y ∷ ys) r s = r
pairwise_zip R S T f (x ∷ xs) [] r s = r

pub pairwise_map : (R T : Record → Record → Type 0) → ((x y : Record) → R x y → T x y) → (xs ys : List Record) → Pairwise R xs ys → Pairwise T xs ys
pairwise_map R T f xs ys r = pairwise_zip R R T (λ x y a b. f x y a) xs ys r r

pub matched_alike : (xs ys : List Record) → Matched xs ys → Pairwise Alike xs ys
matched_alike [] [] m = tt
matched_alike (x ∷ xs) (y ∷ ys) m = (m.0, matched_alike xs ys m.2)
matched_alike [] (y ∷ ys) m = m
matched_alike (x ∷ xs) [] m = m

-- ---- filters
pairwise_choice : (R : Record → Record → Type 0) (v : Bool) (x y : Record) (xs ys : List Record) → R x y → Pairwise R xs ys → Pairwise R (cond v (x ∷ xs) xs) (cond v (y ∷ ys) ys)
pairwise_choice R true x y xs ys r s = (r, s)
pairwise_choice R false x y xs ys r s = s

pub pairwise_filter : (R : Record → Record → Type 0) (p q : Record → Bool) (xs ys : List Record) → Pairwise (λ x y. p x ≡ q y) xs ys → Pairwise R xs ys → Pairwise R (filter p xs) (filter q ys)
pairwise_filter R p q [] [] e r = tt
pairwise_filter R p q (x ∷ xs) (y ∷ ys) e r = rw e.0 (pairwise_choice R (q y) x y (filter p xs) (filter q ys) r.0 (pairwise_filter R p q xs ys e.1 r.1))
pairwise_filter R p q [] (y ∷ ys) e r = absurd r
pairwise_filter R p q (x ∷ xs) [] e r = absurd r

matched_choice : (v : Bool) (x y : Record) (xs ys : List Record) → Alike x y → Pairwise (SameOrder x y) xs ys → Matched xs ys → Matched (cond v (x ∷ xs) xs) (cond v (y ∷ ys) ys)
matched_choice true x y xs ys a o m = (a, o, m)
matched_choice false x y xs ys a o m = m

pub matched_filter : (p q : Record → Bool) (xs ys : List Record) → Pairwise (λ x y. p x ≡ q y) xs ys → Matched xs ys → Matched (filter p xs) (filter q ys)
matched_filter p q [] [] e m = tt
matched_filter p q (x ∷ xs) (y ∷ ys) e m = rw e.0 (matched_choice (q y) x y (filter p xs) (filter q ys) m.0 (pairwise_filter (SameOrder x y) p q xs ys e.1 m.1) (matched_filter p q xs ys e.1 m.2))
matched_filter p q [] (y ∷ ys) e m = absurd m
matched_filter p q (x ∷ xs) [] e m = absurd m

-- ---- sorting
pairwise_either : (R : Record → Record → Type 0) (v : Bool) (ks bs cs ds : List Record) → Pairwise R ks bs → Pairwise R cs ds → Pairwise R (cond v ks cs) (cond v bs ds)
pairwise_either R true ks bs cs ds r s = r
pairwise_either R false ks bs cs ds r s = s

pub pairwise_inserted : (R : Record → Record → Type 0) (x y : Record) (xs ys : List Record) → R x y → Pairwise R xs ys → Pairwise (SameOrder x y) xs ys → Pairwise R (inserted x xs) (inserted y ys)
pairwise_inserted R x y [] [] r s o = (r, tt)
pairwise_inserted R x y (a ∷ xs) (b ∷ ys) r s o =
    rw o.0.ahead (pairwise_either R (stands_before y b) (x ∷ a ∷ xs) (y ∷ b ∷ ys) (a ∷ inserted x xs) (b ∷ inserted y ys) (r, s) (s.0, pairwise_inserted R x y xs ys r s.1 o.1))
pairwise_inserted R x y [] (b ∷ ys) r s o = absurd s
pairwise_inserted R x y (a ∷ xs) [] r s o = absurd s

pub pairwise_sorted : (R : Record → Record → Type 0) (xs ys : List Record) → Matched xs ys → Pairwise R xs ys → Pairwise R (sorted xs) (sorted ys)
pairwise_sorted R [] [] m r = tt
pairwise_sorted R (x ∷ xs) (y ∷ ys) m r = pairwise_inserted R x y (sorted xs) (sorted ys) r.0 (pairwise_sorted R xs ys m.2 r.1) (pairwise_sorted (SameOrder x y) xs ys m.2 m.1)
pairwise_sorted R [] (y ∷ ys) m r = absurd m
pairwise_sorted R (x ∷ xs) [] m r = absurd m

pub same_cells : (xs ys : List Record) → Pairwise Alike xs ys → map cell_of xs ≡ map cell_of ys
same_cells [] [] r = refl
same_cells (x ∷ xs) (y ∷ ys) r = λ i. record { key = r.0.key i; value = r.0.value i } ∷ same_cells xs ys r.1 i
same_cells [] (y ∷ ys) r = absurd r
same_cells (x ∷ xs) [] r = absurd r

-- ---- what is kept
same_hides : (m k u w : Record) → Alike m k → Alike u w → hides m u ≡ hides k w
unfolding hides
same_hides m k u w a c = λ i. not (is_put (a.kind i)) && same_column (a.key i) (c.key i) && int_le ((c.key i).timestamp) ((a.key i).timestamp)

same_deleted : (xs ys : List Record) (u w : Record) → Pairwise Alike xs ys → Alike u w → is_deleted xs u ≡ is_deleted ys w
unfolding is_deleted
same_deleted [] [] u w r a = refl
same_deleted (x ∷ xs) (y ∷ ys) u w r a = λ i. same_hides x y u w r.0 a i || same_deleted xs ys u w r.1 a i
same_deleted [] (y ∷ ys) u w r a = absurd r
same_deleted (x ∷ xs) [] u w r a = absurd r

same_length : (R : Record → Record → Type 0) (xs ys : List Record) → Pairwise R xs ys → length xs ≡ length ys
same_length R [] [] r = refl
same_length R (x ∷ xs) (y ∷ ys) r = ap suc (same_length R xs ys r.1)
same_length R [] (y ∷ ys) r = absurd r
same_length R (x ∷ xs) [] r = absurd r

same_count : (p q : Record → Bool) (xs ys : List Record) → Pairwise Alike xs ys → Pairwise (λ x y. p x ≡ q y) xs ys → length (filter p xs) ≡ length (filter q ys)
same_count p q xs ys r e = same_length Alike _ _ (pairwise_filter Alike p q xs ys e r)

-- each pair stands to each pair alike
pub every_order : (xs ys : List Record) → Matched xs ys → Pairwise (λ u w. Pairwise (SameOrder u w) xs ys) xs ys
every_order [] [] m = tt
every_order (x ∷ xs) (y ∷ ys) m =
    let itself : stands_before x x ≡ stands_before y y = not_before_itself x ∙ sym (not_before_itself y) in
    let others : Pairwise (λ u w. Pairwise (SameOrder u w) xs ys) xs ys = every_order xs ys m.2 in
    ((record { ahead = itself; behind = itself }, m.1), pairwise_zip (SameOrder x y) (λ u w. Pairwise (SameOrder u w) xs ys) (λ u w. Pairwise (SameOrder u w) (x ∷ xs) (y ∷ ys)) (λ u w o s. (record { ahead = o.behind; behind = o.ahead }, s)) xs ys m.1 others)
every_order [] (y ∷ ys) m = absurd m
every_order (x ∷ xs) [] m = absurd m

same_kept : (xs ys : List Record) (n : ℕ) → Pairwise Alike xs ys → (u w : Record) → Alike u w → Pairwise (SameOrder u w) xs ys → is_kept xs n u ≡ is_kept ys n w
unfolding is_kept outranks
same_kept xs ys n all u w a o =
    let counts : length (filter (outranks xs u) xs) ≡ length (filter (outranks ys w) ys) = same_count (outranks xs u) (outranks ys w) xs ys all (pairwise_zip Alike (SameOrder u w) (λ v z. outranks xs u v ≡ outranks ys w z)
    (λ v z e s. λ i. is_put (e.kind i) && same_column (e.key i) (a.key i) && not (same_deleted xs ys v z all e i) && s.behind i) xs ys all o) in
    λ i. is_put (a.kind i) && not (same_deleted xs ys u w all a i) && nat_lt (counts i) n

-- so matched updates have the same answer
pub cells_matched : (xs ys : List Record) (n : ℕ) (q : Query) → Matched xs ys → cells xs n q ≡ cells ys n q
unfolding cells
cells_matched xs ys n q m =
    let alike : Pairwise Alike xs ys = matched_alike xs ys m in
    let kept : Pairwise (λ u w. is_shown xs n q u ≡ is_shown ys n q w) xs ys = pairwise_zip Alike (λ u w. Pairwise (SameOrder u w) xs ys) (λ u w. is_shown xs n q u ≡ is_shown ys n q w)
    (λ u w a o. λ i. matches q (a.key i) && same_kept xs ys n alike u w a o i) xs ys alike (every_order xs ys m) in
    same_cells _ _ (pairwise_sorted Alike _ _ (matched_filter (is_shown xs n q) (is_shown ys n q) xs ys kept m) (pairwise_filter Alike (is_shown xs n q) (is_shown ys n q) xs ys kept alike))

-- a newer record stands to an older one as another newer one to another older one
pub newer_same : (x y a b : Record) → Alike x y → Alike a b → IsNewer x a → IsNewer y b → SameOrder x y a b
unfolding place_cmp
newer_same x y a b e f p q = record {
  ahead = ap (λ r. is_lt (ordering_then (place_cmp x a) r)) (newer_first x a p) ∙ (λ i. is_lt (ordering_then (ordering_then (key_cmp (e.key i) (f.key i)) (nat_cmp (kind_rank (e.kind i)) (kind_rank (f.kind i)))) Less)) ∙ sym (ap (λ r. is_lt (ordering_then (place_cmp y b) r)) (newer_first y b q));
  behind = ap (λ r. is_lt (ordering_then (place_cmp a x) r)) (older_last x a p) ∙ (λ i. is_lt (ordering_then (ordering_then (key_cmp (f.key i) (e.key i)) (nat_cmp (kind_rank (f.kind i)) (kind_rank (e.kind i)))) Greater)) ∙ sym (ap (λ r. is_lt (ordering_then (place_cmp b y) r)) (older_last y b q));
}
