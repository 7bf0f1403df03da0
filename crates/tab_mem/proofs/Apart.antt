-- Records that lie parted by their rows.
use Rattle.std.proofs.Common.{◌≡◌, ◌⊎◌, inl, inr, ℕ, zero, suc, ◌+◌, ◌<◌, ◌≤◌, List, [], ◌∷◌, ◌++◌, refl, sym, ◌∙◌, ap, subst, length, take, drop, ◌-◌, arith, append_assoc, append-nil, get_or, set}
use Rattle.std.specs.Prelude.{nat_lt, ⊤, Result, Ok, Err, OnOk, OnErr}
use Rattle.std.specs.List.{AllByRecursion, slice_range}
use Rattle.std.specs.List.Sorted.{IsPermutation}
use Rattle.std.specs.Ordering.{nat_cmp}
use Rattle.std.specs.declared.cmp.Ordering.TheVariants.{Less, Equal}
use Rattle.std.proofs.lemmas.Bool.Decides.{nat_tests}
use Rattle.std.proofs.lemmas.List.{take_more, length-set}
use Rattle.std.proofs.lemmas.List.Sorted.{IsPermutation-trans, IsPermutation-append_left, IsPermutation-append_right, IsPermutation-append_comm}
use Rattle.tab_key.specs.Bytes.{bytes_cmp}
use Rattle.tab_key.specs.Order.{record_cmp}
use Rattle.tab_key.specs.Records.{Record}
use Rattle.tab_key.specs.RowPrefix.{padded, IsRowPrefix}
use Rattle.tab_key.specs.Sorted.{sorted, IsDistinct, IsIn}
use Rattle.tab_key.proofs.RowPrefix.{prefix_orders}
use Rattle.tab_cells.specs.Written.{TimedUpdate, records_of}
use Rattle.tab_cells.proofs.Lists.{by_bool, in_append}
use Rattle.tab_iter.specs.Bags.{flat}
use Rattle.tab_iter.proofs.BagLaws.{apart_right, apart_join}
use Rattle.tab_mem.specs.Numbers.{count_below}
use Rattle.tab_mem.specs.Partitions.{row_number, place_of, IsPlaced, ArePlaced, ArePartitions}
use Rattle.tab_mem.proofs.Columned.{lower_row}
use Rattle.tab_mem.proofs.Regrouped.{sorted_apart}
use Rattle.tab_mem.proofs.Searched.{below_within, below_rises}

-- ---- rows in their places
pub placed_by : (lows : List ℕ) (place : ℕ) (row : List ℕ) (number : ℕ) → place ≡ count_below number lows → IsRowPrefix number row → IsPlaced lows place row
placed_by lows place row number at p = record { at = ap (λ n. count_below n lows) (sym p.value) ∙ sym at; bytes = λ some. p.bytes }

record IsBeyond (lows : List ℕ) (place : ℕ) (row : List ℕ) : Type 0 where
  pub at : place ≤ place_of lows row
  pub bytes : 0 < length lows → AllByRecursion (λ b. b < 256) (padded 16 row)

beyond : (lows : List ℕ) (place : ℕ) (wss : List (List Record)) → ArePlaced lows place wss → (y : Record) → IsIn (flat wss) y → IsBeyond lows place y.key.row
beyond lows place [] a y h = absurd h
beyond lows place (us ∷ wss) a y h = go (in_append us (flat wss) y h) (beyond lows (suc place) wss a.1 y)
  where
    go : IsIn us y ⊎ IsIn (flat wss) y → (IsIn (flat wss) y → IsBeyond lows (suc place) y.key.row) → IsBeyond lows place y.key.row
    go (inl k) ih = let p = a.0 y k in record { at = omega (arith, p.at); bytes = p.bytes }
    go (inr k) ih = let b = ih k in record { at = omega (arith, b.at); bytes = b.bytes }

less_number : (m n : ℕ) → m < n → nat_cmp m n ≡ Less
less_number m n lt = grind (arith, nat_tests)

-- rows of a greater place stand behind
across : (lows : List ℕ) (place : ℕ) (a b : List ℕ) → IsPlaced lows place a → IsBeyond lows (suc place) b → bytes_cmp a b ≡ Less
across lows place a b p q =
    let some : 0 < length lows = omega (arith, q.at, below_within (row_number b) lows) in
    let lt : row_number a < row_number b = less (row_number a) (row_number b) p.at q.at in
    sym (prefix_orders a b (row_number a) (row_number b) Less (record { value = refl; bytes = p.bytes some }) (record { value = refl; bytes = q.bytes some }) (less_number (row_number a) (row_number b) lt) (λ e. cc))
  where
    less : (m n : ℕ) → count_below m lows ≡ place → suc place ≤ count_below n lows → m < n
    less m n at more =
        by_bool (nat_lt m n)
        (λ t. grind (arith, nat_tests, t))
        (λ f. let le : n ≤ m = grind (arith, nat_tests, f) in absurd (omega (arith, at, more, below_rises n m lows le)))

pub rows_rise : (lows : List ℕ) (place : ℕ) (us : List Record) (wss : List (List Record)) → ArePlaced lows place (us ∷ wss) → (x y : Record) → IsIn us x → IsIn (flat wss) y → record_cmp x y ≡ Less
rows_rise lows place us wss a x y h k = lower_row x y (across lows place x.key.row y.key.row (a.0 x h) (beyond lows (suc place) wss a.1 y k))

-- ---- a body whose records are put behind others, but for some that are left
pub record IsDrained (lows : List ℕ) (place : ℕ) (wss : List (List Record)) (rs now : List Record) (left : List (List Record)) : Type 0 where
  pub kept : now ++ sorted (flat left) ≡ rs ++ sorted (flat wss)
  pub distinct : IsDistinct (flat left)
  pub placed : ArePlaced lows place left

pub drained : (lows : List ℕ) (place : ℕ) (us left : List Record) (wss : List (List Record)) (rs now : List Record) → ArePlaced lows place (us ∷ wss) → IsDistinct (us ++ flat wss) → ((u : Record) → IsIn left u → IsIn us u) → IsDistinct left → now ++ sorted left ≡ rs ++ sorted us → IsDrained lows place (us ∷ wss) rs now (left ∷ wss)
drained lows place us left wss rs now a d within own k =
    let placed : ArePlaced lows place (left ∷ wss) = ((λ u h. a.0 u (within u h)), a.1) in
    let apart : IsDistinct (left ++ flat wss) = apart_join left (flat wss) own (apart_right us (flat wss) d)
    (λ x y h m e. let bad : Less ≡ Equal = sym (rows_rise lows place left wss placed x y h m) ∙ e in cc) in
    record {
      kept =
          ap (λ l. now ++ l) (sorted_apart left (flat wss) apart (rows_rise lows place left wss placed))
          ∙ sym (append_assoc now (sorted left) (sorted (flat wss)))
          ∙ ap (λ l. l ++ sorted (flat wss)) k
          ∙ append_assoc rs (sorted us) (sorted (flat wss))
          ∙ ap (λ l. rs ++ l) (sym (sorted_apart us (flat wss) d (rows_rise lows place us wss a)));
      distinct = apart;
      placed = placed;
    }

-- .. where those before it are empty
pub drained_at : (lows : List ℕ) (place i : ℕ) (wss : List (List Record)) (g left rs now : List Record) → ArePlaced lows place wss → IsDistinct (flat wss) → flat (take i wss) ≡ [] → i < length wss → g ≡ get_or wss i g → ((u : Record) → IsIn left u → IsIn g u) → IsDistinct left → now ++ sorted left ≡ rs ++ sorted g → IsDrained lows place wss rs now (set wss i left)
drained_at lows place i [] g left rs now a d none lt is within own k = absurd (omega (arith, lt))
drained_at lows place zero (us ∷ wss) g left rs now a d none lt is within own k =
    drained lows place us left wss rs now a d (λ u h. subst (λ (l : List Record). IsIn l u) is (within u h)) own (k ∙ ap (λ l. rs ++ sorted l) is)
drained_at lows place (suc i) (us ∷ wss) g left rs now a d none lt is within own k =
    let first : us ≡ [] = nil_left us (flat (take i wss)) none in
    let others : flat (take i wss) ≡ [] = nil_right us (flat (take i wss)) none in
    let inner : IsDrained lows (suc place) wss rs now (set wss i left) = drained_at lows (suc place) i wss g left rs now a.1 (apart_right us (flat wss) d) others (omega (arith, lt)) is within own k in
    record {
      kept = ap (λ (l : List Record). now ++ sorted (l ++ flat (set wss i left))) first ∙ inner.kept ∙ ap (λ (l : List Record). rs ++ sorted (l ++ flat wss)) (sym first);
      distinct = subst (λ (l : List Record). IsDistinct (l ++ flat (set wss i left))) (sym first) inner.distinct;
      placed = (a.0, inner.placed);
    }
  where
    nil_left : (xs ys : List Record) → xs ++ ys ≡ [] → xs ≡ []
    nil_left [] ys e = refl
    nil_left (x ∷ xs) ys e = absurd cc

    nil_right : (xs ys : List Record) → xs ++ ys ≡ [] → ys ≡ []
    nil_right [] ys e = e
    nil_right (x ∷ xs) ys e = absurd cc

-- then one more is empty
pub emptied : (wss : List (List Record)) (i : ℕ) (left : List Record) → flat (take i wss) ≡ [] → i < length wss → left ≡ [] → flat (take (i + 1) (set wss i left)) ≡ []
emptied [] i left none lt e = absurd (omega (arith, lt))
emptied (us ∷ wss) zero left none lt e = append-nil left ∙ e
emptied (us ∷ wss) (suc i) left none lt e =
    let next : suc i + 1 ≡ suc (i + 1) = omega arith in
    ap (λ k. flat (take k (us ∷ set wss i left))) next ∙ go us none (λ n. emptied wss i left n (omega (arith, lt)) e)
  where
    go : (xs : List Record) → xs ++ flat (take i wss) ≡ [] → (flat (take i wss) ≡ [] → flat (take (i + 1) (set wss i left)) ≡ []) → xs ++ flat (take (i + 1) (set wss i left)) ≡ []
    go [] n ih = ih n
    go (x ∷ xs) n ih = absurd cc

-- ---- records of one row, put in its place
pub record WentIn (lows : List ℕ) (place : ℕ) (wss : List (List Record)) (us : List Record) (now : List (List Record)) : Type 0 where
  pub moved : IsPermutation (flat wss ++ us) (flat now)
  pub placed : ArePlaced lows place now

pub went_in : (lows : List ℕ) (place i : ℕ) (wss : List (List Record)) (row : List ℕ) (us g q : List Record) → ((u : Record) → IsIn us u → u.key.row ≡ row) → IsPlaced lows (place + i) row → i < length wss → g ≡ get_or wss i g → q ≡ g ++ us → ArePlaced lows place wss → WentIn lows place wss us (set wss i q)
went_in lows place i [] row us g q own p lt is more a = absurd (omega (arith, lt))
went_in lows place zero (w ∷ wss) row us g q own p lt is more a =
    let grown : q ≡ w ++ us = more ∙ ap (λ l. l ++ us) is in
    let first : place + 0 ≡ place = omega arith in
    let here : IsPlaced lows place row = subst (λ n. IsPlaced lows n row) first p in
    record {
      moved = subst (λ (l : List Record). IsPermutation ((w ++ flat wss) ++ us) (l ++ flat wss)) (sym grown)
          (subst (λ (l : List Record). IsPermutation l ((w ++ us) ++ flat wss)) (sym (append_assoc w (flat wss) us))
          (subst (IsPermutation (w ++ (flat wss ++ us))) (sym (append_assoc w us (flat wss))) (IsPermutation-append_right w (flat wss ++ us) (us ++ flat wss) (IsPermutation-append_comm (flat wss) us))));
      placed = ((λ u h. go u here (in_append w us u (subst (λ (l : List Record). IsIn l u) grown h))), a.1);
    }
  where
    go : (u : Record) → IsPlaced lows place row → IsIn w u ⊎ IsIn us u → IsPlaced lows place u.key.row
    go u here (inl k) = a.0 u k
    go u here (inr k) = subst (IsPlaced lows place) (sym (own u k)) here
went_in lows place (suc i) (w ∷ wss) row us g q own p lt is more a =
    let far : place + suc i ≡ suc place + i = omega arith in
    let inner : WentIn lows (suc place) wss us (set wss i q) = went_in lows (suc place) i wss row us g q own (subst (λ n. IsPlaced lows n row) far p) (omega (arith, lt)) is more a.1 in
    record {
      moved = subst (λ (l : List Record). IsPermutation l (w ++ flat (set wss i q))) (sym (append_assoc w (flat wss) us)) (IsPermutation-append_right w (flat wss ++ us) (flat (set wss i q)) inner.moved);
      placed = (a.0, inner.placed);
    }

pub rows_of : (seq : ℕ) (row : List ℕ) (ps : List TimedUpdate) (u : Record) → IsIn (records_of seq row ps) u → u.key.row ≡ row
unfolding records_of
rows_of seq row [] u h = absurd h
rows_of seq row (p ∷ ps) u (inl e) = sym (ap (λ (r : Record). r.key.row) e)
rows_of seq row (p ∷ ps) u (inr h) = rows_of seq row ps u h

-- ---- partitions without records
pub none_in : (wss : List (List Record)) → AllByRecursion (λ us. us ≡ []) wss → flat wss ≡ []
none_in [] a = refl
none_in (us ∷ wss) a = λ i. a.0 i ++ none_in wss a.1 i

pub none_placed : (lows : List ℕ) (place : ℕ) (wss : List (List Record)) → AllByRecursion (λ us. us ≡ []) wss → ArePlaced lows place wss
none_placed lows place [] a = tt
none_placed lows place (us ∷ wss) a = ((λ u h. absurd (subst (λ (l : List Record). IsIn l u) a.0 h)), none_placed lows (suc place) wss a.1)

-- one body alone, whatever is in it
pub alone_placed : (us : List Record) → ArePlaced [] 0 (us ∷ [])
alone_placed us = ((λ u h. record { at = refl; bytes = λ some. absurd (omega (arith, some)) }), tt)

-- what is put back where it was
pub put_back : (wss : List (List Record)) (i : ℕ) (g now : List Record) → g ≡ get_or wss i g → now ≡ g → set wss i now ≡ wss
put_back [] i g now is e = refl
put_back (w ∷ wss) zero g now is e = ap (λ l. l ∷ wss) (e ∙ is)
put_back (w ∷ wss) (suc i) g now is e = ap (λ l. w ∷ l) (put_back wss i g now is e)

-- ---- a call that puts records of one row in their place, whether they went in or not
pub record IsPut {E : Type 0} (r : Result ⊤ E) (lows : List ℕ) (lowest : List Record) (higher : List (List Record)) (us now : List Record) (after : List (List Record)) : Type 0 where
  pub moved : OnOk r (IsPermutation ((lowest ++ flat higher) ++ us) (now ++ flat after))
  pub parted : ArePartitions lows now after

pub lowest_put : {E : Type 0} (r : Result ⊤ E) (lows : List ℕ) (lowest : List Record) (higher : List (List Record)) (row : List ℕ) (us now : List Record) (place : ℕ) → ArePartitions lows lowest higher → ((u : Record) → IsIn us u → u.key.row ≡ row) → IsPlaced lows place row → place ≡ 0 → OnOk r (now ≡ lowest ++ us) → OnErr r (now ≡ lowest) → IsPut r lows lowest higher us now higher
lowest_put (Ok x) lows lowest higher row us now place a own p none ok err =
    let w = went_in lows 0 0 (lowest ∷ higher) row us lowest now own (subst (λ n. IsPlaced lows n row) none p) (omega arith) refl ok a.placed in
    record { moved = w.moved; parted = record { many = a.many; few = a.few; rising = a.rising; placed = w.placed } }
lowest_put (Err e) lows lowest higher row us now place a own p none ok err =
    record { moved = tt; parted = subst (λ (l : List Record). ArePartitions lows l higher) (sym err) a }

pub higher_put : {E : Type 0} (r : Result ⊤ E) (lows : List ℕ) (lowest : List Record) (higher : List (List Record)) (row : List ℕ) (us g now : List Record) (place : ℕ) → ArePartitions lows lowest higher → ((u : Record) → IsIn us u → u.key.row ≡ row) → IsPlaced lows place row → 0 < place → place ≤ length lows → g ≡ get_or higher (place - 1) g → OnOk r (now ≡ g ++ us) → OnErr r (now ≡ g) → IsPut r lows lowest higher us lowest (set higher (place - 1) now)
higher_put (Ok x) lows lowest higher row us g now place a own p some few is ok err =
    let there : place ≡ suc (place - 1) = omega (arith, some) in
    let w = went_in lows 0 (suc (place - 1)) (lowest ∷ higher) row us g now own (subst (λ n. IsPlaced lows n row) (there ∙ omega arith) p) (omega (arith, some, few, a.many)) is ok a.placed in
    record { moved = w.moved; parted = record { many = length-set higher (place - 1) now ∙ a.many; few = a.few; rising = a.rising; placed = w.placed } }
higher_put (Err e) lows lowest higher row us g now place a own p some few is ok err =
    record { moved = tt; parted = subst (ArePartitions lows lowest) (sym (put_back higher (place - 1) g now is err)) a }

-- ---- one record after another
slice_at : (rs : List Record) (i : ℕ) (d : Record) → i < length rs → slice_range rs i (i + 1) ≡ get_or rs i d ∷ []
slice_at rs i d lt = let one : (i + 1) - i ≡ suc zero = omega arith in ap (λ n. take n (drop i rs)) one ∙ behind rs i lt
  where
    behind : (xs : List Record) (k : ℕ) → k < length xs → take (suc zero) (drop k xs) ≡ get_or xs k d ∷ []
    behind [] k lt = absurd (omega (arith, lt))
    behind (x ∷ xs) zero lt = refl
    behind (x ∷ xs) (suc k) lt = behind xs k (omega (arith, lt))

pub own_one : (rs : List Record) (i : ℕ) (r : Record) → i < length rs → r ≡ get_or rs i r → (u : Record) → IsIn (slice_range rs i (i + 1)) u → u.key.row ≡ r.key.row
own_one rs i r lt is u h = go (subst (λ (l : List Record). IsIn l u) (slice_at rs i r lt ∙ ap (λ (x : Record). x ∷ []) (sym is)) h)
  where
    go : IsIn (r ∷ []) u → u.key.row ≡ r.key.row
    go (inl e) = ap (λ (v : Record). v.key.row) (sym e)
    go (inr k) = absurd k

take_next : (rs : List Record) (i : ℕ) → i < length rs → take (i + 1) rs ≡ take i rs ++ slice_range rs i (i + 1)
take_next [] i lt = absurd (omega (arith, lt))
take_next (r ∷ rs) i lt = take_more (r ∷ rs) i r lt ∙ ap (λ l. take i (r ∷ rs) ++ l) (sym (slice_at (r ∷ rs) i r lt))

pub moved_next : (all rs cur now : List Record) (i : ℕ) → i < length rs → IsPermutation (all ++ take i rs) cur → IsPermutation (cur ++ slice_range rs i (i + 1)) now → IsPermutation (all ++ take (i + 1) rs) now
moved_next all rs cur now i lt m n =
    let one = slice_range rs i (i + 1) in
    let seen : all ++ take (i + 1) rs ≡ (all ++ take i rs) ++ one = ap (λ l. all ++ l) (take_next rs i lt) ∙ sym (append_assoc all (take i rs) one) in
    subst (λ (l : List Record). IsPermutation l now) (sym seen)
    (IsPermutation-trans ((all ++ take i rs) ++ one) (cur ++ one) now (IsPermutation-append_left one (all ++ take i rs) cur m) n)
