-- Lists that have a record at a key or behind it.
use Rattle.std.proofs.Common.{◌≡◌, ◌≢◌, inl, inr, ℕ, zero, suc, ◌+◌, ◌-◌, ◌<◌, ◌≤◌, List, [], ◌∷◌, ◌++◌, Bool, true, false, not, cond, ◌||◌, refl, sym, ◌∙◌, ap, length, drop, arith, append-nil}
use Rattle.std.specs.Prelude.{is_some, slice_index_or}
use Rattle.std.specs.List.{AllByRecursion}
use Rattle.std.specs.Ordering.{is_lt}
use Rattle.std.proofs.lemmas.List.{get_or_default}
use mathlib.Core.Bool.{true≢false}
use Rattle.tab_key.specs.Order.{key_cmp}
use Rattle.tab_key.specs.Records.{Key, Record}
use Rattle.tab_key.specs.Sorted.{IsIn}
use Rattle.tab_key.proofs.Rising.{in_from}
use Rattle.tab_cells.proofs.Lists.{by_bool, in_left, in_right}
use Rattle.tab_iter.specs.Bags.{flat}
use Rattle.tab_iter.specs.Lists.{first_of, from_key, IsRising}
use Rattle.tab_iter.proofs.ListLaws.{key_before, first_less, later_rises, rising_end}
use Rattle.tab_mem.specs.Lists.{part}
use Rattle.tab_mem.proofs.Parts.{part_rises}
use Rattle.tab_version.specs.InTurn.{reaches}
use Rattle.tab_version.proofs.PartsByIndex.{length_part, part_at}

-- ---- a list that doesn't begin at the key or behind it
not_first : (k : Key) (u : Record) (us : List Record) (v : Bool) → is_lt (key_cmp u.key k) ≡ true → reaches k (u ∷ us) ≡ v → reaches k us ≡ v
not_first k u us v t e = ap (λ b. not b || reaches k us) (sym t) ∙ e

first_reaches : (k : Key) (u : Record) (us : List Record) → is_lt (key_cmp u.key k) ≡ false → reaches k (u ∷ us) ≡ true
first_reaches k u us f = ap (λ b. not b || reaches k us) f

-- ---- what a seek leaves of lists one behind the other
from_key_none : (k : Key) (us rest : List Record) → reaches k us ≡ false → from_key k (us ++ rest) ≡ from_key k rest
from_key_none k [] rest e = refl
from_key_none k (u ∷ us) rest e = by_bool (is_lt (key_cmp u.key k))
    (λ t. ap (λ v. cond v (from_key k (us ++ rest)) (u ∷ (us ++ rest))) t ∙ from_key_none k us rest (not_first k u us false t e))
    (λ f. absurd (true≢false (sym (first_reaches k u us f) ∙ e)))

from_key_some : (k : Key) (us rest : List Record) → reaches k us ≡ true → from_key k (us ++ rest) ≡ from_key k us ++ rest
from_key_some k [] rest e = absurd (true≢false (sym e))
from_key_some k (u ∷ us) rest e = by_bool (is_lt (key_cmp u.key k))
    (λ t. ap (λ v. cond v (from_key k (us ++ rest)) (u ∷ (us ++ rest))) t ∙ from_key_some k us rest (not_first k u us true t e) ∙ ap (λ v. cond v (from_key k us) (u ∷ us) ++ rest) (sym t))
    (λ f. ap (λ v. cond v (from_key k (us ++ rest)) (u ∷ (us ++ rest))) f ∙ ap (λ v. cond v (from_key k us) (u ∷ us) ++ rest) (sym f))

pub reached_some : (k : Key) (us : List Record) → reaches k us ≡ true → from_key k us ≢ []
reached_some k [] e n = true≢false (sym e)
reached_some k (u ∷ us) e n = by_bool (is_lt (key_cmp u.key k))
    (λ t. reached_some k us (not_first k u us true t e) (ap (λ v. cond v (from_key k us) (u ∷ us)) (sym t) ∙ n))
    (λ f. true≢false (ap (λ v. is_some (first_of (cond v (from_key k us) (u ∷ us)))) (sym f) ∙ ap (λ l. is_some (first_of l)) n))

pub sought : (k : Key) (xss : List (List Record)) (at : ℕ) → at < length xss → ((i : ℕ) → i < at → reaches k (slice_index_or xss i []) ≡ false) → (at + 1 < length xss → reaches k (slice_index_or xss at []) ≡ true) → from_key k (slice_index_or xss at []) ++ flat (drop (at + 1) xss) ≡ from_key k (flat xss)
sought k [] at lt passed found = absurd (omega (arith, lt))
sought k (xs ∷ []) zero lt passed found = append-nil (from_key k xs) ∙ ap (from_key k) (sym (append-nil xs))
sought k (xs ∷ ys ∷ xss) zero lt passed found = sym (from_key_some k xs (flat (ys ∷ xss)) (found (omega arith)))
sought k (xs ∷ xss) (suc at) lt passed found =
    let more : suc at + 1 ≡ suc (at + 1) = omega arith in
    ap (λ n. from_key k (slice_index_or xss at []) ++ flat (drop n (xs ∷ xss))) more
    ∙ sought k xss at (omega (arith, lt)) (λ i less. passed (suc i) (omega arith)) (λ less. found (omega arith))
    ∙ sym (from_key_none k xs (flat xss) (passed 0 (omega arith)))

-- ---- what reaches a key in a rising list
reaches_by : (k : Key) (us : List Record) (u : Record) → IsIn us u → is_lt (key_cmp u.key k) ≡ false → reaches k us ≡ true
reaches_by k [] u h f = absurd h
reaches_by k (x ∷ us) u (inl e) f = first_reaches k x us (ap (λ (r : Record). is_lt (key_cmp r.key k)) e ∙ f)
reaches_by k (x ∷ us) u (inr h) f = ap (λ b. not (is_lt (key_cmp x.key k)) || b) (reaches_by k us u h f) ∙ or_true (not (is_lt (key_cmp x.key k)))
  where
    or_true : (v : Bool) → (v || true) ≡ true
    or_true true = refl
    or_true false = refl

-- so does each record behind one that does
later_reaches : (k : Key) (us : List Record) (u : Record) (rest : List Record) → IsRising (us ++ rest) → IsIn rest u → reaches k us ≡ true → is_lt (key_cmp u.key k) ≡ false
later_reaches k [] u rest up h e = absurd (true≢false (sym e))
later_reaches k (x ∷ us) u rest up h e = by_bool (is_lt (key_cmp x.key k))
    (λ t. later_reaches k us u rest (later_rises x (us ++ rest) up) h (not_first k x us true t e))
    (λ f. by_bool (is_lt (key_cmp u.key k)) (λ t. absurd (true≢false (sym (key_before x u k (first_less x (us ++ rest) up u (in_right us rest u h)) t) ∙ f))) (λ t. t))

in_at : (us : List Record) (n : ℕ) (u : Record) → n < length us → IsIn us (slice_index_or us n u)
in_at us n u lt = in_from us (slice_index_or us n u) (n, lt, get_or_default us n (slice_index_or us n u) u lt)

-- of a rising list the last record tells it
last_reaches : (k : Key) (us : List Record) (n : ℕ) (u : Record) → IsRising us → length us ≡ n + 1 → reaches k us ≡ not (is_lt (key_cmp (slice_index_or us n u).key k))
last_reaches k [] n u up e = absurd (omega (arith, e))
last_reaches k (x ∷ []) zero u up e = or_false (not (is_lt (key_cmp x.key k)))
  where
    or_false : (v : Bool) → (v || false) ≡ v
    or_false true = refl
    or_false false = refl
last_reaches k (x ∷ []) (suc n) u up e = absurd (omega (arith, e))
last_reaches k (x ∷ y ∷ ys) zero u up e = absurd (omega (arith, e))
last_reaches k (x ∷ y ∷ ys) (suc n) u up e =
    let last : Record = slice_index_or (y ∷ ys) n u in
    let inside : n < length (y ∷ ys) = omega (arith, e) in
    by_bool (is_lt (key_cmp x.key k))
    (λ t. ap (λ b. not b || reaches k (y ∷ ys)) t ∙ last_reaches k (y ∷ ys) n u (later_rises x (y ∷ ys) up) (omega (arith, e)))
    (λ f. first_reaches k x (y ∷ ys) f ∙ ap not (sym (later_reaches k (x ∷ []) last (y ∷ ys) up (in_at (y ∷ ys) n u inside) (first_reaches k x [] f))))

part_last : (k : Key) (from end n : ℕ) (rs : List Record) (u : Record) → IsRising rs → end ≡ from + n + 1 → end ≤ length rs → reaches k (part from end rs) ≡ not (is_lt (key_cmp (slice_index_or rs (from + n) u).key k))
part_last k from end n rs u up e le =
    let many : length (part from end rs) ≡ n + 1 = omega (arith, length_part from end rs le, e) in
    let inside : from + n < end = omega (arith, e) in
    last_reaches k (part from end rs) n u (part_rises from end rs up) many
    ∙ ap (λ (r : Record). not (is_lt (key_cmp r.key k))) (part_at from end rs n u inside)

part_reaches : (k : Key) (from end : ℕ) (rs : List Record) (u : Record) → IsRising rs → from < end → end ≤ length rs → reaches k (part from end rs) ≡ not (is_lt (key_cmp (slice_index_or rs (end - 1) u).key k))
part_reaches k from end rs u up lt le =
    let last : from + (end - from - 1) ≡ end - 1 = omega (arith, lt) in
    part_last k from end (end - from - 1) rs u up (omega (arith, lt)) le
    ∙ ap (λ i. not (is_lt (key_cmp (slice_index_or rs i u).key k))) last

-- of a part the last record tells it
pub reaches_by_last : (k : Key) (from end : ℕ) (rs : List Record) (b : Bool) → IsRising rs → from < end → end ≤ length rs → ((u : Record) → b ≡ is_lt (key_cmp (slice_index_or rs (end - 1) u).key k)) → not b ≡ reaches k (part from end rs)
reaches_by_last k from end [] b up lt le f = absurd (omega (arith, lt, le))
reaches_by_last k from end (r ∷ rs) b up lt le f = ap not (f r) ∙ sym (part_reaches k from end (r ∷ rs) r up lt le)

-- ---- of lists one behind the other, those behind one that reaches the key do
some_in : (us : List Record) → us ≢ [] → (u : Record) × IsIn us u
some_in [] n = absurd (n refl)
some_in (u ∷ us) n = (u, inl refl)

in_flat : (xss : List (List Record)) (n : ℕ) (u : Record) → IsIn (slice_index_or xss n []) u → IsIn (flat xss) u
in_flat [] n u h = absurd h
in_flat (xs ∷ xss) zero u h = in_left xs (flat xss) u h
in_flat (xs ∷ xss) (suc n) u h = in_right xs (flat xss) u (in_flat xss n u h)

pub filled_here : (xss : List (List Record)) → AllByRecursion (λ (xs : List Record). xs ≢ []) xss → (n : ℕ) → n < length xss → slice_index_or xss n [] ≢ []
filled_here [] f n lt = absurd (omega (arith, lt))
filled_here (xs ∷ xss) f zero lt = f.0
filled_here (xs ∷ xss) f (suc n) lt = filled_here xss f.1 n (omega (arith, lt))

pub later_lists : (k : Key) (xss : List (List Record)) → IsRising (flat xss) → AllByRecursion (λ (xs : List Record). xs ≢ []) xss → (i j : ℕ) → i ≤ j → j < length xss → reaches k (slice_index_or xss i []) ≡ true → reaches k (slice_index_or xss j []) ≡ true
later_lists k [] up f i j le lt e = absurd (omega (arith, lt))
later_lists k (xs ∷ xss) up f zero zero le lt e = e
later_lists k (xs ∷ xss) up f zero (suc j) le lt e =
    let first = some_in (slice_index_or xss j []) (filled_here xss f.1 j (omega (arith, lt))) in
    reaches_by k (slice_index_or xss j []) first.0 first.1 (later_reaches k xs first.0 (flat xss) up (in_flat xss j first.0 first.1) e)
later_lists k (xs ∷ xss) up f (suc i) zero le lt e = absurd (omega (arith, le))
later_lists k (xs ∷ xss) up f (suc i) (suc j) le lt e = later_lists k xss (rising_end (flat xss) (xs ++ flat xss) (record { passed = xs; whole = refl }) up) f.1 i j (omega (arith, le)) (omega (arith, lt)) e
