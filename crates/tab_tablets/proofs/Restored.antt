-- Tablets that are made of end rows and of a table's records: by the lowest end row, and what they hold.
use Rattle.std.proofs.Common.{◌≡◌, ◌⊎◌, inl, inr, ℕ, zero, suc, List, [], ◌∷◌, ◌++◌, Bool, true, false, not, cond, refl, sym, ◌∙◌, ap, subst, append-nil, append_assoc}
use Rattle.std.specs.Prelude.{Option, Some, None, Result, Ok, Err, OnOk, filter, find, map, bytes_eq}
use Rattle.std.specs.List.{AllByRecursion, filter_map, cons_option}
use Rattle.std.specs.List.Sorted.{IsStrictlySortedBy}
use Rattle.std.specs.Cmp.Lexicographic.{bytes_decides, nat_list_cmp_total}
use Rattle.std.specs.Ordering.{is_le, is_gt}
use Rattle.std.proofs.lemmas.List.Kept.{IsStrictlySortedBy-filter}
use Rattle.std.specs.declared.cmp.Ordering.{Ordering}
use Rattle.std.specs.declared.cmp.Ordering.TheVariants.{Less, Equal, Greater}
use mathlib.Core.Bool.{true≢false}
use Rattle.tab_key.specs.Bytes.{bytes_cmp}
use Rattle.tab_key.specs.Order.{record_cmp}
use Rattle.tab_key.specs.Records.{Record}
use Rattle.tab_key.specs.Sorted.{sorted, IsIn}
use Rattle.tab_key.proofs.Rising.{in_filter}
use Rattle.tab_cells.proofs.Lists.{by_bool, filter_seen, in_append}
use Rattle.tab_cells.proofs.Rising.{sorted_rising}
use Rattle.tab_iter.specs.Lists.{IsRising}
use Rattle.tab_mem.proofs.RowOrder.{rows_rise}
use Rattle.tab_tablet.specs.Tablets.{Tablet, records_in, tabled, next_number}
use Rattle.tab_tablets.specs.ByRow.{EndsBefore, EndsRise, AreWhole, LieApart, records_of_all, ends_of}
use Rattle.tab_tablets.specs.Listing.{listed}
use Rattle.tab_tablets.specs.Places.{ended, HoldOwnRows, AreKept, tablet_at}
use Rattle.tab_tablets.specs.Restored.{EndRowsRise, end_for, same_end, records_for, tabled_for, restored}
use Rattle.tab_tablets.proofs.Orders.{below_other, up_to_both}
use Rattle.tab_tablets.proofs.Kept.{none_apart}

-- ---- end rows
abbrev AreAbove : List ℕ → List (List ℕ) → Type 0
AreAbove e ds = AllByRecursion (λ d. bytes_cmp e d ≡ Less) ds

abbrev with_last : List (List ℕ) → List (Option (List ℕ))
with_last ds = map Some ds ++ None ∷ []

-- what is found among rows above another isn't that one
other_found : (p : List ℕ → Bool) (e : List ℕ) (ds : List (List ℕ)) → AreAbove e ds → same_end (find p ds) (Some e) ≡ false
other_found p e [] a = refl
other_found p e (d ∷ ds) a = go (p d) (other_found p e ds a.1)
  where
    other : bytes_eq d e ≡ false
    other = by_bool (bytes_eq d e) (λ t. absurd (true≢false (sym ((bytes_decides e d).1 (sym ((bytes_decides d e).0 t))) ∙ below_other e d a.0))) (λ f. f)

    go : (v : Bool) → same_end (find p ds) (Some e) ≡ false → same_end (cond v (Some d) (find p ds)) (Some e) ≡ false
    go true ih = other
    go false ih = ih

-- ---- by the lowest end row
module _ (e : List ℕ) (es : List (List ℕ)) (us : List Record) where
  abbrev pub in_first : Record → Bool
  in_first u = is_le (bytes_cmp u.key.row e)

  abbrev pub behind_first : Record → Bool
  behind_first u = not (is_le (bytes_cmp u.key.row e))

  -- the lowest tablet holds the records up to its end row
  first_held : AreAbove e es → records_for (e ∷ es) us (Some e) ≡ filter in_first us
  first_held a = go us
    where
      same : (u : Record) (v : Bool) → same_end (cond v (Some e) (end_for es u.key.row)) (Some e) ≡ v
      same u true = (bytes_decides e e).1 refl
      same u false = other_found (λ d. is_le (bytes_cmp u.key.row d)) e es a

      go : (vs : List Record) → filter (λ (u : Record). same_end (end_for (e ∷ es) u.key.row) (Some e)) vs ≡ filter in_first vs
      go [] = refl
      go (u ∷ vs) = λ i. cond (same u (in_first u) i) (u ∷ go vs i) (go vs i)

  -- each of the others what it would hold of the records behind
  later_held : (o : Option (List ℕ)) → same_end (Some e) o ≡ false → records_for (e ∷ es) us o ≡ records_for es (filter behind_first us) o
  later_held o other = filter_seen behind_first (λ (u : Record). same_end (end_for (e ∷ es) u.key.row) o) (λ (u : Record). same_end (end_for es u.key.row) o) (λ u s. skip (in_first u) (end_for es u.key.row) s) (λ u s. keep (in_first u) (end_for es u.key.row) s) us
    where
      skip : (v : Bool) (f : Option (List ℕ)) → not v ≡ false → same_end (cond v (Some e) f) o ≡ false
      skip true f s = other
      skip false f s = absurd (true≢false s)

      keep : (v : Bool) (f : Option (List ℕ)) → not v ≡ true → same_end (cond v (Some e) f) o ≡ same_end f o
      keep true f s = absurd (true≢false (sym s))
      keep false f s = refl

  later_tablets : (n : ℕ) (ds : List (List ℕ)) → AreAbove e ds → tabled_for (e ∷ es) us n (with_last ds) ≡ tabled_for es (filter behind_first us) n (with_last ds)
  later_tablets n [] a = ap (λ vs. tabled n None vs ∷ []) (later_held None refl)
  later_tablets n (d ∷ ds) a = λ i. tabled n (Some d) (later_held (Some d) (below_other e d a.0) i) ∷ later_tablets (next_number n) ds a.1 i

  pub restored_first : (n : ℕ) → EndRowsRise (e ∷ es) → restored n (e ∷ es) us ≡ tabled n (Some e) (filter in_first us) ∷ restored (next_number n) es (filter behind_first us)
  unfolding IsStrictlySortedBy
  restored_first n s = λ i. tabled n (Some e) (first_held s.0 i) ∷ later_tablets (next_number n) es s.0 i

later_rise : (e : List ℕ) (es : List (List ℕ)) → EndRowsRise (e ∷ es) → EndRowsRise es
unfolding IsStrictlySortedBy
later_rise e es s = s.1

-- without an end row all records are the last tablet's
pub restored_last : (n : ℕ) (us : List Record) → restored n [] us ≡ tabled n None us ∷ []
restored_last n us = ap (λ vs. tabled n None vs ∷ []) (all us)
  where
    all : (vs : List Record) → filter (λ (u : Record). true) vs ≡ vs
    all [] = refl
    all (u ∷ vs) = ap (λ l. u ∷ l) (all vs)

-- ---- each row has one tablet
ends_are : (ends : List (List ℕ)) (us : List Record) (n : ℕ) (os : List (Option (List ℕ))) → map (λ (t : Tablet). t.end) (tabled_for ends us n os) ≡ os
ends_are ends us n [] = refl
ends_are ends us n (o ∷ os) = ap (λ l. o ∷ l) (ends_are ends us (next_number n) os)

ends_rise : (ends : List (List ℕ)) → EndRowsRise ends → EndsRise (with_last ends)
unfolding IsStrictlySortedBy
ends_rise [] s = refl
ends_rise (e ∷ []) s = (tt, refl)
ends_rise (e ∷ d ∷ ends) s = (s.0.0, ends_rise (d ∷ ends) s.1)

pub restored_whole : (n : ℕ) (ends : List (List ℕ)) (us : List Record) → EndRowsRise ends → AreWhole (restored n ends us)
restored_whole n ends us s = subst EndsRise (sym (ends_are ends us n (with_last ends))) (ends_rise ends s)

-- ---- what they hold
pub held_tabled : (n : ℕ) (o : Option (List ℕ)) (us : List Record) → records_in (tabled n o us) ≡ us
held_tabled n o [] = refl
held_tabled n o (u ∷ us) = append-nil (u ∷ us)

not_greater : (o : Ordering) → is_gt o ≡ false → is_le o ≡ true
not_greater Less g = refl
not_greater Equal g = refl
not_greater Greater g = absurd (true≢false g)

-- of rising records those up to a row come first
module _ (e : List ℕ) where
  abbrev low : Record → Bool
  low u = is_le (bytes_cmp u.key.row e)

  abbrev high : Record → Bool
  high u = not (is_le (bytes_cmp u.key.row e))

  goes_on : (u v : Record) → low u ≡ false → record_cmp u v ≡ Less → low v ≡ false
  goes_on u v f lt = by_bool (low v) (λ t. absurd (true≢false (sym (up_to_both u.key.row v.key.row e (not_greater (bytes_cmp u.key.row v.key.row) (rows_rise u v lt)) t) ∙ f))) (λ g. g)

  none_low : (u : Record) (us : List Record) → low u ≡ false → AllByRecursion (λ v. record_cmp u v ≡ Less) us → filter low us ≡ []
  none_low u [] f a = refl
  none_low u (v ∷ us) f a = ap (λ w. cond w (v ∷ filter low us) (filter low us)) (goes_on u v f a.0) ∙ none_low u us f a.1

  all_high : (u : Record) (us : List Record) → low u ≡ false → AllByRecursion (λ v. record_cmp u v ≡ Less) us → filter high us ≡ us
  all_high u [] f a = refl
  all_high u (v ∷ us) f a = ap (λ w. cond (not w) (v ∷ filter high us) (filter high us)) (goes_on u v f a.0) ∙ ap (λ l. v ∷ l) (all_high u us f a.1)

  pub parted : (us : List Record) → IsRising us → filter low us ++ filter high us ≡ us
  unfolding IsStrictlySortedBy
  parted [] r = refl
  parted (u ∷ us) r = go (low u) refl (parted us r.1)
    where
      go : (v : Bool) → low u ≡ v → filter low us ++ filter high us ≡ us → cond v (u ∷ filter low us) (filter low us) ++ cond (not v) (u ∷ filter high us) (filter high us) ≡ u ∷ us
      go true is ih = ap (λ l. u ∷ l) ih
      go false is ih = λ i. none_low u us is r.0 i ++ u ∷ all_high u us is r.0 i

rising_part : (p : Record → Bool) (us : List Record) → IsRising us → IsRising (filter p us)
rising_part p us r = IsStrictlySortedBy-filter record_cmp p us r

pub restored_holds : (n : ℕ) (ends : List (List ℕ)) (us : List Record) → EndRowsRise ends → IsRising us → records_of_all (restored n ends us) ≡ us
restored_holds n [] us s r = ap records_of_all (restored_last n us) ∙ append-nil (records_in (tabled n None us)) ∙ held_tabled n None us
restored_holds n (e ∷ es) us s r =
    ap records_of_all (restored_first e es us n s)
    ∙ (λ i. held_tabled n (Some e) (filter (low e) us) i ++ restored_holds (next_number n) es (filter (high e) us) (later_rise e es s) (rising_part (high e) us r) i)
    ∙ parted e us r

held_in_order : (n : ℕ) (o : Option (List ℕ)) (us : List Record) → IsRising us → sorted (records_in (tabled n o us)) ≡ us
held_in_order n o us r = ap sorted (held_tabled n o us) ∙ sorted_rising us r

-- listed one tablet behind the other
pub restored_lists : (n : ℕ) (ends : List (List ℕ)) (us : List Record) → EndRowsRise ends → IsRising us → listed (restored n ends us) ≡ us
restored_lists n [] us s r = ap listed (restored_last n us) ∙ append-nil (sorted (records_in (tabled n None us))) ∙ held_in_order n None us r
restored_lists n (e ∷ es) us s r =
    ap listed (restored_first e es us n s)
    ∙ (λ i. held_in_order n (Some e) (filter (low e) us) (rising_part (low e) us r) i ++ restored_lists (next_number n) es (filter (high e) us) (later_rise e es s) (rising_part (high e) us r) i)
    ∙ parted e us r

pub restored_apart : (n : ℕ) (ends : List (List ℕ)) (us : List Record) → EndRowsRise ends → IsRising us → LieApart (restored n ends us)
restored_apart n ends us s r = subst IsRising (sym (restored_lists n ends us s r)) r

-- ---- what a table's tablets keep
in_restored : (ends : List (List ℕ)) (us : List Record) (n : ℕ) (os : List (Option (List ℕ))) (u : Record) → IsIn (records_of_all (tabled_for ends us n os)) u → IsIn us u
in_restored ends us n [] u k = absurd k
in_restored ends us n (o ∷ os) u k = go (in_append (records_in (tabled n o (records_for ends us o))) (records_of_all (tabled_for ends us (next_number n) os)) u k) (in_restored ends us (next_number n) os u)
  where
    go : IsIn (records_in (tabled n o (records_for ends us o))) u ⊎ IsIn (records_of_all (tabled_for ends us (next_number n) os)) u → (IsIn (records_of_all (tabled_for ends us (next_number n) os)) u → IsIn us u) → IsIn us u
    go (inl a) ih = (in_filter (λ (v : Record). same_end (end_for ends v.key.row) o) us u (subst (λ l. IsIn l u) (held_tabled n o (records_for ends us o)) a)).0
    go (inr b) ih = ih b

own_rows : (n : ℕ) (ends : List (List ℕ)) (us : List Record) → EndRowsRise ends → HoldOwnRows (restored n ends us)
own_rows n [] us s = subst HoldOwnRows (sym (restored_last n us)) (λ u k. refl, λ u k. absurd k, tt)
own_rows n (e ∷ es) us s = subst HoldOwnRows (sym (restored_first e es us n s)) (
  λ u k. (in_filter (low e) us u (subst (λ l. IsIn l u) (held_tabled n (Some e) (filter (low e) us)) k)).1,
  λ u k. not_low u (in_filter (high e) us u (in_restored es (filter (high e) us) (next_number n) (with_last es) u k)).1,
  own_rows (next_number n) es (filter (high e) us) (later_rise e es s),
)
  where
    not_low : (u : Record) → high e u ≡ true → low e u ≡ false
    not_low u h = by_bool (low e u) (λ t. absurd (true≢false (sym h ∙ ap not t))) (λ f. f)

none_written : (ends : List (List ℕ)) (us : List Record) (n : ℕ) (os : List (Option (List ℕ))) (k : ℕ) → (tablet_at (tabled_for ends us n os) k).active ≡ []
none_written ends us n [] k = refl
none_written ends us n (o ∷ os) zero = refl
none_written ends us n (o ∷ os) (suc k) = none_written ends us (next_number n) os k

pub restored_kept : (n : ℕ) (ends : List (List ℕ)) (us : List Record) → EndRowsRise ends → AreKept (restored n ends us) []
restored_kept n ends us s = record {
  whole = restored_whole n ends us s;
  rows = own_rows n ends us s;
  inside = tt;
  waiting = λ k none. none_written ends us n (with_last ends) k;
  waits = tt;
  apart = none_apart;
}

-- ---- the end rows
ends_listed : (ends : List (List ℕ)) (us : List Record) (n : ℕ) (ds : List (List ℕ)) → filter_map (λ (t : Tablet). t.end) (tabled_for ends us n (with_last ds)) ≡ ds
ends_listed ends us n [] = refl
ends_listed ends us n (d ∷ ds) = ap (λ l. d ∷ l) (ends_listed ends us (next_number n) ds)

pub restored_are_whole : (n : ℕ) (ends : List (List ℕ)) (us : List Record) → EndRowsRise ends → AreWhole (restored n ends us) × (ends_of (restored n ends us) ≡ ends)
restored_are_whole n ends us s = (restored_whole n ends us s, ends_listed ends us n ends)

pub restored_hold_all : (n : ℕ) (ends : List (List ℕ)) (us : List Record) → EndRowsRise ends → IsRising us → (records_of_all (restored n ends us) ≡ us) × LieApart (restored n ends us)
restored_hold_all n ends us s r = (restored_holds n ends us s r, restored_apart n ends us s r)

-- ---- the end rows of a table's tablets rise
below_all : (e d : List ℕ) (ds : List (List ℕ)) → bytes_cmp e d ≡ Less → AreAbove d ds → AreAbove e ds
below_all e d [] b a = tt
below_all e d (x ∷ ds) b a = (nat_list_cmp_total.trans e d x b a.0, below_all e d ds b a.1)

abbrev known : List (Option (List ℕ)) → List (List ℕ)
known os = filter_map (λ o. o) os

all_behind : (e : List ℕ) (o : Option (List ℕ)) (os : List (Option (List ℕ))) → EndsBefore (Some e) o → EndsRise (o ∷ os) → AreAbove e (known (o ∷ os))
all_behind e None [] b r = tt
all_behind e None (p ∷ os) b r = absurd r.0
all_behind e (Some d) [] b r = absurd (cc)
all_behind e (Some d) (p ∷ os) b r = (b, below_all e d (known (p ∷ os)) b (all_behind d p os r.0 r.1))

known_rise : (os : List (Option (List ℕ))) → EndsRise os → EndRowsRise (known os)
unfolding IsStrictlySortedBy
known_rise [] r = absurd r
known_rise (None ∷ []) r = tt
known_rise (None ∷ p ∷ os) r = absurd r.0
known_rise (Some d ∷ []) r = absurd (cc)
known_rise (Some d ∷ p ∷ os) r = (all_behind d p os r.0 r.1, known_rise (p ∷ os) r.1)

ends_known : (ts : List Tablet) → known (map (λ (t : Tablet). t.end) ts) ≡ ends_of ts
ends_known [] = refl
ends_known (t ∷ ts) = ap (cons_option t.end) (ends_known ts)

pub ends_of_rise : (ts : List Tablet) → AreWhole ts → EndRowsRise (ends_of ts)
ends_of_rise ts w = subst EndRowsRise (ends_known ts) (known_rise (map (λ (t : Tablet). t.end) ts) w)

-- ---- one tablet more, of the records that are left
-- these lower tablets, and what the end rows to come make of the records that are left, numbered from the next number on, are what all end
-- rows make, numbered from the first
abbrev pub GoesOn : ℕ → ℕ → List (List ℕ) → List Record → List Tablet → List Record → Type 0
GoesOn first next done us lower left = (es : List (List ℕ)) → EndRowsRise (done ++ es) → lower ++ restored next es left ≡ restored first (done ++ es) us

last_rise : (done es : List (List ℕ)) → EndRowsRise (done ++ es) → EndRowsRise es
last_rise [] es s = s
last_rise (d ∷ done) es s = last_rise done es (later_rise d (done ++ es) s)

gt_not : (o : Ordering) → is_gt o ≡ not (is_le o)
gt_not Less = refl
gt_not Equal = refl
gt_not Greater = refl

above_high : (e : List ℕ) (us : List Record) → filter (λ (u : Record). is_gt (bytes_cmp u.key.row e)) us ≡ filter (high e) us
above_high e [] = refl
above_high e (u ∷ us) = λ i. cond (gt_not (bytes_cmp u.key.row e) i) (u ∷ above_high e us i) (above_high e us i)

pub goes_on_one : (first next later : ℕ) (done : List (List ℕ)) (us : List Record) (lower more : List Tablet) (left after : List Record) (e : List ℕ) (t : Tablet)
    → later ≡ next_number next → more ≡ lower ++ t ∷ [] → t ≡ tabled next (Some e) (filter (λ (u : Record). is_le (bytes_cmp u.key.row e)) left) → after ≡ filter (λ (u : Record). is_gt (bytes_cmp u.key.row e)) left → GoesOn first next done us lower left → GoesOn first later (done ++ e ∷ []) us more after
goes_on_one first next later done us lower more left after e t n m is behind g es s =
    let rest : after ≡ filter (high e) left = behind ∙ above_high e left in
    let same : (done ++ e ∷ []) ++ es ≡ done ++ e ∷ es = append_assoc done (e ∷ []) es in
    let rises : EndRowsRise (done ++ e ∷ es) = subst EndRowsRise same s in
    (λ i. m i ++ restored (n i) es (rest i))
    ∙ append_assoc lower (t ∷ []) (restored (next_number next) es (filter (high e) left))
    ∙ (λ i. lower ++ is i ∷ restored (next_number next) es (filter (high e) left))
    ∙ ap (λ l. lower ++ l) (sym (restored_first e es left next (last_rise done (e ∷ es) rises)))
    ∙ g (e ∷ es) rises
    ∙ ap (λ ends. restored first ends us) (sym same)

pub goes_on_end : (first next : ℕ) (done ends : List (List ℕ)) (us : List Record) (lower : List Tablet) (left : List Record) → done ≡ ends → EndRowsRise ends → GoesOn first next done us lower left → lower ++ tabled next None left ∷ [] ≡ restored first ends us
goes_on_end first next done ends us lower left same s g =
    ap (λ l. lower ++ l) (sym (restored_last next left))
    ∙ g [] (subst EndRowsRise (sym (append-nil done ∙ same)) s)
    ∙ ap (λ es. restored first es us) (append-nil done ∙ same)

-- the last tablet holds what is left then
pub restored_line : (first next : ℕ) (ends : List (List ℕ)) (us : List Record) (lower tablet_list : List Tablet) (last : Tablet) (left : List Record) → tablet_list ≡ lower ++ ended None last ∷ [] → last ≡ tabled next None left → lower ++ tabled next None left ∷ [] ≡ restored first ends us → tablet_list ≡ restored first ends us
restored_line first next ends us lower tablet_list last left l t g = l ∙ (λ i. lower ++ ended None (t i) ∷ []) ∙ g

-- what holds either way
pub either_way : {A E P : Type 0} (r : Result A E) → P → OnOk r P
either_way (Ok x) p = p
either_way (Err e) p = tt
