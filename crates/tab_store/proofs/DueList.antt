-- Lists of work that is due.
use Rattle.std.proofs.Common.{◌≡◌, ◌∙◌, drop, ℕ, zero, suc, ◌+◌, ◌<◌, ◌≤◌, List, [], ◌∷◌, ◌++◌, Bool, true, false, not, cond, refl, sym, ap, length, arith, take, append-nil, append_assoc, length-append}
use Rattle.std.specs.Prelude.{Option, Some, None, ◌==◌, ◌&&◌, ◌||◌, filter, find, map}
use Rattle.std.specs.List.{flat_map, list_any}
use Rattle.std.specs.Option.{option_map, option_or}
use Rattle.std.proofs.lemmas.Bool.Decides.{nat_tests}
use Rattle.std.proofs.lemmas.List.{take_all}
use Rattle.std.proofs.lemmas.List.Folds.{list_any-append}
use Rattle.std.proofs.Math.Seq.{take-append_seam}
use Rattle.tab_tablets.specs.Tablets.{Tablet}
use Rattle.tab_tablets.specs.TabletDue.{is_due}
use Rattle.tab_tablets.specs.Due.{number_due}
use Rattle.tab_tablets.specs.Places.{tablet_at}
use Rattle.tab_tablets.specs.declared.DueKind.{DueKind}
use Rattle.tab_tablets.specs.declared.DueKind.TheVariants.{Minor, Partial, Split}
use Rattle.tab_store.specs.Stores.{TableContents}
use Rattle.tab_store.specs.Due.{due_among, all_due, due_as, due_in, due_in_order, are_apart, each_once, is_new, listed_on, due_listed, first_work, DueIsFirst}
use Rattle.tab_store.specs.declared.due.Due.{Due}

-- ---- the first of a list
first_once : (n : ℕ) (ds : List Due) → first_work (take (suc n) (each_once ds)) ≡ first_work ds
first_once n [] = refl
first_once n (d ∷ ds) = refl

first_more : (xs ys : List Due) → first_work (xs ++ ys) ≡ option_or (first_work xs) (first_work ys)
first_more [] ys = refl
first_more (x ∷ xs) ys = refl

first_among : (kind : DueKind) (ts : List Tablet) → first_work (due_among kind ts) ≡ option_map (λ number. record { kind = kind; tablet = number }) (option_map (λ (t : Tablet). t.number) (find (is_due kind) ts))
first_among kind [] = refl
first_among kind (t ∷ ts) = go (is_due kind t) (first_among kind ts)
  where
    on : Option Tablet → Option Due
    on o = option_map (λ number. record { kind = kind; tablet = number }) (option_map (λ (x : Tablet). x.number) o)

    go : (b : Bool) → first_work (due_among kind ts) ≡ on (find (is_due kind) ts)
        → first_work (map (λ (x : Tablet). record { kind = kind; tablet = x.number }) (cond b (t ∷ filter (is_due kind) ts) (filter (is_due kind) ts))) ≡ on (cond b (Some t) (find (is_due kind) ts))
    go true ih = refl
    go false ih = ih

first_as : (kind : DueKind) (ts : List TableContents) → first_work (all_due kind ts) ≡ due_as kind ts
first_as kind ts = first_among kind (flat_map (λ (t : TableContents). t.tablets) ts)

pub due_is_first : DueIsFirst
unfolding due_in due_listed
due_is_first n ts = sym (
    first_once n (due_in_order ts)
    ∙ first_more (all_due Minor ts) (all_due Partial ts ++ all_due Split ts)
    ∙ (λ i. option_or (first_as Minor ts i) (first_more (all_due Partial ts) (all_due Split ts) i))
    ∙ (λ i. option_or (due_as Minor ts) (option_or (first_as Partial ts i) (first_as Split ts i))))

-- ---- one filter behind another
both : (p q r : Due → Bool) (xs : List Due) → ((e : Due) → (q e && p e) ≡ r e) → filter p (filter q xs) ≡ filter r xs
both p q r [] f = refl
both p q r (x ∷ xs) f = go (q x) (f x) (both p q r xs f)
  where
    go : (b : Bool) → (b && p x) ≡ r x → filter p (filter q xs) ≡ filter r xs → filter p (cond b (x ∷ filter q xs) (filter q xs)) ≡ cond (r x) (x ∷ filter r xs) (filter r xs)
    go true e ih = λ i. cond (e i) (x ∷ ih i) (ih i)
    go false e ih = ih ∙ ap (λ v. cond v (x ∷ filter r xs) (filter r xs)) e

same_number : (a b : ℕ) → (a == b) ≡ true → a ≡ b
same_number a b e = grind (arith, nat_tests)

-- ---- one work more
module _ (max : ℕ) (list : List Due) (d : Due) (ds : List Due) where
  abbrev on : ℕ → Bool
  on number = list_any (λ (e : Due). e.tablet == number) list

  others : on d.tablet ≡ true → (e : Due) → (are_apart d e && is_new list e) ≡ is_new list e
  others there e = go (d.tablet == e.tablet) refl
    where
      go : (v : Bool) → (d.tablet == e.tablet) ≡ v → (not v && is_new list e) ≡ is_new list e
      go false is = refl
      go true is = sym (ap (λ n. not (on n)) (sym (same_number d.tablet e.tablet is)) ∙ ap not there)

  -- its tablet has one already
  pub had : on d.tablet ≡ true → listed_on max list ds ≡ listed_on max list (d ∷ ds)
  had there = sym (
      ap (λ v. take max (list ++ cond (not v) (d ∷ filter (is_new list) (filter (are_apart d) (each_once ds))) (filter (is_new list) (filter (are_apart d) (each_once ds))))) there
      ∙ ap (λ l. take max (list ++ l)) (both (is_new list) (are_apart d) (is_new list) (each_once ds) (others there)))

  with_it : (e : Due) → (are_apart d e && is_new list e) ≡ is_new (list ++ d ∷ []) e
  with_it e = go (d.tablet == e.tablet) (on e.tablet) ∙ ap not (sym (list_any-append (λ (x : Due). x.tablet == e.tablet) list (d ∷ [])))
    where
      go : (v w : Bool) → (not v && not w) ≡ not (w || (v || false))
      go true true = refl
      go true false = refl
      go false true = refl
      go false false = refl

  -- it has none
  pub put : on d.tablet ≡ false → listed_on max (list ++ d ∷ []) ds ≡ listed_on max list (d ∷ ds)
  put none = sym (
      ap (λ v. take max (list ++ cond (not v) (d ∷ filter (is_new list) (filter (are_apart d) (each_once ds))) (filter (is_new list) (filter (are_apart d) (each_once ds))))) none
      ∙ ap (λ l. take max (list ++ d ∷ l)) (both (is_new list) (are_apart d) (is_new (list ++ d ∷ [])) (each_once ds) with_it)
      ∙ ap (take max) (sym (append_assoc list (d ∷ []) (filter (is_new (list ++ d ∷ [])) (each_once ds)))))

-- ---- where it begins and ends
keep_all : (p : Due → Bool) (xs : List Due) → ((e : Due) → p e ≡ true) → filter p xs ≡ xs
keep_all p [] f = refl
keep_all p (x ∷ xs) f = ap (λ v. cond v (x ∷ filter p xs) (filter p xs)) (f x) ∙ ap (λ l. x ∷ l) (keep_all p xs f)

pub begun : (max : ℕ) (ds : List Due) → listed_on max [] ds ≡ take max (each_once ds)
begun max ds = ap (take max) (keep_all (is_new []) (each_once ds) (λ e. refl))

pub ended : (max : ℕ) (list : List Due) → length list ≤ max → listed_on max list [] ≡ list
ended max list le = ap (take max) (append-nil list) ∙ take_all max list le

-- a list of so many stays as it is
pub full : (max : ℕ) (list ds : List Due) → length list ≡ max → listed_on max list ds ≡ list
full max list ds e = ap (λ k. take k (list ++ filter (is_new list) (each_once ds))) (sym e) ∙ take-append_seam list (filter (is_new list) (each_once ds))

-- ---- tablet by tablet
abbrev work_on : DueKind → Tablet → Due
work_on kind t = record { kind = kind; tablet = t.number }

among_more : (kind : DueKind) (xs ys : List Tablet) → due_among kind (xs ++ ys) ≡ due_among kind xs ++ due_among kind ys
among_more kind [] ys = refl
among_more kind (x ∷ xs) ys = go (is_due kind x) (among_more kind xs ys)
  where
    go : (b : Bool) → due_among kind (xs ++ ys) ≡ due_among kind xs ++ due_among kind ys
        → map (work_on kind) (cond b (x ∷ filter (is_due kind) (xs ++ ys)) (filter (is_due kind) (xs ++ ys))) ≡ map (work_on kind) (cond b (x ∷ filter (is_due kind) xs) (filter (is_due kind) xs)) ++ due_among kind ys
    go true ih = ap (λ l. work_on kind x ∷ l) ih
    go false ih = ih

-- the one at a place, and those behind it
left_from : (ts : List Tablet) (place : ℕ) → place < length ts → drop place ts ≡ tablet_at ts place ∷ drop (place + 1) ts
left_from [] place lt = absurd (omega arith)
left_from (t ∷ ts) zero lt = refl
left_from (t ∷ ts) (suc place) lt =
    let same : suc place + 1 ≡ suc (place + 1) = omega arith in
    left_from ts place (omega arith) ∙ ap (λ k. tablet_at ts place ∷ drop k (t ∷ ts)) (sym same)

pub among_from : (kind : DueKind) (ts : List Tablet) (place : ℕ) → place < length ts → due_among kind (drop place ts) ≡ due_among kind (tablet_at ts place ∷ []) ++ due_among kind (drop (place + 1) ts)
among_from kind ts place lt = ap (due_among kind) (left_from ts place lt) ∙ among_more kind (tablet_at ts place ∷ []) (drop (place + 1) ts)

none_left : (ts : List Tablet) (place : ℕ) → length ts ≤ place → drop place ts ≡ []
none_left [] zero le = refl
none_left [] (suc place) le = refl
none_left (t ∷ ts) zero le = absurd (omega (arith, le))
none_left (t ∷ ts) (suc place) le = none_left ts place (omega (arith, le))

pub among_none : (kind : DueKind) (ts : List Tablet) (place : ℕ) → length ts ≤ place → due_among kind (drop place ts) ≡ []
among_none kind ts place le = ap (due_among kind) (none_left ts place le)

pub is_idle : (kind : DueKind) (t : Tablet) → None ≡ number_due kind t → due_among kind (t ∷ []) ≡ []
is_idle kind t e = go (is_due kind t) e
  where
    go : (b : Bool) → None ≡ cond b (Some t.number) None → map (work_on kind) (cond b (t ∷ []) []) ≡ []
    go true e = absurd (cc)
    go false e = refl

number_in : ℕ → Option ℕ → ℕ
number_in d None = d
number_in d (Some n) = n

pub is_at_work : (kind : DueKind) (t : Tablet) (number : ℕ) → Some number ≡ number_due kind t → due_among kind (t ∷ []) ≡ record { kind = kind; tablet = number } ∷ []
unfolding number_in
is_at_work kind t number e = go (is_due kind t) e
  where
    go : (b : Bool) → Some number ≡ cond b (Some t.number) None → map (work_on kind) (cond b (t ∷ []) []) ≡ record { kind = kind; tablet = number } ∷ []
    go true e = ap (λ o. record { kind = kind; tablet = number_in number o } ∷ []) (sym e)
    go false e = absurd (cc)

-- ---- table by table
pub all_from : (kind : DueKind) (t : TableContents) (ts : List TableContents) → all_due kind (t ∷ ts) ≡ due_among kind t.tablets ++ all_due kind ts
all_from kind t ts = among_more kind t.tablets (flat_map (λ (u : TableContents). u.tablets) ts)
