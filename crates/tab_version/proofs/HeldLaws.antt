-- What is asked of the records of several clips, clip by clip.
use Rattle.std.proofs.Common.{◌≡◌, ◌⊎◌, inl, inr, ℕ, zero, suc, ◌+◌, ◌<◌, List, [], ◌∷◌, ◌++◌, Bool, true, false, not, ◌||◌, ◌==◌, refl, sym, ◌∙◌, ap, subst, length, map, take, get_or, arith, append-nil}
use Rattle.std.specs.List.{list_any}
use Rattle.std.proofs.Math.Dec.{eqb-suc-zero}
use Rattle.std.proofs.lemmas.List.{take_more, map-append, map-id}
use Rattle.std.proofs.lemmas.List.Folds.{list_any-append}
use Rattle.tab_key.specs.Records.{Record}
use Rattle.tab_key.specs.Sorted.{IsIn}
use Rattle.tab_cells.proofs.Lists.{in_append}
use Rattle.tab_iter.specs.Bags.{flat}
use Rattle.tab_version.specs.Sources.{Sorted, Sources, records_of}
use Rattle.tab_version.proofs.Gathering.{flat_both}

-- ---- clip by clip
module _ {H : Type 0} (f : H → List Record) where
  flat_more : (hs : List H) (i : ℕ) (h : H) → i < length hs → h ≡ get_or hs i h → flat (map f (take (i + 1) hs)) ≡ flat (map f (take i hs)) ++ f h
  flat_more hs i h lt is =
      ap (λ l. flat (map f l)) (take_more hs i h lt ∙ ap (λ x. take i hs ++ x ∷ []) (sym is))
      ∙ ap flat (map-append f (take i hs) (h ∷ []))
      ∙ flat_both (map f (take i hs)) (f h ∷ [])
      ∙ ap (λ l. flat (map f (take i hs)) ++ l) (append-nil (f h))

  pub none_more : (p : Record → Bool) (hs : List H) (i : ℕ) (h : H) → i < length hs → h ≡ get_or hs i h → list_any p (flat (map f (take i hs))) ≡ false → list_any p (f h) ≡ false → list_any p (flat (map f (take (i + 1) hs))) ≡ false
  none_more p hs i h lt is a b =
      ap (list_any p) (flat_more hs i h lt is)
      ∙ list_any-append p (flat (map f (take i hs))) (f h)
      ∙ (λ k. a k || b k)

  pub any_here : (p : Record → Bool) (hs : List H) (i : ℕ) (h : H) → i < length hs → h ≡ get_or hs i h → list_any p (f h) ≡ true → list_any p (flat (map f hs)) ≡ true
  any_here p [] i h lt is e = absurd (omega (arith, lt))
  any_here p (x ∷ hs) zero h lt is e = list_any-append p (f x) (flat (map f hs)) ∙ ap (λ v. v || list_any p (flat (map f hs))) (ap (λ y. list_any p (f y)) (sym is) ∙ e)
  any_here p (x ∷ hs) (suc i) h lt is e = list_any-append p (f x) (flat (map f hs)) ∙ ap (λ v. list_any p (f x) || v) (any_here p hs i h (omega (arith, lt)) is e) ∙ or_true (list_any p (f x))
    where
      or_true : (v : Bool) → (v || true) ≡ true
      or_true true = refl
      or_true false = refl

  pub each_more : (P : Record → Type 0) (hs : List H) (i : ℕ) (h : H) → i < length hs → h ≡ get_or hs i h → ((u : Record) → IsIn (flat (map f (take i hs))) u → P u) → ((u : Record) → IsIn (f h) u → P u) → (u : Record) → IsIn (flat (map f (take (i + 1) hs))) u → P u
  each_more P hs i h lt is a b u k = go (in_append (flat (map f (take i hs))) (f h) u (subst (λ l. IsIn l u) (flat_more hs i h lt is) k))
    where
      go : IsIn (flat (map f (take i hs))) u ⊎ IsIn (f h) u → P u
      go (inl m) = a u m
      go (inr m) = b u m

-- whether there is a record, as a test of each
pub filled_any : (us : List Record) → not (length us == 0) ≡ list_any (λ (u : Record). true) us
filled_any [] = refl
filled_any (u ∷ us) = ap not (eqb-suc-zero (length us))

-- ---- the runs of a tablet and its tables
runs_are : (s : Sources) (qs : List (List Record)) → qs ≡ s.runs → flat (map (λ c. c) qs) ≡ flat s.runs
runs_are s qs e = ap flat (map-id qs ∙ e)

pub any_run : (p : Record → Bool) (s : Sources) (qs : List (List Record)) → qs ≡ s.runs → list_any p (flat (map (λ c. c) qs)) ≡ true → list_any p (records_of s) ≡ true
any_run p s qs e t =
    list_any-append p (flat s.runs) (flat (map (λ (t : Sorted). t.records) s.tables))
    ∙ ap (λ v. v || list_any p (flat (map (λ (t : Sorted). t.records) s.tables))) (ap (list_any p) (sym (runs_are s qs e)) ∙ t)

pub any_table : (p : Record → Bool) (s : Sources) (qs : List (List Record)) (ts : List Sorted) → qs ≡ s.runs → ts ≡ s.tables → list_any p (flat (map (λ c. c) qs)) ≡ false → list_any p (flat (map (λ (t : Sorted). t.records) ts)) ≡ list_any p (records_of s)
any_table p s qs ts e g n =
    ap (λ l. list_any p (flat (map (λ (t : Sorted). t.records) l))) g
    ∙ ap (λ v. v || list_any p (flat (map (λ (t : Sorted). t.records) s.tables))) (sym n ∙ ap (list_any p) (runs_are s qs e))
    ∙ sym (list_any-append p (flat s.runs) (flat (map (λ (t : Sorted). t.records) s.tables)))

pub each_of : (P : Record → Type 0) (s : Sources) (qs : List (List Record)) (ts : List Sorted) → qs ≡ s.runs → ts ≡ s.tables → ((u : Record) → IsIn (flat (map (λ c. c) qs)) u → P u) → ((u : Record) → IsIn (flat (map (λ (t : Sorted). t.records) ts)) u → P u) → (u : Record) → IsIn (records_of s) u → P u
each_of P s qs ts e g a b u k = go (in_append (flat s.runs) (flat (map (λ (t : Sorted). t.records) s.tables)) u k)
  where
    go : IsIn (flat s.runs) u ⊎ IsIn (flat (map (λ (t : Sorted). t.records) s.tables)) u → P u
    go (inl m) = a u (subst (λ l. IsIn l u) (sym (runs_are s qs e)) m)
    go (inr m) = b u (subst (λ (l : List Sorted). IsIn (flat (map (λ (t : Sorted). t.records) l)) u) (sym g) m)
