-- What a merging source has left.
use Rattle.std.proofs.Common.{◌≡◌, ℕ, zero, suc, ◌+◌, ◌-◌, ◌<◌, ◌≤◌, List, [], ◌∷◌, ◌++◌, Bool, false, refl, sym, ◌∙◌, ap, subst, length, take, drop, get_or, set, map, arith, length-append, below_more}
use Rattle.std.proofs.lemmas.List.{get_or-set_same, get_or-set_other, get_or-map, map-set, length-map}
use Rattle.tab_key.specs.Records.{Record, Key}
use Rattle.std.proofs.Math.Seq.{map-set_same, drop-append_seam}
use Rattle.tab_key.specs.Sorted.{sorted, IsDistinct}
use Rattle.tab_iter.specs.Lists.{tail, from_key, IsRising, IsEnd}
use Rattle.tab_iter.proofs.ListLaws.{ends_whole, ends_tail, ends_from_key}
use Rattle.tab_iter.specs.SourceLaws.{end_of_ending}
use Rattle.tab_iter.specs.Bags.{flat, IsFirstAt, IsEnding}
use Rattle.tab_iter.proofs.BagLaws.{least_sorted, each_ends, each_rises, EachRises, none_sorted, sought_key}

pub ending_of_end : (xs w : List Record) → IsEnd xs w → IsEnding xs w
ending_of_end xs w e =
    let n : length w - length xs ≡ length e.passed = omega (arith, ap length e.whole, length-append e.passed xs) in
    sym (ap (λ k. drop k w) n ∙ ap (drop (length e.passed)) (sym e.whole) ∙ drop-append_seam e.passed xs)

pub synced_whole : (xs : List Record) (ys : List Record) → xs ≡ ys → IsEnding (sorted xs) (sorted ys)
synced_whole xs ys e = subst (λ l. IsEnding (sorted l) (sorted ys)) (sym e) (ending_of_end (sorted ys) (sorted ys) (ends_whole (sorted ys)))

-- ---- an advance
pub replaced : {S : Type 0} (rest : S → List Record) (ss : List S) (b : ℕ) (s d : S) → b < length ss → rest s ≡ tail (rest (get_or ss b d)) → map rest (set ss b s) ≡ set (map rest ss) b (tail (get_or (map rest ss) b []))
replaced rest ss b s d lt e = map-set rest ss b s ∙ ap (set (map rest ss) b) (e ∙ ap tail (sym (get_or-map rest ss b d [] lt)))

pub advanced : {S : Type 0} (rest whole : S → List Record) → ((s : S) → IsEnd (rest s) (whole s)) → ((s : S) → IsRising (whole s)) → (ss : List S) (b : ℕ) → IsDistinct (flat (map whole ss)) → IsFirstAt (map rest ss) (length ss) b → sorted (flat (set (map rest ss) b (tail (get_or (map rest ss) b [])))) ≡ tail (sorted (flat (map rest ss)))
advanced rest whole ends rises ss b apart l =
    sym (ap tail (least_sorted (map rest ss) (map whole ss) b (each_ends rest whole ends ss) (each_rises whole rises ss) apart (subst (λ n. IsFirstAt (map rest ss) n b) (sym (length-map ss rest)) l)))

pub none_merged : {S : Type 0} (rest : S → List Record) (ss : List S) → ((k : ℕ) → k < length ss → get_or (map rest ss) k [] ≡ []) → sorted (flat (map rest ss)) ≡ []
none_merged rest ss f = none_sorted (map rest ss) (subst (λ n. (k : ℕ) → k < n → get_or (map rest ss) k [] ≡ []) (sym (length-map ss rest)) f)

-- ---- a seek of each
pub sought_more : (f : List Record → List Record) (ws rs : List (List Record)) (i : ℕ) (v : List Record) → i < length rs → ((k : ℕ) → k < i → get_or rs k [] ≡ f (get_or ws k [])) → v ≡ f (get_or ws i []) → (k : ℕ) → k < i + 1 → get_or (set rs i v) k [] ≡ f (get_or ws k [])
sought_more f ws rs i v lt below here = below_more (λ k. get_or (set rs i v) k [] ≡ f (get_or ws k [])) i (λ k less. get_or-set_other rs i k v [] (λ e. absurd (omega arith)) ∙ below k less) (get_or-set_same rs i v [] lt ∙ here)

pub sought_all : (f : List Record → List Record) (ws rs : List (List Record)) → length rs ≡ length ws → ((k : ℕ) → k < length rs → get_or rs k [] ≡ f (get_or ws k [])) → rs ≡ map f ws
sought_all f [] [] e h = refl
sought_all f [] (r ∷ rs) e h = absurd (omega (arith, e))
sought_all f (w ∷ ws) [] e h = absurd (omega (arith, e))
sought_all f (w ∷ ws) (r ∷ rs) e h = λ i. h 0 (omega arith) i ∷ sought_all f ws rs (omega (arith, e)) (λ k lt. h (suc k) (omega arith)) i

pub ending_tail : (xs ys w : List Record) → IsEnding xs w → ys ≡ tail xs → IsEnding ys w
ending_tail xs ys w e is = subst (λ l. IsEnding l w) (sym is) (ending_of_end (tail xs) w (ends_tail xs w (end_of_ending xs w e)))

pub seek_whole : {S : Type 0} (whole : S → List Record) (ss : List S) (ws : List (List Record)) (i : ℕ) (d s : S) → map whole ss ≡ ws → whole s ≡ whole (get_or ss i d) → map whole (set ss i s) ≡ ws
seek_whole whole ss ws i d s e same = map-set_same whole ss i s d same ∙ e

pub seek_step : {S : Type 0} (rest whole : S → List Record) (f : List Record → List Record) (ss : List S) (ws : List (List Record)) (i : ℕ) (d s : S) → i < length ss → map whole ss ≡ ws → ((k : ℕ) → k < i → get_or (map rest ss) k [] ≡ f (get_or ws k [])) → rest s ≡ f (whole (get_or ss i d)) → (k : ℕ) → k < i + 1 → get_or (map rest (set ss i s)) k [] ≡ f (get_or ws k [])
seek_step rest whole f ss ws i d s lt e below now k less =
    ap (λ l. get_or l k []) (map-set rest ss i s)
    ∙ sought_more f ws (map rest ss) i (rest s) (subst (λ n. i < n) (sym (length-map ss rest)) lt) below (now ∙ ap f (sym (get_or-map whole ss i d [] lt) ∙ ap (λ l. get_or l i []) e)) k less

pub seek_done : {S : Type 0} (rest whole : S → List Record) (f : List Record → List Record) (ss ss0 : List S) (i : ℕ) → length ss ≡ length ss0 → length ss ≤ i → ((k : ℕ) → k < i → get_or (map rest ss) k [] ≡ f (get_or (map whole ss0) k [])) → map rest ss ≡ map f (map whole ss0)
seek_done rest whole f ss ss0 i same upto below =
    sought_all f (map whole ss0) (map rest ss) (length-map ss rest ∙ same ∙ sym (length-map ss0 whole)) (λ k lt. below k (within k (subst (λ n. k < n) (length-map ss rest) lt)))
  where
    within : (k : ℕ) → k < length ss → k < i
    within k lt = omega arith

pub synced_key : (k : Key) (rs ws vs : List (List Record)) → rs ≡ map (from_key k) ws → vs ≡ ws → EachRises ws → IsDistinct (flat ws) → IsEnding (sorted (flat rs)) (sorted (flat vs))
synced_key k rs ws vs e s r d = subst (λ l. IsEnding l (sorted (flat vs))) (sym (ap (λ l. sorted (flat l)) e ∙ sought_key k ws r d)) (subst (λ l. IsEnding (from_key k (sorted (flat ws))) (sorted (flat l))) (sym s) (ending_of_end (from_key k (sorted (flat ws))) (sorted (flat ws)) (ends_from_key k (sorted (flat ws)))))

pub distinct_same : (ws vs : List (List Record)) → vs ≡ ws → IsDistinct (flat ws) → IsDistinct (flat vs)
distinct_same ws vs e d = subst (λ l. IsDistinct (flat l)) (sym e) d

-- what a vector holds once a slice of all of it was written
pub kept : {S : Type 0} (xs ys : List S) (n : ℕ) → length xs ≡ length ys → n ≡ length ys → take n (xs ++ drop (length xs) ys) ≡ xs
kept [] [] n a b = rw b refl
kept [] (y ∷ ys) n a b = absurd (omega (arith, a))
kept (x ∷ xs) [] n a b = absurd (omega (arith, a))
kept (x ∷ xs) (y ∷ ys) zero a b = absurd (omega (arith, b))
kept (x ∷ xs) (y ∷ ys) (suc n) a b = ap (λ l. x ∷ l) (kept xs ys n (omega (arith, a)) (omega (arith, b)))

pub advance_step : {S : Type 0} (rest whole : S → List Record) → ((s : S) → IsEnd (rest s) (whole s)) → ((s : S) → IsRising (whole s)) → (items taken new lent found : List S) (b : ℕ) → taken ≡ new → lent ≡ items → found ≡ items → map rest new ≡ set (map rest lent) b (tail (get_or (map rest lent) b [])) → IsDistinct (flat (map whole items)) → IsFirstAt (map rest found) (length found) b → sorted (flat (map rest taken)) ≡ tail (sorted (flat (map rest items)))
advance_step rest whole ends rises items taken new lent found b e v d is apart l =
    ap (λ l. sorted (flat (map rest l))) e
    ∙ ap (λ l. sorted (flat l)) is
    ∙ ap (λ l. sorted (flat (set (map rest l) b (tail (get_or (map rest l) b []))))) v
    ∙ advanced rest whole ends rises items b apart (subst (λ l. IsFirstAt (map rest l) (length l) b) d l)

pub synced_tail : (unpositioned : Bool) (xs ys : List Record) (ws vs : List (List Record)) → (unpositioned ≡ false → IsEnding (sorted xs) (sorted (flat ws))) → unpositioned ≡ false → ys ≡ tail (sorted xs) → vs ≡ ws → IsEnding ys (sorted (flat vs))
synced_tail unpositioned xs ys ws vs old f is same = subst (λ l. IsEnding ys (sorted (flat l))) (sym same) (ending_tail (sorted xs) ys (sorted (flat ws)) (old f) is)
