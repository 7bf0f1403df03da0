-- The records of a mutation beside those that were there before: they stand at places of their own.
use Rattle.std.proofs.Common.{◌≡◌, ◌⊎◌, ℕ, ◌<◌, ◌≤◌, ◌+◌, List, [], ◌∷◌, ◌++◌, refl, sym, ◌∙◌, ap, inl, inr, length, reverse, map, take, arith, get_or, append_assoc, append-nil}
use Rattle.std.specs.Prelude.{ℤ, Contains}
use Rattle.std.proofs.lemmas.List.{take_more, reverse-append, map-append, length-map, length-reverse, length-take-le}
use Rattle.tab_mutation.specs.Mutations.{Update}
use Rattle.tab_key.specs.Records.{Record}
use Rattle.tab_key.specs.Sorted.{sorted, IsDistinct, IsIn}
use Rattle.std.specs.List.{AllByRecursion}
use Rattle.tab_key.proofs.Each.{each_append, each_map}
use Rattle.tab_key.specs.Order.{NumbersBelow, IsNewer}
use Rattle.tab_key.proofs.Numbers.{all_apart}
use Rattle.tab_key.proofs.Rising.{in_from, in_to, in_sorted}
use Rattle.tab_cells.specs.Written.{TimedUpdate, timed, record_of, records_of}
use Rattle.tab_cells.proofs.Lists.{in_append}

-- ---- their numbers
pub records_below : (seq : ℕ) (row : List ℕ) (ps : List TimedUpdate) → NumbersBelow (seq + 1) (records_of seq row ps)
unfolding records_of
records_below seq row [] = tt
records_below seq row (p ∷ ps) = (omega arith, records_below seq row ps)

pub records_newer : (seq k : ℕ) (row : List ℕ) (p : TimedUpdate) (ps : List TimedUpdate) → length ps ≤ k → AllByRecursion (IsNewer (record_of seq row k p)) (records_of seq row ps)
unfolding records_of
records_newer seq k row p [] le = tt
records_newer seq k row p (q ∷ ps) le = (inr (refl, omega arith), records_newer seq k row p ps (omega arith))

pub below_newer : (seq k : ℕ) (row : List ℕ) (p : TimedUpdate) (us : List Record) → NumbersBelow seq us → AllByRecursion (IsNewer (record_of seq row k p)) us
below_newer seq k row p us b = each_map (λ r. r.seq < seq) (IsNewer (record_of seq row k p)) (λ x lt. inl lt) us b

-- the updates of one more mutation stand at places of their own
pub distinct_more : (seq : ℕ) (row : List ℕ) (ps : List TimedUpdate) (us : List Record) → NumbersBelow seq us → IsDistinct us → IsDistinct (records_of seq row ps ++ us)
unfolding records_of
distinct_more seq row [] us b d = d
distinct_more seq row (p ∷ ps) us b d =
    (all_apart (record_of seq row (length ps) p) (records_of seq row ps ++ us) (each_append _ (records_of seq row ps) us (records_newer seq (length ps) row p ps (omega arith)) (below_newer seq (length ps) row p us b)), distinct_more seq row ps us b d)

below_each : (seq : ℕ) (us : List Record) → ((u : Record) → IsIn us u → u.seq < seq) → NumbersBelow seq us
below_each seq [] f = tt
below_each seq (x ∷ us) f = (f x (inl refl), below_each seq us (λ u h. f u (inr h)))

-- records with a number that is new stand at places of their own
pub distinct_new : (seq : ℕ) (row : List ℕ) (ps : List TimedUpdate) (us : List Record) → ((u : Record) → Contains us u → u.seq < seq) → IsDistinct us → IsDistinct (records_of seq row ps ++ us)
distinct_new seq row ps us below d = distinct_more seq row ps us (below_each seq us (λ u h. below u (in_to us u h))) d

-- ---- one record after another
-- the first of the records of i + 1 updates is that of the last one
pub records_more : (seq : ℕ) (row : List ℕ) (clock : ℤ) (us : List Update) (i : ℕ) (u : Update) → i < length us → u ≡ get_or us i u
    → records_of seq row (reverse (map (timed clock) (take (i + 1) us))) ≡ record_of seq row i (timed clock u) ∷ records_of seq row (reverse (map (timed clock) (take i us)))
unfolding records_of
records_more seq row clock us i u lt is =
    ap (λ l. records_of seq row (reverse (map (timed clock) l))) (take_more us i u lt ∙ ap (λ x. take i us ++ x ∷ []) (sym is))
    ∙ ap (λ l. records_of seq row (reverse l)) (map-append (timed clock) (take i us) (u ∷ []))
    ∙ ap (records_of seq row) (reverse-append (map (timed clock) (take i us)) (timed clock u ∷ []))
    ∙ ap (λ n. record_of seq row n (timed clock u) ∷ records_of seq row (reverse (map (timed clock) (take i us)))) count
  where
    count : length (reverse (map (timed clock) (take i us))) ≡ i
    count = omega (arith, length-reverse (map (timed clock) (take i us)), length-map (take i us) (timed clock), length-take-le i us (omega (arith, lt)))

-- one more record goes to the end of those before it
pub records_step : (seq : ℕ) (row : List ℕ) (clock : ℤ) (us : List Update) (i : ℕ) (u : Update) (xs all : List Record) → i < length us → u ≡ get_or us i u
    → xs ++ records_of seq row (reverse (map (timed clock) (take (i + 1) us))) ≡ all
    → (xs ++ record_of seq row i (timed clock u) ∷ []) ++ records_of seq row (reverse (map (timed clock) (take i us))) ≡ all
records_step seq row clock us i u xs all lt is e =
    append_assoc xs (record_of seq row i (timed clock u) ∷ []) (records_of seq row (reverse (map (timed clock) (take i us))))
    ∙ ap (λ l. xs ++ l) (sym (records_more seq row clock us i u lt is))
    ∙ e

-- when no update is left, all records are there
pub records_all : (seq : ℕ) (row : List ℕ) (clock : ℤ) (us : List Update) (i : ℕ) (xs all : List Record) → i ≤ 0 → xs ++ records_of seq row (reverse (map (timed clock) (take i us))) ≡ all → xs ≡ all
unfolding records_of
records_all seq row clock us i xs all le e =
    let none : i ≡ 0 = omega (arith, le) in
    sym (append-nil xs) ∙ ap (λ j. xs ++ records_of seq row (reverse (map (timed clock) (take j us)))) (sym none) ∙ e

-- ---- after a write
-- the members of two lists, sorted together
contains_either : (xs ys : List Record) (u : Record) → Contains (sorted (xs ++ ys)) u → Contains xs u ⊎ Contains ys u
contains_either xs ys u c = go (in_append xs ys u (in_sorted (xs ++ ys) u (in_from (sorted (xs ++ ys)) u c)))
  where
    go : IsIn xs u ⊎ IsIn ys u → Contains xs u ⊎ Contains ys u
    go (inl h) = inl (in_to xs u h)
    go (inr h) = inr (in_to ys u h)

-- each record of a mutation has the mutation's number
in_records : (seq : ℕ) (row : List ℕ) (ps : List TimedUpdate) (u : Record) → IsIn (records_of seq row ps) u → u.seq ≡ seq
unfolding records_of
in_records seq row [] u h = absurd h
in_records seq row (p ∷ ps) u (inl e) = sym (ap (λ (r : Record). r.seq) e)
in_records seq row (p ∷ ps) u (inr h) = in_records seq row ps u h

pub records_seq : (seq : ℕ) (row : List ℕ) (ps : List TimedUpdate) (u : Record) → Contains (records_of seq row ps) u → u.seq ≡ seq
records_seq seq row ps u c = in_records seq row ps u (in_from (records_of seq row ps) u c)

-- after a write with a new number all numbers lie below the next one
pub written_below : (seq : ℕ) (row : List ℕ) (ps : List TimedUpdate) (old : List Record) → ((u : Record) → Contains old u → u.seq < seq) → (u : Record) → Contains (sorted (records_of seq row ps ++ old)) u → u.seq < seq + 1
written_below seq row ps old below u c = go (contains_either (records_of seq row ps) old u c)
  where
    go : Contains (records_of seq row ps) u ⊎ Contains old u → u.seq < seq + 1
    go (inl h) = omega (arith, records_seq seq row ps u h)
    go (inr h) = omega (arith, below u h)
