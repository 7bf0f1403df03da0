-- The updates that a user may read are those of the changes that he sees, but for their numbers; so their cells are the same.
use Rattle.std.proofs.Common.{◌≡◌, ℕ, ◌<◌, ◌+◌, List, [], ◌∷◌, ◌++◌, Bool, true, false, cond, refl, sym, ◌∙◌, subst, arith, length}
use Rattle.std.specs.Prelude.{filter, bytes_eq}
use Rattle.tab_key.specs.Records.{Record}
use Rattle.std.specs.List.{AllByRecursion}
use Rattle.tab_key.proofs.Each.{each_append, each_map, each_filter}
use Rattle.tab_key.specs.Order.{NumbersBelow, IsNewer}
use Rattle.tab_key.proofs.Numbers.{each_cond}
use Rattle.tab_label.specs.Holding.{label_holds}
use Rattle.tab_history.specs.Bases.{Base}
use Rattle.tab_cells.specs.Cells.{Query, cells}
use Rattle.tab_history.specs.Changes.{Change, UserMade, UserDropped, AuthsSet, SystemGiven, SystemTaken, TableGiven, TableTaken, TableMade, TableDropped, ConstraintsSet, VersionsSet, HorizonSet, Written}
use Rattle.tab_cells.specs.Written.{TimedUpdate, record_of, records_of}
use Rattle.tab_history.specs.Readings.{base_table, base_records, next_number, updates_of}
use Rattle.tab_cells.proofs.Written.{records_below, records_newer, below_newer}
use Rattle.tab_noninterference.specs.Concerns.{only_if, if_any, may_read, visible}
use Rattle.tab_noninterference.proofs.Pairs.{Alike, SameOrder, Pairwise, Matched, matched_alike, newer_same, cells_matched}
use Rattle.tab_noninterference.proofs.SeenBase.{seen, base_seen, base_records_seen}
use Rattle.tab_noninterference.proofs.SeenCells.{cells_seen}

matched_itself : (xs : List Record) → Matched xs xs
matched_itself [] = tt
matched_itself (x ∷ xs) = (record { key = refl; kind = refl; value = refl }, same_itself x xs, matched_itself xs)
  where
    same_itself : (x : Record) (ys : List Record) → Pairwise (SameOrder x x) ys ys
    same_itself x [] = tt
    same_itself x (y ∷ ys) = (record { ahead = refl; behind = refl }, same_itself x ys)

both_newer : (x y : Record) → Alike x y → (xs ys : List Record) → AllByRecursion (IsNewer x) xs → AllByRecursion (IsNewer y) ys → Pairwise Alike xs ys → Pairwise (SameOrder x y) xs ys
both_newer x y a [] [] p q r = tt
both_newer x y a (c ∷ xs) (d ∷ ys) p q r = (newer_same x y c d a r.0 p.0 q.0, both_newer x y a xs ys p.1 q.1 r.1)
both_newer x y a [] (d ∷ ys) p q r = absurd r
both_newer x y a (c ∷ xs) [] p q r = absurd r

module _ (held : List (List ℕ)) where
  abbrev may_see : Record → Bool
  may_see = seen held

  -- one more mutation: what is seen of it goes before what is seen of the rest
  matched_more : (seq num : ℕ) (row : List ℕ) (us ws : List Record) → Matched (filter may_see us) ws → NumbersBelow seq us → NumbersBelow num ws → (ps : List TimedUpdate) → Matched (filter may_see (records_of seq row ps ++ us)) (records_of num row (filter (may_read held) ps) ++ ws)
  unfolding records_of
  matched_more seq num row us ws m b c [] = m
  matched_more seq num row us ws m b c (p ∷ ps) = go (may_read held p) (matched_more seq num row us ws m b c ps)
    where
      rest : List Record
      rest = filter may_see (records_of seq row ps ++ us)

      go : (v : Bool) → Matched rest (records_of num row (filter (may_read held) ps) ++ ws)
          → Matched (cond v (record_of seq row (length ps) p ∷ rest) rest) (records_of num row (cond v (p ∷ filter (may_read held) ps) (filter (may_read held) ps)) ++ ws)
      go true ih =
          let a : Alike (record_of seq row (length ps) p) (record_of num row (length (filter (may_read held) ps)) p) = record { key = refl; kind = refl; value = refl } in
          let newer : AllByRecursion (IsNewer (record_of seq row (length ps) p)) rest = each_filter _ may_see (records_of seq row ps ++ us) (each_append _ (records_of seq row ps) us (records_newer seq (length ps) row p ps (omega arith)) (below_newer seq (length ps) row p us b)) in
          let newer' : AllByRecursion (IsNewer (record_of num row (length (filter (may_read held) ps)) p)) (records_of num row (filter (may_read held) ps) ++ ws) = each_append _ (records_of num row (filter (may_read held) ps)) ws (records_newer num _ row p (filter (may_read held) ps) (omega arith)) (below_newer num _ row p ws c) in
          (a, both_newer _ _ a rest (records_of num row (filter (may_read held) ps) ++ ws) newer newer' (matched_alike _ _ ih), ih)
      go false ih = ih

  -- a change that tells nothing of the updates, perhaps kept
  skipped : (b : Base) (t : List ℕ) (v : Bool) (c : Change) (j : List Change) → updates_of b (c ∷ j) t ≡ updates_of b j t → updates_of b (only_if v c ++ j) t ≡ updates_of b j t
  skipped b t true c j e = e
  skipped b t false c j e = refl

  matched_to : (us ws vs : List Record) → vs ≡ ws → Matched us ws → Matched us vs
  matched_to us ws vs e m = subst (Matched us) (sym e) m

  matched_new : (v : Bool) (us ws : List Record) → Matched (filter may_see us) ws → Matched (filter may_see (cond v [] us)) (cond v [] ws)
  matched_new true us ws m = tt
  matched_new false us ws m = m

  written_here : (b : Base) (t s row : List ℕ) (qs : List TimedUpdate) (j : List Change) → bytes_eq s t ≡ true → updates_of b (if_any s row qs ++ j) t ≡ records_of (next_number b j) row qs ++ updates_of b j t
  unfolding updates_of records_of
  written_here b t s row [] j e = refl
  written_here b t s row (q ∷ qs) j e = rw e refl

  written_elsewhere : (b : Base) (t s row : List ℕ) (qs : List TimedUpdate) (j : List Change) → bytes_eq s t ≡ false → updates_of b (if_any s row qs ++ j) t ≡ updates_of b j t
  unfolding updates_of
  written_elsewhere b t s row [] j e = refl
  written_elsewhere b t s row (q ∷ qs) j e = rw e refl

  -- the next number lies above all that were given
  module _ (b : Base) (low : (t : List ℕ) → NumbersBelow b.next (base_records (base_table b t))) where
    below_next : (j : List Change) (t : List ℕ) → NumbersBelow (next_number b j) (updates_of b j t)
    unfolding updates_of next_number
    below_next [] t = low t
    below_next (Written s row ps ∷ j) t =
        let grown : NumbersBelow (next_number b j + 1) (updates_of b j t) = each_map (λ r. r.seq < next_number b j) (λ r. r.seq < next_number b j + 1) (λ r lt. omega arith) _ (below_next j t) in
        each_cond (λ r. r.seq < next_number b j + 1) (bytes_eq s t) _ _ (each_append (λ r. r.seq < next_number b j + 1) (records_of (next_number b j) row ps) _ (records_below (next_number b j) row ps) grown) grown
    below_next (TableMade s time v ∷ j) t = each_cond (λ r. r.seq < next_number b j) (bytes_eq s t) [] _ tt (below_next j t)
    below_next (TableDropped s ∷ j) t = each_cond (λ r. r.seq < next_number b j) (bytes_eq s t) [] _ tt (below_next j t)
    below_next (_ ∷ j) t = below_next j t

  module _ (b : Base) (low : (t : List ℕ) → NumbersBelow b.next (base_records (base_table b t))) where
    -- what he may read of the base
    abbrev c : Base
    c = base_seen held b

    low_seen : (t : List ℕ) → NumbersBelow c.next (base_records (base_table c t))
    low_seen t = subst (NumbersBelow b.next) (sym (base_records_seen held b t)) (each_filter (λ r. r.seq < b.next) may_see _ (low t))

    pub updates_visible : (user : List ℕ) (j : List Change) (t : List ℕ) → Matched (filter may_see (updates_of b j t)) (updates_of c (visible held user j) t)
    unfolding updates_of
    updates_visible user [] t = matched_to _ _ _ (base_records_seen held b t) (matched_itself (filter may_see (base_records (base_table b t))))
    updates_visible user (UserMade n ∷ j) t = matched_to _ _ _ (skipped c t (bytes_eq n user) (UserMade n) (visible held user j) refl) (updates_visible user j t)
    updates_visible user (UserDropped n ∷ j) t = matched_to _ _ _ (skipped c t (bytes_eq n user) (UserDropped n) (visible held user j) refl) (updates_visible user j t)
    updates_visible user (AuthsSet n set ∷ j) t = matched_to _ _ _ (skipped c t (bytes_eq n user) (AuthsSet n set) (visible held user j) refl) (updates_visible user j t)
    updates_visible user (SystemGiven n q ∷ j) t = matched_to _ _ _ (skipped c t (bytes_eq n user) (SystemGiven n q) (visible held user j) refl) (updates_visible user j t)
    updates_visible user (SystemTaken n q ∷ j) t = matched_to _ _ _ (skipped c t (bytes_eq n user) (SystemTaken n q) (visible held user j) refl) (updates_visible user j t)
    updates_visible user (TableGiven n q s ∷ j) t = matched_to _ _ _ (skipped c t (bytes_eq n user) (TableGiven n q s) (visible held user j) refl) (updates_visible user j t)
    updates_visible user (TableTaken n q s ∷ j) t = matched_to _ _ _ (skipped c t (bytes_eq n user) (TableTaken n q s) (visible held user j) refl) (updates_visible user j t)
    updates_visible user (TableMade s time v ∷ j) t = matched_new (bytes_eq s t) _ _ (updates_visible user j t)
    updates_visible user (TableDropped s ∷ j) t = matched_new (bytes_eq s t) _ _ (updates_visible user j t)
    updates_visible user (ConstraintsSet s cs ∷ j) t = updates_visible user j t
    updates_visible user (VersionsSet s many ∷ j) t = updates_visible user j t
    updates_visible user (HorizonSet s low ∷ j) t = updates_visible user j t
    updates_visible user (Written s row ps ∷ j) t = go (bytes_eq s t) refl (updates_visible user j t)
      where
        older : List Change
        older = visible held user j

        go : (v : Bool) → bytes_eq s t ≡ v → Matched (filter may_see (updates_of b j t)) (updates_of c older t)
            → Matched (filter may_see (cond v (records_of (next_number b j) row ps ++ updates_of b j t) (updates_of b j t))) (updates_of c (if_any s row (filter (may_read held) ps) ++ older) t)
        go true e ih = matched_to _ _ _ (written_here c t s row (filter (may_read held) ps) older e) (matched_more (next_number b j) (next_number c older) row _ _ ih (below_next b low j t) (below_next c low_seen older t) ps)
        go false e ih = matched_to _ _ _ (written_elsewhere c t s row (filter (may_read held) ps) older e) ih

    -- a scan whose authorizations the user was given shows the same
    pub cells_visible : (user : List ℕ) (j : List Change) (t : List ℕ) (n : ℕ) (q : Query) → ((label : List ℕ) → label_holds label q.authorizations ≡ true → label_holds label held ≡ true)
        → cells (updates_of c (visible held user j) t) n q ≡ cells (updates_of b j t) n q
    cells_visible user j t n q more = sym (cells_seen held (updates_of b j t) n q more ∙ cells_matched _ _ n q (updates_visible user j t))
