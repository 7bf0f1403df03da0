-- Work that is due has a target: the tablet that is due.
use Rattle.std.proofs.Common.{◌≡◌, ◌⊎◌, inl, inr, ℕ, List, [], ◌∷◌, ◌++◌, Bool, true, false, cond, ◌||◌, ◌==◌, refl, sym, ◌∙◌, ap, subst}
use Rattle.std.specs.Prelude.{Option, Some, None, find, map, bytes_eq}
use Rattle.std.specs.List.{AllByRecursion, flat_map}
use Rattle.std.specs.List.Sorted.{IsStrictlySortedBy}
use Rattle.std.specs.Option.{option_map, option_or}
use Rattle.std.specs.Cmp.Lexicographic.{bytes_decides}
use Rattle.std.specs.Ordering.{is_le, is_gt}
use Rattle.std.specs.declared.cmp.Ordering.TheVariants.{Less, Equal}
use Rattle.std.proofs.lemmas.List.Folds.{find-append}
use Rattle.std.proofs.lemmas.Option.{none-some}
use mathlib.Core.Bool.{true≢false}
use Rattle.tab_key.specs.Bytes.{bytes_cmp}
use Rattle.tab_iter.proofs.NextColumns.{bytes_ahead, bytes_between}
use Rattle.tab_cells.proofs.Lists.{by_bool}
use Rattle.tab_tablets.specs.Tablets.{Tablet, is_up_to}
use Rattle.tab_tablets.specs.TabletDue.{is_due}
use Rattle.tab_tablets.specs.ByRow.{EndsBefore, AreWhole, tablet_of}
use Rattle.tab_tablets.specs.Due.{least_above, start_of}
use Rattle.tab_tablets.specs.declared.DueKind.{DueKind}
use Rattle.tab_tablets.specs.declared.DueKind.TheVariants.{Minor, Partial, Split}
use Rattle.tab_tablets.proofs.Orders.{above, not_above, below_other, below_up_to, up_to_below}
use Rattle.tab_tablets.proofs.Parted.{nat_same, some_is}
use Rattle.tab_store.specs.Stores.{TableContents, CoreContents, table_in, tablets_found, tablets_in}
use Rattle.tab_store.specs.Due.{due_as, due_in, target_of}
use Rattle.tab_store.specs.Numbers.{has_number, NumbersDiffer, AreNumbered}
use Rattle.tab_store.specs.Rightness.{IsStore}
use Rattle.tab_store.specs.Targets.{StartsLieInside, IsTarget, TargetsAreDue}
use Rattle.tab_store.specs.declared.due.Due.{Due}
use Rattle.tab_store.proofs.Numbered.{or_right, itself}

-- ---- the least row above an end row
least_up : (end : List ℕ) (o : Option (List ℕ)) → EndsBefore (Some end) o → is_up_to o (end ++ 0 ∷ []) ≡ true
least_up end None b = refl
least_up end (Some next) b = by_bool (is_le (bytes_cmp (end ++ 0 ∷ []) next)) (λ t. t) (λ f. absurd (not_both (bytes_between end next (ap is_gt b) (above (end ++ 0 ∷ []) next f))))
  where
    not_both : bytes_cmp end next ≡ Equal → ⊥
    not_both e = let same : Less ≡ Equal = sym b ∙ e in cc

no_row_up : (o : Option (List ℕ)) → is_up_to o [] ≡ true
no_row_up None = refl
no_row_up (Some []) = refl
no_row_up (Some (b ∷ bs)) = refl

-- ---- where tablets begin
-- tablets that lie above this end row, if there is one
abbrev LieAbove : Option (List ℕ) → List Tablet → Type 0
LieAbove None ts = Unit {0}
LieAbove (Some end) [] = ⊥
LieAbove (Some end) (t ∷ ts) = EndsBefore (Some end) t.end

-- a row above it
abbrev IsAbove : Option (List ℕ) → List ℕ → Type 0
IsAbove None row = Unit {0}
IsAbove (Some end) row = is_up_to (Some end) row ≡ false

least_inside : (low : Option (List ℕ)) (t : Tablet) (ts : List Tablet) → LieAbove low (t ∷ ts) → is_up_to t.end (least_above low) ≡ true
least_inside None t ts a = no_row_up t.end
least_inside (Some end) t ts a = least_up end t.end a

least_is_above : (low : Option (List ℕ)) → IsAbove low (least_above low)
least_is_above None = tt
least_is_above (Some end) = not_above end (end ++ 0 ∷ []) (bytes_ahead end)

-- what isn't up to an end row isn't up to one before it
above_too : (low : Option (List ℕ)) (end row : List ℕ) (t : Tablet) (ts : List Tablet) → t.end ≡ Some end → LieAbove low (t ∷ ts) → is_up_to (Some end) row ≡ false → IsAbove low row
above_too None end row t ts e a f = tt
above_too (Some low) end row t ts e a f = by_bool (is_up_to (Some low) row)
    (λ h. absurd (true≢false (sym (below_up_to row end (up_to_below row low end h (subst (EndsBefore (Some low)) e a))) ∙ f)))
    (λ n. n)

-- the number of the row's tablet
abbrev number_at : List ℕ → List Tablet → Option ℕ
number_at row ts = option_map (λ (t : Tablet). t.number) (tablet_of row ts)

-- the row lies in the tablet with the number, and so above those before it
abbrev LiesThere : ℕ → Option (List ℕ) → List Tablet → List ℕ → Type 0
LiesThere k low ts row = (number_at row ts ≡ Some k) × IsAbove low row

module _ (k : ℕ) where
  -- that of the first tablet
  first_there : (low : Option (List ℕ)) (t : Tablet) (ts : List Tablet) (row : List ℕ) → LieAbove low (t ∷ ts) → (t.number == k) ≡ true → cond true (Some (least_above low)) (start_of k t.end ts) ≡ Some row → LiesThere k low (t ∷ ts) row
  first_there low t ts row a n e =
      let is : least_above low ≡ row = some_is (least_above low) row e in
      subst (LiesThere k low (t ∷ ts)) is (
        ap (λ v. option_map (λ (x : Tablet). x.number) (cond v (Some t) (tablet_of (least_above low) ts))) (least_inside low t ts a) ∙ ap Some (nat_same t.number k n),
        least_is_above low,
      )

  starts : (ts : List Tablet) (low : Option (List ℕ)) (row : List ℕ) → AreWhole ts → LieAbove low ts → start_of k low ts ≡ Some row → LiesThere k low ts row
  starts [] low row w a e = absurd w
  starts (t ∷ []) low row w a e = go (t.number == k) refl e
    where
      go : (v : Bool) → (t.number == k) ≡ v → cond v (Some (least_above low)) None ≡ Some row → LiesThere k low (t ∷ []) row
      go true n q = first_there low t [] row a n q
      go false n q = absurd (none-some row q)
  starts (t ∷ s ∷ ts) low row w a e = go (t.number == k) refl (λ b f. starts (s ∷ ts) t.end row w.1 b f) e
    where
      later : (o : Option (List ℕ)) → t.end ≡ o → EndsBefore o s.end → (LieAbove o (s ∷ ts) → start_of k o (s ∷ ts) ≡ Some row → LiesThere k o (s ∷ ts) row) → start_of k o (s ∷ ts) ≡ Some row → LiesThere k low (t ∷ s ∷ ts) row
      later None q b ih f = absurd b
      later (Some end) q b ih f =
          let there : LiesThere k (Some end) (s ∷ ts) row = ih b f in
          let over : is_up_to t.end row ≡ false = ap (λ o. is_up_to o row) q ∙ there.1 in
          (ap (λ v. option_map (λ (x : Tablet). x.number) (cond v (Some t) (tablet_of row (s ∷ ts)))) over ∙ there.0, above_too low end row t (s ∷ ts) q a there.1)

      go : (v : Bool) → (t.number == k) ≡ v → (LieAbove t.end (s ∷ ts) → start_of k t.end (s ∷ ts) ≡ Some row → LiesThere k t.end (s ∷ ts) row) → cond v (Some (least_above low)) (start_of k t.end (s ∷ ts)) ≡ Some row → LiesThere k low (t ∷ s ∷ ts) row
      go true n ih q = first_there low t (s ∷ ts) row a n q
      go false n ih q = later t.end refl w.0 ih q

  -- there is one just where a tablet has the number
  starts_somewhere : (ts : List Tablet) (low : Option (List ℕ)) → has_number k ts ≡ true → (row : List ℕ) × (start_of k low ts ≡ Some row)
  starts_somewhere [] low h = absurd (true≢false (sym h))
  starts_somewhere (t ∷ ts) low h = go (t.number == k) (starts_somewhere ts t.end) h
    where
      go : (v : Bool) → (has_number k ts ≡ true → (row : List ℕ) × (start_of k t.end ts ≡ Some row)) → (v || has_number k ts) ≡ true → (row : List ℕ) × (cond v (Some (least_above low)) (start_of k t.end ts) ≡ Some row)
      go true ih e = (least_above low, refl)
      go false ih e = ih e

  starts_nowhere : (ts : List Tablet) (low : Option (List ℕ)) → has_number k ts ≡ false → start_of k low ts ≡ None
  starts_nowhere [] low h = refl
  starts_nowhere (t ∷ ts) low h = go (t.number == k) (starts_nowhere ts t.end) h
    where
      go : (v : Bool) → (has_number k ts ≡ false → start_of k t.end ts ≡ None) → (v || has_number k ts) ≡ false → cond v (Some (least_above low)) (start_of k t.end ts) ≡ None
      go true ih e = absurd (true≢false e)
      go false ih e = ih e

pub starts_lie_inside : StartsLieInside
starts_lie_inside k ts row w e = (starts k ts None row w tt e).0

-- ---- tablets by number
-- a tablet is one of these
abbrev IsOneOf : Tablet → List Tablet → Type 0
IsOneOf x [] = ⊥
IsOneOf x (t ∷ ts) = (t ≡ x) ⊎ IsOneOf x ts

-- what is found is one, and passes
found_one : (p : Tablet → Bool) (ts : List Tablet) (x : Tablet) → find p ts ≡ Some x → IsOneOf x ts × (p x ≡ true)
found_one p [] x e = absurd (none-some x e)
found_one p (t ∷ ts) x e = go (p t) refl (found_one p ts x) e
  where
    go : (v : Bool) → p t ≡ v → (find p ts ≡ Some x → IsOneOf x ts × (p x ≡ true)) → cond v (Some t) (find p ts) ≡ Some x → IsOneOf x (t ∷ ts) × (p x ≡ true)
    go true q ih f = let is : t ≡ x = some_is t x f in (inl is, ap p (sym is) ∙ q)
    go false q ih f = let more = ih f in (inr more.0, more.1)

one_has : (x : Tablet) (ts : List Tablet) → IsOneOf x ts → has_number x.number ts ≡ true
one_has x [] h = absurd h
one_has x (t ∷ ts) (inl e) = ap (λ v. v || has_number x.number ts) (ap (λ (y : Tablet). y.number == x.number) e ∙ itself x.number)
one_has x (t ∷ ts) (inr h) = or_right (t.number == x.number) (has_number x.number ts) (one_has x ts h)

-- where numbers differ, the number tells which one
one_alone : (x y : Tablet) (ts : List Tablet) → NumbersDiffer ts → IsOneOf x ts → IsOneOf y ts → x.number ≡ y.number → x ≡ y
one_alone x y [] d h g e = absurd h
one_alone x y (t ∷ ts) d (inl a) (inl b) e = sym a ∙ b
one_alone x y (t ∷ ts) d (inl a) (inr b) e = absurd (true≢false (sym (one_has y ts b) ∙ ap (λ k. has_number k ts) (sym e ∙ sym (ap (λ (z : Tablet). z.number) a)) ∙ d.0))
one_alone x y (t ∷ ts) d (inr a) (inl b) e = absurd (true≢false (sym (one_has x ts a) ∙ ap (λ k. has_number k ts) (e ∙ sym (ap (λ (z : Tablet). z.number) b)) ∙ d.0))
one_alone x y (t ∷ ts) d (inr a) (inr b) e = one_alone x y ts d.1 a b e

-- ---- tables
-- a table is one of these
abbrev IsTableOf : TableContents → List TableContents → Type 0
IsTableOf t [] = ⊥
IsTableOf t (u ∷ us) = (u ≡ t) ⊎ IsTableOf t us

-- each is found by its name
later_found : (u : TableContents) (us : List TableContents) (t : TableContents) → AllByRecursion (λ m. bytes_cmp u.name m ≡ Less) (map (λ (x : TableContents). x.name) us) → IsTableOf t us → bytes_eq u.name t.name ≡ false
later_found u [] t a h = absurd h
later_found u (v ∷ us) t a (inl e) = subst (λ (x : TableContents). bytes_eq u.name x.name ≡ false) e (below_other u.name v.name a.0)
later_found u (v ∷ us) t a (inr h) = later_found u us t a.1 h

each_named : (ts : List TableContents) (t : TableContents) → IsStrictlySortedBy bytes_cmp (map (λ (x : TableContents). x.name) ts) → IsTableOf t ts → find (λ (x : TableContents). bytes_eq x.name t.name) ts ≡ Some t
unfolding IsStrictlySortedBy
each_named [] t r h = absurd h
each_named (u ∷ us) t r (inl e) = ap (λ v. cond v (Some u) (find (λ (x : TableContents). bytes_eq x.name t.name) us)) (ap (λ (x : TableContents). bytes_eq x.name t.name) e ∙ (bytes_decides t.name t.name).1 refl) ∙ ap Some e
each_named (u ∷ us) t r (inr h) = ap (λ v. cond v (Some u) (find (λ (x : TableContents). bytes_eq x.name t.name) us)) (later_found u us t r.0 h) ∙ each_named us t r.1 h

-- the tablet that is due is one of a table's
module _ (p : Tablet → Bool) where
  abbrev all_of : List TableContents → List Tablet
  all_of ts = flat_map (λ (t : TableContents). t.tablets) ts

  -- a table, one of whose tablets this is
  record Owner (ts : List TableContents) (x : Tablet) : Type 0 where
    table : TableContents
    here : IsTableOf table ts
    holds : IsOneOf x table.tablets
    passes : p x ≡ true

  owner : (ts : List TableContents) (x : Tablet) → find p (all_of ts) ≡ Some x → Owner ts x
  owner [] x e = absurd (none-some x e)
  owner (t ∷ ts) x e = go (find p t.tablets) refl (owner ts x) (sym (find-append p t.tablets (all_of ts)) ∙ e)
    where
      go : (o : Option Tablet) → find p t.tablets ≡ o → (find p (all_of ts) ≡ Some x → Owner ts x) → option_or o (find p (all_of ts)) ≡ Some x → Owner (t ∷ ts) x
      go None q ih f = let o = ih f in record { table = o.table; here = inr o.here; holds = o.holds; passes = o.passes }
      go (Some y) q ih f = let found = found_one p t.tablets x (q ∙ f) in record { table = t; here = inl refl; holds = found.0; passes = found.1 }

-- ---- targets
-- the table of a target, and the least row of the tablet with the number in it
record Aims (k : ℕ) (ts : List TableContents) (o : Option (List ℕ × List ℕ)) : Type 0 where
  table : TableContents
  here : IsTableOf table ts
  has : has_number k table.tablets ≡ true
  row : List ℕ
  starts : start_of k None table.tablets ≡ Some row
  told : o ≡ Some (table.name, row)

aims : (due : Due) (ts : List TableContents) (t : TableContents) → IsTableOf t ts → has_number due.tablet t.tablets ≡ true → Aims due.tablet ts (target_of due ts)
aims due [] t h n = absurd h
aims due (u ∷ us) t h n = by_bool (has_number due.tablet u.tablets) here (λ g. passed g (other g h (λ i. aims due us t i n)))
  where
    here : has_number due.tablet u.tablets ≡ true → Aims due.tablet (u ∷ us) (target_of due (u ∷ us))
    here g =
        let start = starts_somewhere due.tablet u.tablets None g in
        record { table = u; here = inl refl; has = g; row = start.0; starts = start.1; told = ap (λ o. option_or (option_map (λ r. (u.name, r)) o) (target_of due us)) start.1 }

    passed : has_number due.tablet u.tablets ≡ false → Aims due.tablet us (target_of due us) → Aims due.tablet (u ∷ us) (target_of due (u ∷ us))
    passed g a = record {
      table = a.table;
      here = inr a.here;
      has = a.has;
      row = a.row;
      starts = a.starts;
      told = ap (λ o. option_or (option_map (λ r. (u.name, r)) o) (target_of due us)) (starts_nowhere due.tablet u.tablets None g) ∙ a.told;
    }

    other : has_number due.tablet u.tablets ≡ false → (u ≡ t) ⊎ IsTableOf t us → (IsTableOf t us → Aims due.tablet us (target_of due us)) → Aims due.tablet us (target_of due us)
    other g (inl e) ih = absurd (true≢false (sym n ∙ ap (λ (x : TableContents). has_number due.tablet x.tablets) (sym e) ∙ g))
    other g (inr i) ih = ih i

-- ---- work that is due
-- the kind of what is due, and that it is
record IsDueAs (due : Due) (ts : List TableContents) : Type 0 where
  tablet : Tablet
  number : tablet.number ≡ due.tablet
  owner : Owner (is_due due.kind) ts tablet

due_of_kind : (kind : DueKind) (ts : List TableContents) (due : Due) → due_as kind ts ≡ Some due → IsDueAs due ts
due_of_kind kind ts due e = go (find (is_due kind) (all_of (is_due kind) ts)) refl e
  where
    go : (o : Option Tablet) → find (is_due kind) (all_of (is_due kind) ts) ≡ o → option_map (λ number. record { kind = kind; tablet = number }) (option_map (λ (x : Tablet). x.number) o) ≡ Some due → IsDueAs due ts
    go None q f = absurd (none-some due f)
    go (Some x) q f =
        let is : (let d : Due = record { kind = kind; tablet = x.number } in d) ≡ due = some_is (record { kind = kind; tablet = x.number }) due f in
        subst (λ (d : Due). IsDueAs d ts) is (record { tablet = x; number = refl; owner = owner (is_due kind) ts x q })

first_of : (a b : Option Due) (due : Due) → option_or a b ≡ Some due → (a ≡ Some due) ⊎ (b ≡ Some due)
first_of None b due e = inr e
first_of (Some x) b due e = inl e

due_somewhere : (ts : List TableContents) (due : Due) → due_in ts ≡ Some due → IsDueAs due ts
unfolding due_in
due_somewhere ts due e = go (first_of (due_as Minor ts) (option_or (due_as Partial ts) (due_as Split ts)) due e)
  where
    later : (due_as Partial ts ≡ Some due) ⊎ (due_as Split ts ≡ Some due) → IsDueAs due ts
    later (inl f) = due_of_kind Partial ts due f
    later (inr f) = due_of_kind Split ts due f

    go : (due_as Minor ts ≡ Some due) ⊎ (option_or (due_as Partial ts) (due_as Split ts) ≡ Some due) → IsDueAs due ts
    go (inl f) = due_of_kind Minor ts due f
    go (inr f) = later (first_of (due_as Partial ts) (due_as Split ts) due f)

-- the number of the row's tablet is that of one
number_found : (row : List ℕ) (ts : List Tablet) (k : ℕ) → number_at row ts ≡ Some k → (y : Tablet) × (tablet_of row ts ≡ Some y) × (y.number ≡ k)
number_found row ts k e = go (tablet_of row ts) refl e
  where
    go : (o : Option Tablet) → tablet_of row ts ≡ o → option_map (λ (t : Tablet). t.number) o ≡ Some k → (y : Tablet) × (o ≡ Some y) × (y.number ≡ k)
    go None q f = absurd (none-some k f)
    go (Some y) q f = (y, refl, some_is y.number k f)

-- ---- a store, as long as there are numbers
module _ (h : CoreContents) (store : IsStore h) (numbers : AreNumbered (tablets_in h) h.tablet) where
  named : (t : TableContents) → IsTableOf t h.tables → table_in h t.name ≡ Some t
  named t i = each_named h.tables t store.names i

  its_tablets : (t : TableContents) → IsTableOf t h.tables → tablets_in h t.name ≡ t.tablets
  its_tablets t i = ap tablets_found (named t i)

  -- the number of a tablet tells its table
  one_table : (k : ℕ) (t u : TableContents) → IsTableOf t h.tables → IsTableOf u h.tables → has_number k t.tablets ≡ true → has_number k u.tablets ≡ true → t ≡ u
  one_table k t u i j e f =
      let names : t.name ≡ u.name = numbers.apart t.name u.name k (ap (has_number k) (its_tablets t i) ∙ e) (ap (has_number k) (its_tablets u j) ∙ f) in
      let found : Some t ≡ Some u = sym (named t i) ∙ ap (table_in h) names ∙ named u j in
      some_is t u found

  -- and the tablet of the row where it starts is the one with the number
  there : (k : ℕ) (t : TableContents) (row : List ℕ) (x : Tablet) → IsTableOf t h.tables → start_of k None t.tablets ≡ Some row → IsOneOf x t.tablets → x.number ≡ k → tablet_of row t.tablets ≡ Some x
  there k t row x i s one n =
      let whole : AreWhole t.tablets = (store.tables t.name t (named t i)).whole in
      let inside = number_found row t.tablets k (starts_lie_inside k t.tablets row whole s) in
      let found : IsOneOf inside.0 t.tablets = (found_one (λ (y : Tablet). is_up_to y.end row) t.tablets inside.0 inside.1).0 in
      let differ : NumbersDiffer t.tablets = subst NumbersDiffer (its_tablets t i) (numbers.once t.name) in
      let is : inside.0 ≡ x = one_alone inside.0 x t.tablets differ found one (inside.2 ∙ sym n) in
      inside.1 ∙ ap Some is

  module _ (due : Due) (d : IsDueAs due h.tables) where
    abbrev o : Owner (is_due due.kind) h.tables d.tablet
    o = d.owner

    has : has_number due.tablet o.table.tablets ≡ true
    has = subst (λ k. has_number k o.table.tablets ≡ true) d.number (one_has d.tablet o.table.tablets o.holds)

    aimed : Aims due.tablet h.tables (target_of due h.tables) → (name : List ℕ) × (row : List ℕ) × IsTarget h due name row
    aimed a =
        let same : o.table ≡ a.table = one_table due.tablet o.table a.table o.here a.here has a.has in
        let holds : IsOneOf d.tablet a.table.tablets = subst (λ (t : TableContents). IsOneOf d.tablet t.tablets) same o.holds in (
          a.table.name,
          a.row,
          record {
            told = a.told;
            tablet = d.tablet;
            there = ap (tablet_of a.row) (its_tablets a.table a.here) ∙ there due.tablet a.table a.row d.tablet a.here a.starts holds d.number;
            number = d.number;
            due = o.passes;
          },
        )

    target : (name : List ℕ) × (row : List ℕ) × IsTarget h due name row
    target = aimed (aims due h.tables o.table o.here has)

pub targets_are_due : TargetsAreDue
targets_are_due h due store few e = target h store (store.numbers few) due (due_somewhere h.tables due e)
