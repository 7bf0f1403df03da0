-- What an accepted event changes keeps to the settings of its table.
use Rattle.std.proofs.Common.{◌≡◌, ◌⊎◌, inl, inr, ℕ, ◌+◌, ◌≤◌, List, [], ◌∷◌, ◌++◌, Bool, true, false, cond, refl, sym, subst, arith}
use Rattle.std.specs.Prelude.{ℤ, int_le, int_lt, nat_lt, not, Option, Some, None, map, reverse, unwrap_or, is_some, option_map}
use Rattle.std.specs.List.{AllByRecursion}
use Rattle.std.proofs.lemmas.Int.{ints}
use Rattle.std.proofs.lemmas.Bool.Decides.{nat_tests}
use Rattle.std.proofs.lemmas.Grind.{reverse_onto}
use mathlib.Core.Bool.{true≢false}
use Rattle.tab_policy.specs.declared.permission.Permission.{Permission}
use Rattle.tab_policy.specs.declared.permission.Permission.TheVariants.{OfSystem, OfTable}
use Rattle.tab_history.specs.declared.event.TimeMode.{TimeMode}
use Rattle.tab_history.specs.declared.event.TimeMode.TheVariants.{Any, Server}
use Rattle.tab_history.specs.declared.event.Act.{Act}
use Rattle.tab_history.specs.declared.event.Act.TheVariants.{Write, CreateTable, DropTable, SetConstraints, SetVersions, SetHorizon, CreateUser, DropUser, SetAuths, Grant, Revoke}
use Rattle.tab_history.specs.declared.event.Step.{Step}
use Rattle.tab_history.specs.declared.reply.Refusal.TheVariants.{TimestampNotAllowed, BelowHorizon, VersionsRaised, HorizonLowered, ServerTime}
use Rattle.tab_key.specs.Records.{Record}
use Rattle.tab_key.specs.Sorted.{IsIn}
use Rattle.tab_history.specs.Answers.{Told, changes_by}
use Rattle.tab_history.specs.Bases.{Base}
use Rattle.tab_cells.specs.Written.{TimedUpdate, timed, records_of}
use Rattle.tab_history.specs.Changes.{Change, VersionsSet, HorizonSet, Written, given, taken, changes_of}
use Rattle.tab_history.specs.Checks.{standing, user_named, exists_in, shape_refusal, malformed, stamped, outdated, violated, mutation_checks, version_checks, horizon_checks, refusal_of}
use Rattle.tab_history.specs.Held.{floor_of}
use Rattle.tab_history.specs.Histories.{Entry, World, clock_of, clock_at, journal}
use Rattle.tab_history.specs.Legal.{IsAnswer, LacksMemory}
use Rattle.tab_mutation.specs.Mutations.{Update, Mutation}
use Rattle.tab_history.specs.Readings.{next_number}
use Rattle.tab_history.specs.Settings.{Settings, takes_timestamps}
use Rattle.tab_mutation.specs.Shape.{first_some, when, first_index, shape_error}
use Rattle.tab_rules.specs.Verdict.{violations}
use Rattle.tab_history.proofs.Options.{or_else_left, or_else_right, unmapped}
use Rattle.tab_history.proofs.Accepted.{own_pass, of_legal}
use Rattle.tab_history.proofs.Refines.{table_floor, Fits, FitAll}

-- ---- lists
all_map : {X Y : Type 0} (P : Y → Type 0) (f : X → Y) (xs : List X) → AllByRecursion (λ x. P (f x)) xs → AllByRecursion P (map f xs)
all_map P f [] a = tt
all_map P f (x ∷ xs) a = (a.0, all_map P f xs a.1)

all_append : {X : Type 0} (P : X → Type 0) (xs ys : List X) → AllByRecursion P xs → AllByRecursion P ys → AllByRecursion P (xs ++ ys)
all_append P [] ys a b = b
all_append P (x ∷ xs) ys a b = (a.0, all_append P xs ys a.1 b)

all_reverse : {X : Type 0} (P : X → Type 0) (xs : List X) → AllByRecursion P xs → AllByRecursion P (reverse xs)
all_reverse P [] a = tt
all_reverse P (x ∷ xs) a = subst (AllByRecursion P) (sym (reverse_onto xs x [])) (all_append P (reverse xs) (x ∷ []) (all_reverse P xs a.1) (a.0, tt))

all_weaker : {X : Type 0} (P Q : X → Type 0) → ((x : X) → P x → Q x) → (xs : List X) → AllByRecursion P xs → AllByRecursion Q xs
all_weaker P Q f [] a = tt
all_weaker P Q f (x ∷ xs) a = (f x a.0, all_weaker P Q f xs a.1)

no_place : {X : Type 0} (p : X → Bool) (i : ℕ) (xs : List X) → first_index p i xs ≡ None → AllByRecursion (λ x. p x ≡ false) xs
no_place p i [] e = tt
no_place p i (x ∷ xs) e = go (p x) refl e (no_place p (i + 1) xs)
  where
    go : (v : Bool) → p x ≡ v → cond v (Some i) (first_index p (i + 1) xs) ≡ None → (first_index p (i + 1) xs ≡ None → AllByRecursion (λ y. p y ≡ false) xs) → AllByRecursion (λ y. p y ≡ false) (x ∷ xs)
    go true t e ih = absurd (cc)
    go false t e ih = (t, ih e)

-- ---- timestamps
not_under : (x y : ℤ) → int_lt x y ≡ false → int_le y x ≡ true
not_under x y e = grind (arith, ints)

le_self : (x : ℤ) → int_le x x ≡ true
le_self x = grind (arith, ints)

the_clock : (o : Option ℤ) (now : ℤ) → is_some o ≡ false → int_le now (unwrap_or o now) ≡ true
the_clock None now e = le_self now
the_clock (Some x) now e = absurd (true≢false e)

-- each timestamp of a mutation that is accepted lies at or above the table's floor
settled : (s : Settings) (m : Mutation) (now : ℤ) → stamped s m ≡ None → outdated s now m ≡ None → AllByRecursion (λ (u : Update). int_le (table_floor s now) (unwrap_or u.timestamp now) ≡ true) m.updates
unfolding stamped outdated
settled s m now e f = go s.time e
  where
    go : (time : TimeMode) → cond (takes_timestamps time) None (option_map TimestampNotAllowed (first_index (λ (u : Update). is_some u.timestamp) 0 m.updates)) ≡ None → AllByRecursion (λ (u : Update). int_le (floor_of time now s.horizon) (unwrap_or u.timestamp now) ≡ true) m.updates
    go Any e = all_weaker _ _ (λ u p. not_under (unwrap_or u.timestamp now) s.horizon p) m.updates (no_place (λ (u : Update). int_lt (unwrap_or u.timestamp now) s.horizon) 0 m.updates (unmapped BelowHorizon _ f))
    go Server e = all_weaker _ _ (λ u p. the_clock u.timestamp now p) m.updates (no_place (λ (u : Update). is_some u.timestamp) 0 m.updates (unmapped TimestampNotAllowed _ e))

in_numbered : (low : ℤ) (seq : ℕ) (row : List ℕ) (ps : List TimedUpdate) → AllByRecursion (λ (p : TimedUpdate). int_le low p.timestamp ≡ true) ps → (u : Record) → IsIn (records_of seq row ps) u → int_le low u.key.timestamp ≡ true
unfolding records_of
in_numbered low seq row [] a u h = absurd h
in_numbered low seq row (p ∷ ps) a u (inl e) = subst (λ (r : Record). int_le low r.key.timestamp ≡ true) e a.0
in_numbered low seq row (p ∷ ps) a u (inr h) = in_numbered low seq row ps a.1 u h

unwanted : {X : Type 0} (v : Bool) (x : X) → when v x ≡ None → v ≡ false
unwanted true x e = absurd (cc)
unwanted false x e = refl

no_less : (n many : ℕ) → nat_lt n many ≡ false → many ≤ n
no_less n many e = grind (arith, nat_tests)

-- ---- by acts
module _ (b : Base) (j : List Change) (now : ℤ) (user : List ℕ) where
  write_fits : (there : Bool) (t : List ℕ) (m : Mutation) → refusal_of (standing b j user) there now user (Write t m) ≡ None → Fits b j now (Written t m.row (reverse (map (timed now) m.updates)))
  unfolding standing
  write_fits there t m e s q u h = in_numbered (table_floor s now) (next_number b j) m.row _ (all_reverse _ _ (all_map _ (timed now) m.updates (settled s m now (or_else_left (stamped s m) _ tail) (or_else_left (outdated s now m) _ (or_else_right (stamped s m) _ tail))))) u h
    where
      passed : first_some (mutation_checks (Some s) (standing b j user).auths now m) ≡ None
      passed = subst (λ o. first_some (mutation_checks o (standing b j user).auths now m) ≡ None) q (own_pass (standing b j user) there now user (Write t m) e)

      tail : first_some (stamped s m ∷ outdated s now m ∷ violated (violations s.constraints (standing b j user).auths m) ∷ []) ≡ None
      tail = or_else_right (malformed m) _ (or_else_right (option_map shape_refusal (shape_error m)) _ passed)

  versions_fit : (there : Bool) (t : List ℕ) (many : ℕ) → refusal_of (standing b j user) there now user (SetVersions t many) ≡ None → Fits b j now (VersionsSet t many)
  unfolding standing
  versions_fit there t many e s q = no_less s.versions many (unwanted (nat_lt s.versions many) (VersionsRaised s.versions) (or_else_left _ _ passed))
    where
      passed : first_some (version_checks (Some s) many) ≡ None
      passed = subst (λ o. first_some (version_checks o many) ≡ None) q (own_pass (standing b j user) there now user (SetVersions t many) e)

  horizon_fits : (there : Bool) (t : List ℕ) (low : ℤ) → refusal_of (standing b j user) there now user (SetHorizon t low) ≡ None → Fits b j now (HorizonSet t low)
  unfolding standing
  horizon_fits there t low e s q = not_under low s.horizon (unwanted (int_lt low s.horizon) (HorizonLowered s.horizon) (or_else_left _ _ (or_else_right (when (not (takes_timestamps s.time)) ServerTime) _ passed)))
    where
      passed : first_some (horizon_checks (Some s) low) ≡ None
      passed = subst (λ o. first_some (horizon_checks o low) ≡ None) q (own_pass (standing b j user) there now user (SetHorizon t low) e)

  given_fits : (n : List ℕ) (p : Permission) → FitAll b j now (given n p ∷ [])
  given_fits n (OfSystem p) = (tt, tt)
  given_fits n (OfTable p t) = (tt, tt)

  taken_fits : (n : List ℕ) (p : Permission) → FitAll b j now (taken n p ∷ [])
  taken_fits n (OfSystem p) = (tt, tt)
  taken_fits n (OfTable p t) = (tt, tt)

  -- the changes of an event that isn't refused fit
  act_fits : (there : Bool) (act : Act) → refusal_of (standing b j user) there now user act ≡ None → FitAll b j now (changes_of now user act)
  act_fits there (Write t m) e = (tt, write_fits there t m e)
  act_fits there (CreateTable t time n) e = ((((((tt, tt), tt), tt), tt), tt), tt)
  act_fits there (DropTable t) e = (tt, tt)
  act_fits there (SetConstraints t cs) e = (tt, tt)
  act_fits there (SetVersions t many) e = (tt, versions_fit there t many e)
  act_fits there (SetHorizon t low) e = (tt, horizon_fits there t low e)
  act_fits there (CreateUser n) e = (tt, tt)
  act_fits there (DropUser n) e = (tt, tt)
  act_fits there (SetAuths n auths) e = (tt, tt)
  act_fits there (Grant n p) e = given_fits n p
  act_fits there (Revoke n p) e = taken_fits n p
  act_fits there act e = tt

-- and so do those of each entry of a legal history
pub fits_legal : (w : World) (es own : List Entry) (step : Step) (r : Told) → IsAnswer w es own step r ⊎ LacksMemory step r → FitAll w.base (journal w es) (clock_at (clock_of w es) step) (changes_by (clock_at (clock_of w es) step) step r)
fits_legal w es own step r a =
    let now = clock_at (clock_of w es) step in
    of_legal w es own step r (FitAll w.base (journal w es) now) tt (λ e passed. act_fits w.base (journal w es) now e.user (exists_in w.base (journal w es) (user_named e.act)) e.act passed) a
