-- Want of memory is no answer, so in a legal history it stands only where memory may lack.
use Rattle.std.proofs.Common.{◌≡◌, ◌⊎◌, inl, inr, ℕ, ◌+◌, List, [], ◌∷◌, Bool, true, false, cond, ◌&&◌, not, refl, sym, ◌∙◌, ap}
use Rattle.std.specs.Prelude.{ℤ, bytes_eq, nat_lt, int_lt, length, is_some, Option, Some, None, Result, Ok, Err, option_map}
use mathlib.Core.Bool.{true≢false}
use Rattle.tab_key.specs.Ranges.{is_bad_range}
use Rattle.tab_key.specs.declared.range.Bounds.{Bounds}
use Rattle.tab_key.specs.declared.limited_part.LimitedPart.TheVariants.{Columns, Authorizations, Sessions}
use Rattle.tab_label.specs.Sets.{first_missing}
use Rattle.tab_label.specs.Reading.{label_of}
use Rattle.tab_mutation.specs.Mutations.{Update, Mutation}
use Rattle.tab_mutation.specs.Shape.{or_else, first_some, when, first_found, shape_error}
use Rattle.tab_mutation.specs.declared.shape_error.ShapeError.{ShapeError}
use Rattle.tab_mutation.specs.declared.shape_error.ShapeError.TheVariants as shape
use Rattle.tab_rules.specs.Verdict.{violations}
use Rattle.tab_rules.specs.declared.violation.Violation.{Violation}
use Rattle.tab_policy.specs.Decisions.{decision}
use Rattle.tab_policy.specs.Roots.{root}
use Rattle.tab_policy.specs.declared.decision.Denial.{Denial}
use Rattle.tab_policy.specs.declared.decision.Denial.TheVariants as policy
use Rattle.tab_policy.specs.declared.permission.Permission.{Permission}
use Rattle.tab_policy.specs.declared.permission.Permission.TheVariants.{OfSystem, OfTable}
use Rattle.tab_history.specs.declared.event.Act.{Act}
use Rattle.tab_history.specs.declared.event.Act.TheVariants.{Open, Write, CreateTable, SetVersions, SetHorizon, CreateUser, DropUser, SetAuths, Grant, Revoke, Status, AddSplit, SplitBySize, Splits, Begin, Install}
use Rattle.tab_history.specs.declared.event.Scan.{Scan}
use Rattle.tab_history.specs.declared.event.Step.{Step}
use Rattle.tab_history.specs.declared.event.Step.TheVariants.{Event, Next, Many, Close, Merge}
use Rattle.tab_history.specs.declared.reply.Refusal.{Refusal}
use Rattle.tab_history.specs.declared.reply.Refusal.TheVariants.{NoMemory, TooLarge, TableExists, UserExists, NoUser, BadAuthorizations, BadRange, TimestampNotAllowed, BelowHorizon, VersionsRaised, HorizonLowered, ServerTime, RootFixed, GrantInvalid}
use Rattle.tab_history.specs.declared.reply.Reply.TheVariants.{Refused}
use Rattle.tab_history.specs.Settings.{Settings, takes_timestamps}
use Rattle.tab_history.specs.Bases.{Base}
use Rattle.tab_history.specs.Changes.{Change}
use Rattle.tab_history.specs.Checks.{Caller, standing, user_named, exists_in, action_of, denial, shape_refusal, malformed_at, malformed, stamped, outdated, violated, mutation_checks, version_checks, horizon_checks, too_many_auths, scan_checks, is_grant, right_checks, own_checks, refusal_of, many_checks}
use Rattle.tab_history.specs.Answers.{Told, granted, told, are_used_up, numbered, event_answer, is_open, next_answer, many_answer, close_answer, merge_answer, empty_slot, slotted, answer, leaves_open, MayTell}
use Rattle.tab_history.specs.Sessions.{Move, is_full, session_in}
use Rattle.tab_history.specs.Jobs.{JobMove, job_in, is_waiting}
use Rattle.tab_cells.specs.SessionState.{SessionState}
use Rattle.tab_history.specs.Histories.{Entry, World, clock_of, clock_at, journal, user_of, moves_of, jobs_of}
use Rattle.tab_history.specs.Legal.{answer_at, IsAnswer, LacksMemory, may_lack, Legal, LegalAlone, LacksWhereItMay}
use Rattle.tab_history.specs.Runs.{MemoryLacksWhereItMay}
use Rattle.tab_history.proofs.LeftOpen.{of_reply}

-- ---- checks
-- whether the refusal is want of memory
abbrev wants : Refusal → Bool
wants NoMemory = true
wants _ = false

abbrev says_want : Option Refusal → Bool
says_want None = false
says_want (Some r) = wants r

-- it isn't
abbrev Speaks : Option Refusal → Type 0
Speaks o = says_want o ≡ false

abbrev All : List (Option Refusal) → Type 0
All [] = Unit {0}
All (o ∷ os) = Speaks o × All os

either : (a b : Option Refusal) → Speaks a → Speaks b → Speaks (or_else a b)
either None b p q = q
either (Some r) b p q = p

first : (os : List (Option Refusal)) → All os → Speaks (first_some os)
first [] h = refl
first (o ∷ os) h = either o (first_some os) h.0 (first os h.1)

unless : (b : Bool) (r : Refusal) → wants r ≡ false → Speaks (when b r)
unless true r e = e
unless false r e = refl

mapped : {X : Type 0} (f : X → Refusal) → ((x : X) → wants (f x) ≡ false) → (o : Option X) → Speaks (option_map f o)
mapped f h None = refl
mapped f h (Some x) = h x

found : (f : ℕ → Update → Option Refusal) → ((i : ℕ) (u : Update) → Speaks (f i u)) → (i : ℕ) (us : List Update) → Speaks (first_found f i us)
found f h i [] = refl
found f h i (u ∷ us) = either (f i u) (first_found f (i + 1) us) (h i u) (found f h (i + 1) us)

denied : (user : List ℕ) (d : Option Denial) → Speaks (denial user d)
denied user None = refl
denied user (Some policy.UnknownUser) = refl
denied user (Some (policy.NoTable t)) = refl
denied user (Some (policy.PermissionDenied p)) = refl

shaped : (e : ShapeError) → wants (shape_refusal e) ≡ false
shaped shape.Empty = refl
shaped (shape.TooLarge part) = refl

misread : {X : Type 0} (i : ℕ) (r : Result X ℕ) → Speaks (malformed_at i r)
misread i (Ok label) = refl
misread i (Err offset) = refl

not_taken : (b : Bool) (o : Option Refusal) → Speaks o → Speaks (cond b None o)
not_taken true o h = refl
not_taken false o h = h

failed : (fs : List Violation) → Speaks (violated fs)
failed [] = refl
failed (f ∷ fs) = refl

of_mutation : (o : Option Settings) (auths : List (List ℕ)) (now : ℤ) (m : Mutation) → All (mutation_checks o auths now m)
unfolding malformed stamped outdated
of_mutation None auths now m = tt
of_mutation (Some s) auths now m = (
  mapped shape_refusal shaped (shape_error m),
  (
    found _ (λ i u. misread i (label_of u.label)) 0 m.updates,
    (
      not_taken (takes_timestamps s.time) _ (mapped TimestampNotAllowed (λ i. refl) _),
      (
        mapped BelowHorizon (λ i. refl) _,
        (failed (violations s.constraints auths m), tt),
      ),
    ),
  ),
)

of_scan : (auths : List (List ℕ)) (scan : Scan) → All (scan_checks auths scan)
of_scan auths scan = (
  unless (nat_lt 1000 (length scan.columns)) (TooLarge Columns) refl,
  (
    unless (too_many_auths scan.authorizations) (TooLarge Authorizations) refl,
    (
      unless (is_bad_range scan.bounds.low scan.bounds.high) BadRange refl,
      (mapped BadAuthorizations (λ a. refl) (first_missing scan.authorizations auths), tt),
    ),
  ),
)

of_right : (there : Bool) (n : List ℕ) (p : Permission) → All (right_checks there n p)
of_right there n (OfSystem p) = (unless (is_grant p) GrantInvalid refl, (unless (not there) (NoUser n) refl, (unless (bytes_eq n root) RootFixed refl, tt)))
of_right there n (OfTable p t) = (unless (not there) (NoUser n) refl, tt)

of_versions : (o : Option Settings) (many : ℕ) → All (version_checks o many)
of_versions None many = tt
of_versions (Some s) many = (unless (nat_lt s.versions many) (VersionsRaised s.versions) refl, tt)

of_horizon : (o : Option Settings) (low : ℤ) → All (horizon_checks o low)
of_horizon None low = tt
of_horizon (Some s) low = (unless (not (takes_timestamps s.time)) ServerTime refl, (unless (int_lt low s.horizon) (HorizonLowered s.horizon) refl, tt))

of_own : (c : Caller) (there : Bool) (now : ℤ) (act : Act) → All (own_checks c there now act)
of_own c there now (Open scan) = of_scan c.auths scan
of_own c there now (Write t m) = of_mutation (c.settings t) c.auths now m
of_own c there now (CreateTable t time n) = (unless (is_some (c.settings t)) (TableExists t) refl, tt)
of_own c there now (SetVersions t many) = of_versions (c.settings t) many
of_own c there now (SetHorizon t low) = of_horizon (c.settings t) low
of_own c there now (CreateUser n) = (unless there (UserExists n) refl, tt)
of_own c there now (DropUser n) = (unless (not there) (NoUser n) refl, (unless (bytes_eq n root) RootFixed refl, tt))
of_own c there now (SetAuths n auths) = (unless (too_many_auths auths) (TooLarge Authorizations) refl, (unless (not there) (NoUser n) refl, tt))
of_own c there now (Grant n p) = of_right there n p
of_own c there now (Revoke n p) = of_right there n p
of_own c there now (AddSplit t row) = (unless _ _ refl, tt)
of_own c there now (SplitBySize t row limit) = (unless _ _ refl, tt)
of_own c there now act = tt

of_refusal : (c : Caller) (there : Bool) (now : ℤ) (user : List ℕ) (act : Act) → Speaks (refusal_of c there now user act)
unfolding refusal_of
of_refusal c there now user act = first (denial user (decision c.policy (action_of act)) ∷ own_checks c there now act) (denied user (decision c.policy (action_of act)), of_own c there now act)

-- ---- answers
abbrev tells_want : Told → Bool
tells_want (Refused r) = wants r
tells_want _ = false

of_granted : (c : Caller) (act : Act) → tells_want (granted c act) ≡ false
of_granted c (Open scan) = refl
of_granted c _ = refl

of_numbered : (used_up : Bool) (c : Caller) (act : Act) → tells_want (numbered used_up (granted c act)) ≡ false
of_numbered true c act = refl
of_numbered false c act = of_granted c act

of_told : (o : Option Refusal) (reply : Told) → Speaks o → tells_want reply ≡ false → tells_want (told o reply) ≡ false
of_told None reply p q = q
of_told (Some r) reply p q = p

of_next : (o : Option SessionState) (slot n : ℕ) → tells_want (next_answer o slot n) ≡ false
of_next None slot n = refl
of_next (Some held) slot n = refl

of_many : (o : Option SessionState) (slot : ℕ) (ranges : List Bounds) → tells_want (many_answer o slot ranges) ≡ false
of_many None slot ranges = refl
of_many (Some held) slot ranges = of_told (first_some (many_checks ranges)) _ (first (many_checks ranges) (unless _ _ refl, (unless _ _ refl, tt))) refl

of_close : (o : Option SessionState) (slot : ℕ) → tells_want (close_answer o slot) ≡ false
of_close None slot = refl
of_close (Some held) slot = refl

of_merge : (waits : Bool) (slot : ℕ) → tells_want (merge_answer waits slot) ≡ false
of_merge true slot = refl
of_merge false slot = refl

of_slot : (o : Option ℕ) (reply : Told) → tells_want reply ≡ false → tells_want (slotted o reply) ≡ false
of_slot None reply h = h
of_slot (Some slot) reply h = refl

of_answer : (b : Base) (j : List Change) (moves : List Move) (jobs : List JobMove) (now : ℤ) (step : Step) → tells_want (answer b j moves jobs now step) ≡ false
unfolding answer
of_answer b j moves jobs now (Event e) = go (is_open e.act && is_full moves)
  where
    go : (v : Bool) → tells_want (cond v (Refused (TooLarge Sessions)) (slotted (empty_slot jobs e.act) (event_answer b j now e.user e.act))) ≡ false
    go true = refl
    go false = of_slot (empty_slot jobs e.act) _ (of_told (refusal_of (standing b j e.user) (exists_in b j (user_named e.act)) now e.user e.act) _ (of_refusal (standing b j e.user) (exists_in b j (user_named e.act)) now e.user e.act) (of_numbered (are_used_up b j e.act) (standing b j e.user) e.act))
of_answer b j moves jobs now (Next user slot n) = of_next (session_in moves slot) slot n
of_answer b j moves jobs now (Many user slot ranges) = of_many (session_in moves slot) slot ranges
of_answer b j moves jobs now (Close user slot) = of_close (session_in moves slot) slot
of_answer b j moves jobs now (Merge slot) = of_merge (is_waiting (job_in jobs slot)) slot

-- what may be told in the place of an answer isn't want of memory either
of_open : (act : Act) (plain reply : Told) → tells_want plain ≡ false → leaves_open act ≡ true → MayTell act plain reply → tells_want reply ≡ false
of_open (Status t) plain reply p o m = ap tells_want m.1
of_open (AddSplit t row) plain reply p o (inl e) = ap tells_want e ∙ p
of_open (AddSplit t row) plain reply p o (inr (inl e)) = ap tells_want e
of_open (AddSplit t row) plain reply p o (inr (inr e)) = ap tells_want e
of_open (SplitBySize t row limit) plain reply p o (inl e) = ap tells_want e ∙ p
of_open (SplitBySize t row limit) plain reply p o (inr (inl e)) = ap tells_want e
of_open (SplitBySize t row limit) plain reply p o (inr (inr (inl e))) = ap tells_want e
of_open (SplitBySize t row limit) plain reply p o (inr (inr (inr e))) = ap tells_want e
of_open (Splits t) plain reply p o m = ap tells_want m.1
of_open (Begin t row kind) plain reply p o (inl e) = ap tells_want e
of_open (Begin t row kind) plain reply p o (inr e) = ap tells_want e
of_open (Install t given) plain reply p o (inl e) = ap tells_want e ∙ p
of_open (Install t given) plain reply p o (inr s) = ap tells_want s.1
of_open _ plain reply p o m = absurd (true≢false (sym o))

-- ---- histories
one : (w : World) (es own : List Entry) (e : Entry) → IsAnswer w es own e.step e.reply ⊎ LacksMemory e.step e.reply → e.reply ≡ Refused NoMemory → may_lack e.step ≡ true
one w es own e (inl is) lacks =
    let plain = answer_at w es own e.step in
    let speaks : tells_want plain ≡ false = of_answer w.base (journal w es) (moves_of w (user_of e.step) own) (jobs_of own) (clock_at (clock_of w es) e.step) e.step in
    absurd (true≢false (sym (ap tells_want lacks) ∙ of_reply (λ r. tells_want r ≡ false) e.step plain e.reply is speaks (λ f q o m. of_open f.act plain e.reply speaks o m)))
one w es own e (inr lacks) is = lacks.0

pub legal : (w : World) (es : List Entry) → Legal w es → LacksWhereItMay es
legal w [] l = tt
legal w (e ∷ es) l = (legal w es l.0, one w es es e l.1)

pub alone : (w : World) (es : List Entry) → LegalAlone w es → LacksWhereItMay es
alone w [] l = tt
alone w (e ∷ es) l = (alone w es l.0, one w es [] e l.1)

pub memory_lacks_where_it_may : MemoryLacksWhereItMay
memory_lacks_where_it_may w es = (legal w es, alone w es)
