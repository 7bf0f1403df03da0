-- An event that is told what takes memory to copy changed nothing and takes memory itself: so it can be refused for want of memory instead.
use Rattle.std.proofs.Common.{◌≡◌, ◌⊎◌, inl, inr, ℕ, ℤ, Bool, true, false, cond, List, [], ◌∷◌, Option, Some, None, refl, sym, ap, ◌∙◌, subst}
use Rattle.std.specs.Prelude.{not, nat_lt, int_lt, bytes_eq}
use Rattle.std.specs.List.{AllByRecursion}
use Rattle.std.proofs.lemmas.Slice.Eq.{bytes_eq-Decides}
use Rattle.tab_key.specs.declared.limited_part.LimitedPart.TheVariants.{Authorizations}
use Rattle.std.specs.Int.{int_max}
use Rattle.tab_mutation.specs.Shape.{or_else, first_some, when}
use Rattle.tab_policy.specs.Roots.{root}
use Rattle.tab_policy.specs.Decisions.{decision}
use Rattle.tab_policy.specs.declared.permission.Permission.TheVariants.{OfSystem, OfTable}
use Rattle.tab_policy.specs.declared.decision.Denial.{Denial}
use Rattle.tab_policy.specs.declared.decision.Denial.TheVariants as policy
use Rattle.tab_session.specs.OpenSession.{OpenSession}
use Rattle.tab_history.specs.Checks.{Caller, standing, exists_in, user_named, action_of, denial, too_many_auths, is_grant, version_checks, horizon_checks, own_checks, refusal_of}
use Rattle.tab_history.specs.Settings.{Settings, takes_timestamps}
use Rattle.tab_history.specs.declared.event.Given.TheVariants.{ByHand}
use Rattle.tab_history.specs.Answers.{Told, told, told_of, job_of, numbered, granted, are_used_up, event_answer}
use Rattle.tab_history.specs.Legal.{takes_memory}
use Rattle.tab_history.specs.declared.event.Act.{Act}
use Rattle.tab_history.specs.declared.event.Act.TheVariants as act
use Rattle.tab_history.specs.declared.reply.Refusal.{Refusal}
use Rattle.tab_history.specs.declared.reply.Refusal.TheVariants.{BadAuthorizations, ConstraintViolation, TooLarge, NoUser, RootFixed, GrantInvalid, VersionsRaised, HorizonLowered, ServerTime, NoMemory}
use Rattle.tab_history.specs.declared.reply.Reply.{Reply}
use Rattle.tab_history.specs.declared.reply.Reply.TheVariants.{Done, Refused, Begun}
use Rattle.tab_store.specs.Parts.{TabletMerge}
use Rattle.tab_store.specs.Stores.{CoreContents, base_of, tablets_in}
use Rattle.tab_store.specs.InstalledType.{Installed}
use Rattle.tab_store.specs.InstalledVariants as installed
use Rattle.tab_store.specs.Stepping.{StepsExactly, TableWork, work_of, lays, told_split, told_job, told_install, told_exactly, laid_told, tablet_told, job_told}
use Rattle.tab_store.specs.SplitType.{Split}
use Rattle.tab_store.specs.SplitVariants as split
use Rattle.tab_core.specs.EventReplies.{is_long_refusal, is_long}
use Rattle.tab_core.specs.Spending.{left_of}
use Rattle.tab_core.specs.Stepping.{changes_told, Becomes, Acts, installs_at}

-- ---- which refusals take no memory to copy
-- a refusal that takes none, if there is one
abbrev IsShort : Option Refusal → Type 0
IsShort None = Unit {0}
IsShort (Some r) = is_long_refusal r ≡ false

short_when : (b : Bool) (r : Refusal) → is_long_refusal r ≡ false → IsShort (when b r)
short_when true r e = e
short_when false r e = tt

short_first : (os : List (Option Refusal)) → AllByRecursion IsShort os → IsShort (first_some os)
short_first [] all = tt
short_first (None ∷ os) all = short_first os all.1
short_first (Some r ∷ os) all = all.0

short_denial : (user : List ℕ) (d : Option Denial) → IsShort (denial user d)
short_denial user None = tt
short_denial user (Some policy.UnknownUser) = refl
short_denial user (Some (policy.NoTable t)) = refl
short_denial user (Some (policy.PermissionDenied p)) = refl

short_versions : (o : Option Settings) (many : ℕ) → AllByRecursion IsShort (version_checks o many)
short_versions None many = tt
short_versions (Some s) many = (short_when (nat_lt s.versions many) (VersionsRaised s.versions) refl, tt)

short_horizon : (o : Option Settings) (low : ℤ) → AllByRecursion IsShort (horizon_checks o low)
short_horizon None low = tt
short_horizon (Some s) low = (short_when (not (takes_timestamps s.time)) ServerTime refl, (short_when (int_lt low s.horizon) (HorizonLowered s.horizon) refl, tt))

-- those of an act that takes no memory
short_own : (c : Caller) (there : Bool) (now : ℤ) (a : Act) → takes_memory a ≡ false → AllByRecursion IsShort (own_checks c there now a)
short_own c there now (act.DropTable t) e = tt
short_own c there now (act.SetConstraints t cs) e = tt
short_own c there now (act.SetVersions t many) e = short_versions (c.settings t) many
short_own c there now (act.SetHorizon t low) e = short_horizon (c.settings t) low
short_own c there now (act.DropUser n) e = (short_when (not there) (NoUser n) refl, (short_when (bytes_eq n root) RootFixed refl, tt))
short_own c there now (act.SetAuths n auths) e = (short_when (too_many_auths auths) (TooLarge Authorizations) refl, (short_when (not there) (NoUser n) refl, tt))
short_own c there now (act.Revoke n (OfSystem p)) e = (short_when (is_grant p) GrantInvalid refl, (short_when (not there) (NoUser n) refl, (short_when (bytes_eq n root) RootFixed refl, tt)))
short_own c there now (act.Revoke n (OfTable p t)) e = (short_when (not there) (NoUser n) refl, tt)
short_own c there now (act.Status t) e = tt
short_own c there now act.Save e = tt
short_own c there now act.Load e = tt
short_own c there now act.Rotate e = tt
short_own c there now _ e = absurd (cc)

long_takes : (c : Caller) (there : Bool) (now : ℤ) (user : List ℕ) (a : Act) (x : Refusal) (b : Bool) → takes_memory a ≡ b → first_some (denial user (decision c.policy (action_of a)) ∷ own_checks c there now a) ≡ Some x → is_long_refusal x ≡ true → b ≡ true
long_takes c there now user a x true e is long = refl
long_takes c there now user a x false e is long =
    let short : is_long_refusal x ≡ false = subst IsShort is (short_first (denial user (decision c.policy (action_of a)) ∷ own_checks c there now a) (short_denial user (decision c.policy (action_of a)), short_own c there now a e)) in
    absurd (cc (sym long ∙ short))

refusal_takes : (c : Caller) (there : Bool) (now : ℤ) (user : List ℕ) (a : Act) (x : Refusal) → refusal_of c there now user a ≡ Some x → is_long_refusal x ≡ true → takes_memory a ≡ true
unfolding refusal_of
refusal_takes c there now user a x is long = long_takes c there now user a x (takes_memory a) refl is long

-- ---- what an act is told that can be forgotten
-- the act takes memory, left the tablets as they were, and changed nothing else; and it is whole
record Forgets (old : CoreContents) (now : ℤ) (user : List ℕ) (a : Act) (plain r : Told) : Type 0 where
  takes : takes_memory a ≡ true
  laid : (q : List ℕ) → laid_told r old now None a plain q ≡ tablets_in old q
  still : changes_told now user a r ≡ []
  whole : left_of a r ≡ a

never : {G : Type 0} (r s : Told) → r ≡ s → is_long s ≡ false → is_long r ≡ true → G
never r s is short long = absurd (cc (sym long ∙ ap is_long is ∙ short))

forgets_refused : (old : CoreContents) (now : ℤ) (user : List ℕ) (a : Act) (x : Refusal) → is_long_refusal x ≡ true → takes_memory a ≡ true → Forgets old now user a (Refused x) (Refused x)
forgets_refused old now user a (BadAuthorizations term) long takes = record { takes = takes; laid = λ q. refl; still = refl; whole = refl }
forgets_refused old now user a (ConstraintViolation found) long takes = record { takes = takes; laid = λ q. refl; still = refl; whole = refl }
forgets_refused old now user a _ long takes = absurd (cc)

-- one list, whatever the choice
either : {X : Type 0} (b : Bool) (x : X) → cond b x x ≡ x
either true x = refl
either false x = refl

short_split : (s : Split) → is_long (told_split Done s) ≡ false
short_split split.Done = refl
short_split split.Present = refl
short_split split.Small = refl
short_split split.OneRow = refl
short_split split.Full = refl

short_job : (o : Option TabletMerge) → is_long (told_job o) ≡ false
short_job None = refl
short_job (Some m) = refl

forgets_done : (old : CoreContents) (now : ℤ) (user : List ℕ) (a : Act) (c : Caller) (r : Told) → r ≡ told_exactly old now None a (granted c a) → is_long r ≡ true → Forgets old now user a (granted c a) r
unfolding lays
forgets_done old now user (act.Rights t) c r is long = subst (λ (x : Told). Forgets old now user (act.Rights t) (granted c (act.Rights t)) x) (sym is) (record { takes = refl; laid = λ q. refl; still = refl; whole = refl })
forgets_done old now user (act.AddSplit t row) c r is long = never r _ is (short_split _) long
forgets_done old now user (act.SplitBySize t row limit) c r is long = never r _ is (short_split _) long
forgets_done old now user (act.Splits t) c r is long = subst (λ (x : Told). Forgets old now user (act.Splits t) (granted c (act.Splits t)) x) (sym is) (record { takes = refl; laid = λ q. either (bytes_eq t q) (tablets_in old q); still = refl; whole = refl })
forgets_done old now user (act.Begin t row kind) c r is long = never r _ is (short_job _) long
forgets_done old now user act c r is long = never r _ is refl long

forgets : (old : CoreContents) (now : ℤ) (user : List ℕ) (a : Act) (c : Caller) (used : Bool) (r : Told) (o : Option Refusal) → ((x : Refusal) → o ≡ Some x → is_long_refusal x ≡ true → takes_memory a ≡ true)
    → r ≡ told_exactly old now None a (told o (numbered used (granted c a))) → is_long r ≡ true → Forgets old now user a (told o (numbered used (granted c a))) r
forgets old now user a c used r (Some x) takes is long =
    let so : is_long_refusal x ≡ true = sym (ap is_long is) ∙ long in
    subst (λ (s : Told). Forgets old now user a (Refused x) s) (sym is) (forgets_refused old now user a x so (takes x refl so))
forgets old now user a c true r None takes is long = never r _ is refl long
forgets old now user a c false r None takes is long = forgets_done old now user a c r is long

-- it numbers nothing
long_numbers : (r : Told) (w : TableWork) (n : ℕ) → is_long r ≡ true → tablet_told r w n ≡ n
long_numbers Done w n long = absurd (cc)
long_numbers _ w n long = refl

long_jobs : (r : Told) (n : ℕ) → is_long r ≡ true → job_told r n ≡ n
long_jobs (Begun u) n long = absurd (cc)
long_jobs _ n long = refl

-- what an act that is told so has done
forgets_told : (old new : CoreContents) (now : ℤ) (user : List ℕ) (a : Act) (reply : Reply OpenSession TabletMerge) → is_long (told_of reply) ≡ true → Acts (event_answer (base_of old) [] now user a) old now None user a reply new
    → Forgets old now user a (event_answer (base_of old) [] now user a) (told_of reply)
forgets_told old new now user a reply long acts = go acts.exact.answers
  where
    go : (told_of reply ≡ told_exactly old now None a (event_answer (base_of old) [] now user a)) ⊎ ((takes_memory a ≡ true) × (told_of reply ≡ Refused NoMemory)) → Forgets old now user a (event_answer (base_of old) [] now user a) (told_of reply)
    go (inr lacks) = never (told_of reply) (Refused NoMemory) lacks.1 refl long
    go (inl is) =
        let c : Caller = standing (base_of old) [] user in
        let there : Bool = exists_in (base_of old) [] (user_named a) in
        forgets old now user a c (are_used_up (base_of old) [] a) (told_of reply) (refusal_of c there now user a) (refusal_takes c there now user a) is long

-- it may as well have lacked memory
pub forgotten : (old new : CoreContents) (now : ℤ) (user : List ℕ) (a : Act) (reply : Reply OpenSession TabletMerge) → is_long (told_of reply) ≡ true → Acts (event_answer (base_of old) [] now user a) old now None user a reply new
    → Acts (event_answer (base_of old) [] now user a) old now None user a (Refused NoMemory) new
forgotten old new now user a reply long acts =
    let f : Forgets old now user a (event_answer (base_of old) [] now user a) (told_of reply) = forgets_told old new now user a reply long acts in
    record {
      exact = record {
        answers = inr (f.takes, refl);
        hands = refl;
        tablets = λ q. acts.exact.tablets q ∙ f.laid q;
        names = acts.exact.names;
        tablet = acts.exact.tablet ∙ long_numbers (told_of reply) (work_of None a) old.tablet long;
        number = acts.exact.number ∙ long_jobs (told_of reply) old.job long;
      };
      becomes = subst (λ j. Becomes (base_of old) j (base_of new)) f.still acts.becomes;
      hands = tt;
      knows = acts.knows;
    }

-- and nothing was taken out of it
pub forgotten_whole : (old new : CoreContents) (now : ℤ) (user : List ℕ) (a : Act) (reply : Reply OpenSession TabletMerge) → is_long (told_of reply) ≡ true → Acts (event_answer (base_of old) [] now user a) old now None user a reply new → left_of a (told_of reply) ≡ a
forgotten_whole old new now user a reply long acts = (forgets_told old new now user a reply long acts).whole

-- ---- what an Install is told is short
short_refusal : (c : Caller) (user t : List ℕ) (n : ℕ) (x : Refusal) (o : Option Denial) → or_else (denial user o) (first_some []) ≡ Some x → is_long_refusal x ≡ false
short_refusal c user t n x o e = subst IsShort e (go o)
  where
    go : (o : Option Denial) → IsShort (or_else (denial user o) (first_some []))
    go None = tt
    go (Some policy.UnknownUser) = refl
    go (Some (policy.NoTable t)) = refl
    go (Some (policy.PermissionDenied p)) = refl

installed_short : (s : Installed) → is_long (told_install Done s) ≡ false
installed_short installed.Done = refl
installed_short (installed.Stale n) = refl

install_told_short : (old : CoreContents) (now : ℤ) (m : TabletMerge) (user t : List ℕ) (n : ℕ) (c : Caller) (there : Bool) (r : Told) (o : Option Refusal) → ((x : Refusal) → o ≡ Some x → is_long_refusal x ≡ false) → r ≡ told_exactly old now (Some m) (act.Install t (ByHand n)) (told o (numbered false (granted c (act.Install t (ByHand n))))) → is_long r ≡ false
unfolding lays
install_told_short old now m user t n c there r None short is = ap is_long is ∙ installed_short _
install_told_short old now m user t n c there r (Some x) short is = ap is_long is ∙ short x refl

pub short_install : (old new : CoreContents) (m : TabletMerge) (user : List ℕ) (moment : ℤ) (t : List ℕ) (reply : Reply OpenSession TabletMerge) → StepsExactly old (Some m) (installs_at user moment t m) (told_of reply) (job_of reply) new → is_long (told_of reply) ≡ false
unfolding refusal_of
short_install old new m user moment t reply did = go did.exact.answers
  where
    go : (told_of reply ≡ told_exactly old (int_max old.clock moment) (Some m) (act.Install t (ByHand m.merge.number)) (event_answer (base_of old) [] (int_max old.clock moment) user (act.Install t (ByHand m.merge.number)))) ⊎ ((takes_memory (act.Install t (ByHand m.merge.number)) ≡ true) × (told_of reply ≡ Refused NoMemory))
        → is_long (told_of reply) ≡ false
    go (inr lacks) = ap is_long lacks.1
    go (inl is) =
        install_told_short old (int_max old.clock moment) m user t m.merge.number (standing (base_of old) [] user) true (told_of reply) (refusal_of (standing (base_of old) [] user) true (int_max old.clock moment) user (act.Install t (ByHand m.merge.number)))
        (λ x e. short_refusal (standing (base_of old) [] user) user t m.merge.number x (decision (standing (base_of old) [] user).policy (action_of (act.Install t (ByHand m.merge.number)))) e) is
