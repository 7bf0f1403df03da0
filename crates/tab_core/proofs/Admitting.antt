-- What the policy decides of an act, and who is admitted.
use Rattle.std.proofs.Common.{◌≡◌, inl, ℕ, List, [], Bool, true, false, cond, ◌||◌, refl, sym, ◌∙◌, ap, subst, Option, Some, None}
use Rattle.std.specs.Prelude.{ℤ, bytes_eq, is_some, is_none, IfSome}
use Rattle.tab_policy.specs.declared.decision.Denial.{Denial}
use Rattle.tab_policy.specs.declared.decision.Denial.TheVariants as policy
use Rattle.tab_policy.specs.declared.permission.Permission.{Permission}
use Rattle.tab_policy.specs.Actions.{Action, table_named, needs}
use Rattle.tab_policy.specs.Decisions.{Standing, decision, judged, table_missing, permission_missing}
use Rattle.tab_policy.specs.State.{standing_of, user_exists, system_granted, table_granted}
use Rattle.tab_policy.specs.Roots.{root}
use Rattle.tab_mutation.specs.Shape.{or_else, first_some}
use Rattle.tab_session.specs.OpenSession.{OpenSession}
use Rattle.tab_history.specs.declared.event.Act.{Act}
use Rattle.tab_history.specs.declared.reply.Refusal.{Refusal}
use Rattle.tab_history.specs.declared.reply.Reply.{Reply}
use Rattle.tab_history.specs.declared.reply.Reply.TheVariants.{Refused}
use Rattle.tab_history.specs.Bases.{Base}
use Rattle.tab_history.specs.Readings.{has_user, has_system_right, has_table_right, settings_of}
use Rattle.tab_history.specs.Checks.{standing, exists_in, user_named, own_checks, action_of, denial, refusal_of}
use Rattle.tab_history.specs.Answers.{told, are_used_up, numbered, granted, event_answer}
use Rattle.tab_store.specs.Parts.{TabletMerge}
use Rattle.tab_store.specs.Stores.{CoreContents, base_of}
use Rattle.tab_store.specs.Tables.{TableState, settings_at, table_at}
use Rattle.tab_store.proofs.Changed.{settings_read}
use Rattle.tab_core.specs.Stepping.{Acts, own_answer, IsAdmitted, IsCore}
use Rattle.tab_core.proofs.Acting.{given_refused}

-- ---- what the policy decides
standing_same : (h : CoreContents) → IsCore h → (user : List ℕ) → standing_of h.policy user ≡ (standing (base_of h) [] user).policy
unfolding standing has_user has_system_right has_table_right
standing_same h core user = λ i. record {
  known = user_exists h.policy user;
  system = λ p. bytes_eq user root || system_granted h.policy user p;
  table = λ p t. table_granted h.policy user p t;
  exists = λ t. core.knows t i;
}

decided : (h : CoreContents) → IsCore h → (user : List ℕ) (act : Act) → denial user (decision (standing_of h.policy user) (action_of act)) ≡ denial user (decision (standing (base_of h) [] user).policy (action_of act))
decided h core user act = ap (λ s. denial user (decision s (action_of act))) (standing_same h core user)

answer_is : (b : Base) (now : ℤ) (user : List ℕ) (act : Act) (d : Option Refusal) → denial user (decision (standing b [] user).policy (action_of act)) ≡ d
    → event_answer b [] now user act ≡ told (or_else d (first_some (own_checks (standing b [] user) (exists_in b [] (user_named act)) now act))) (numbered (are_used_up b [] act) (granted (standing b [] user) act))
unfolding refusal_of
answer_is b now user act d e = ap (λ o. told (or_else o (first_some (own_checks (standing b [] user) (exists_in b [] (user_named act)) now act))) (numbered (are_used_up b [] act) (granted (standing b [] user) act))) e

-- an act that it denies
pub denied : (h : CoreContents) (now : ℤ) (given : Option TabletMerge) (user : List ℕ) (act : Act) (r : Refusal) → IsCore h → denial user (decision (standing_of h.policy user) (action_of act)) ≡ Some r → Acts (event_answer (base_of h) [] now user act) h now given user act (Refused r) h
denied h now given user act r core e = given_refused (event_answer (base_of h) [] now user act) h now given user act r core (inl (sym (answer_is (base_of h) now user act (Some r) (sym (decided h core user act) ∙ e))))

-- what it was asked it doesn't deny
undenied : (h : CoreContents) (user : List ℕ) (act : Act) (asked : Action) → asked ≡ action_of act → None ≡ decision (standing_of h.policy user) asked → denial user (decision (standing_of h.policy user) (action_of act)) ≡ None
undenied h user act asked is e = sym (ap (denial user) (e ∙ ap (decision (standing_of h.policy user)) is))

-- an act that it admits, told by another name and at a clock that is told so
pub admitted : (old new : CoreContents) (now t : ℤ) (given : Option TabletMerge) (user : List ℕ) (act named : Act) (asked : Action) (reply : Reply OpenSession TabletMerge) → IsCore old → asked ≡ action_of act → None ≡ decision (standing_of old.policy user) asked → act ≡ named → t ≡ now
    → Acts (own_answer (base_of old) t user named) old t given user named reply new → Acts (event_answer (base_of old) [] now user act) old now given user act reply new
admitted old new now t given user act named asked reply core asks e is trip acts =
    subst (λ a. Acts a old now given user act reply new) (sym (answer_is (base_of old) now user act None (sym (decided old core user act) ∙ undenied old user act asked asks e)))
    (subst (λ (x : Act). Acts (own_answer (base_of old) now user x) old now given user x reply new) (sym is) (subst (λ (c : ℤ). Acts (own_answer (base_of old) c user named) old c given user named reply new) trip acts))

-- nothing stops him whom the policy admits
pub nothing_stops : (d : Option Denial) → true ≡ is_none d → None ≡ d
nothing_stops None e = refl
nothing_stops (Some d) e = absurd (cc)

-- ---- who is admitted is known, and the table that he names is there
none_denied : (user : List ℕ) (d : Option Denial) → denial user d ≡ None → d ≡ None
none_denied user None e = refl
none_denied user (Some policy.UnknownUser) e = absurd (cc)
none_denied user (Some (policy.NoTable t)) e = absurd (cc)
none_denied user (Some (policy.PermissionDenied p)) e = absurd (cc)

judged_there : (s : Standing) (o : Option (List ℕ)) (m : Option Permission) → judged (table_missing s o) m ≡ None → IfSome o (λ t. s.exists t ≡ true)
judged_there s None m e = tt
judged_there s (Some t) m e = go (s.exists t) refl e
  where
    go : (v : Bool) → s.exists t ≡ v → judged (cond v None (Some t)) m ≡ None → s.exists t ≡ true
    go true is e = is
    go false is e = absurd (cc)

admitted_parts : (s : Standing) (a : Action) → decision s a ≡ None → (s.known ≡ true) × IfSome (table_named a) (λ t. s.exists t ≡ true)
admitted_parts s a e = go s.known refl e
  where
    go : (v : Bool) → s.known ≡ v → cond v (judged (table_missing s (table_named a)) (permission_missing s (needs a))) (Some policy.UnknownUser) ≡ None → (s.known ≡ true) × IfSome (table_named a) (λ t. s.exists t ≡ true)
    go true is e = (is, judged_there s (table_named a) (permission_missing s (needs a)) e)
    go false is e = absurd (cc)

pub is_admitted : (h : CoreContents) (user : List ℕ) (act named : Act) (asked : Action) → IsCore h → asked ≡ action_of act → None ≡ decision (standing_of h.policy user) asked → act ≡ named → IsAdmitted (base_of h) user named
unfolding standing
is_admitted h user act named asked core asks e is =
    subst (λ (a : Act). IsAdmitted (base_of h) user a) is
    (admitted_parts (standing (base_of h) [] user).policy (action_of act) (none_denied user (decision (standing (base_of h) [] user).policy (action_of act)) (sym (decided h core user act) ∙ undenied h user act asked asks e)))

-- whether there is a table of this name, as it is looked up
pub there_alike : (h : CoreContents) (t : List ℕ) → is_some (settings_of (base_of h) [] t) ≡ is_some (table_at h.tables t)
there_alike h t = ap is_some (settings_read h t) ∙ go (table_at h.tables t)
  where
    go : (o : Option TableState) → is_some (settings_at o) ≡ is_some o
    go None = refl
    go (Some s) = refl

-- the table that an admitted act names is there
pub admitted_there : (h : CoreContents) (user t : List ℕ) (a : Act) → table_named (action_of a) ≡ Some t → IsAdmitted (base_of h) user a → is_some (table_at h.tables t) ≡ true
admitted_there h user t a names admitted = sym (there_alike h t) ∙ subst (λ (o : Option (List ℕ)). IfSome o (λ q. is_some (settings_of (base_of h) [] q) ≡ true)) names admitted.1
