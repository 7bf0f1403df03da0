-- Acts that change nothing but the policy: authorizations set, users made and dropped, permissions granted and revoked.
use Rattle.std.proofs.Common.{◌≡◌, inl, ℕ, ◌+◌, ◌-◌, List, [], ◌∷◌, Bool, true, false, cond, not, ◌&&◌, refl, sym, ◌∙◌, ap, Some, None}
use Rattle.std.specs.Prelude.{ℤ, nat_le, bytes_eq}
use Rattle.tab_key.specs.declared.limited_part.LimitedPart.TheVariants.{Authorizations, Numbers}
use Rattle.tab_mutation.specs.Shape.{first_some, when}
use Rattle.tab_policy.specs.declared.permission.Permission.{Permission}
use Rattle.tab_policy.specs.declared.permission.Permission.TheVariants.{OfSystem, OfTable}
use Rattle.tab_policy.specs.Granting.{can_hold, is_system_right, is_table_right}
use Rattle.tab_policy.specs.Roots.{root}
use Rattle.tab_policy.specs.State.{State, Readings, readings, user_exists, user_count as policy_users, auths_of, system_granted, table_granted, table_exists}
use Rattle.tab_history.specs.declared.event.Act.{Act}
use Rattle.tab_history.specs.declared.event.Act.TheVariants as act
use Rattle.tab_history.specs.declared.reply.Refusal.{Refusal}
use Rattle.tab_history.specs.declared.reply.Refusal.TheVariants.{TooLarge, UserExists, NoUser, RootFixed, GrantInvalid}
use Rattle.tab_history.specs.declared.reply.Reply.TheVariants.{Done, Refused}
use Rattle.tab_history.specs.Bases.{Base}
use Rattle.tab_history.specs.Changes.{Change, given, taken, changes_of}
use Rattle.tab_history.specs.Readings.{has_user, user_count, held_auths, has_system_right, has_table_right, table_count, settings_of, next_number}
use Rattle.tab_history.specs.Checks.{is_grant, right_checks, too_many_auths}
use Rattle.tab_history.specs.Answers.{told, numbered}
use Rattle.tab_store.specs.Stores.{CoreContents, base_of}
use Rattle.tab_store.specs.Stepping.{Aside, work_of}
use Rattle.tab_store.proofs.Changed.{count_read}
use Rattle.tab_core.specs.Stepping.{Acts, own_answer, IsAdmitted, IsCore}
use Rattle.tab_core.proofs.Acting.{read_after, becomes, done_exactly, refused, own_refused}
use Rattle.tab_mutation.proofs.Shapes.{none_left, none_right, unmet}

-- ---- only the policy changed
-- the changes make and drop no table and write nothing
record IsRuling (b : Base) (j : List Change) : Type 0 where
  numbers : next_number b j ≡ b.next
  tables : table_count b j ≡ table_count b []
  settings : (t : List ℕ) → settings_of b j t ≡ settings_of b [] t

-- an act that asks nothing of the tables, passes its checks and leaves a policy which reads as the act's changes say
ruled : (h : CoreContents) (p : State) (now : ℤ) (user : List ℕ) (a : Act) → IsCore h → work_of None a ≡ Aside → own_answer (base_of h) now user a ≡ Done → readings p ≡ read_after (base_of h) (changes_of now user a) (table_exists h.policy)
    → IsRuling (base_of h) (changes_of now user a) → Acts (own_answer (base_of h) now user a) h now None user a Done (record h { policy = p })
unfolding readings settings_of
ruled h p now user a core aside passes read ruling = record {
  exact = done_exactly h (record h { policy = p }) now a (own_answer (base_of h) now user a) Aside aside (sym passes) refl (λ q. refl) core.store.names refl refl;
  becomes = becomes h h.next p h.tables (changes_of now user a) (table_exists h.policy) (sym ruling.numbers) read (sym (count_read h) ∙ sym ruling.tables) (λ t. sym (ruling.settings t));
  hands = tt;
  knows = λ t. ap (λ (r : Readings). r.tables t) read ∙ core.knows t;
}

-- ---- authorizations
pub too_many : (h : CoreContents) (now : ℤ) (user n : List ℕ) (auths : List (List ℕ)) → IsCore h → too_many_auths auths ≡ true
    → Acts (own_answer (base_of h) now user (act.SetAuths n auths)) h now None user (act.SetAuths n auths) (Refused (TooLarge Authorizations)) h
unfolding has_user
too_many h now user n auths core e = own_refused h now user (act.SetAuths n auths) (TooLarge Authorizations) core
    (ap (λ v. first_some (when v (TooLarge Authorizations) ∷ when (not (user_exists h.policy n)) (NoUser n) ∷ [])) e)

pub no_user : (h : CoreContents) (now : ℤ) (user n : List ℕ) (auths : List (List ℕ)) → IsCore h → too_many_auths auths ≡ false → user_exists h.policy n ≡ false
    → Acts (own_answer (base_of h) now user (act.SetAuths n auths)) h now None user (act.SetAuths n auths) (Refused (NoUser n)) h
unfolding has_user
no_user h now user n auths core fits absent = own_refused h now user (act.SetAuths n auths) (NoUser n) core
    (λ i. first_some (when (fits i) (TooLarge Authorizations) ∷ when (not (absent i)) (NoUser n) ∷ []))

pub auths_set : (h : CoreContents) (p : State) (now : ℤ) (user n : List ℕ) (auths : List (List ℕ)) → IsCore h → too_many_auths auths ≡ false → user_exists h.policy n ≡ true
    → readings p ≡ record (readings h.policy) { auths = λ q. cond (user_exists h.policy n && bytes_eq n q) auths (auths_of h.policy q) }
    → Acts (own_answer (base_of h) now user (act.SetAuths n auths)) h now None user (act.SetAuths n auths) Done (record h { policy = p })
unfolding readings next_number has_user user_count held_auths has_system_right has_table_right table_count settings_of
auths_set h p now user n auths core fits there read = ruled h p now user (act.SetAuths n auths) core refl
    (λ i. told (first_some (when (fits i) (TooLarge Authorizations) ∷ when (not (there i)) (NoUser n) ∷ [])) Done)
    (read ∙ ap (λ v. record (readings h.policy) { auths = λ q. cond (v && bytes_eq n q) auths (auths_of h.policy q) }) there)
    (record { numbers = refl; tables = refl; settings = λ t. refl })

-- ---- a new user
pub user_there : (h : CoreContents) (now : ℤ) (user n : List ℕ) → IsCore h → user_exists h.policy n ≡ true → Acts (own_answer (base_of h) now user (act.CreateUser n)) h now None user (act.CreateUser n) (Refused (UserExists n)) h
unfolding has_user
user_there h now user n core there = own_refused h now user (act.CreateUser n) (UserExists n) core (ap (λ v. first_some (when v (UserExists n) ∷ [])) there)

pub users_used_up : (h : CoreContents) (now : ℤ) (user n : List ℕ) → IsCore h → user_exists h.policy n ≡ false → nat_le 4294967295 (policy_users h.policy) ≡ true
    → Acts (own_answer (base_of h) now user (act.CreateUser n)) h now None user (act.CreateUser n) (Refused (TooLarge Numbers)) h
unfolding has_user user_count
users_used_up h now user n core absent full = refused (own_answer (base_of h) now user (act.CreateUser n)) h now user (act.CreateUser n) (TooLarge Numbers) core
    (inl (sym (λ i. told (first_some (when (absent i) (UserExists n) ∷ [])) (numbered (full i) Done))))

pub user_made : (h : CoreContents) (p : State) (now : ℤ) (user n : List ℕ) → IsCore h → user_exists h.policy n ≡ false → nat_le 4294967295 (policy_users h.policy) ≡ false
    → readings p ≡ record (readings h.policy) {
      users = λ q. cond (bytes_eq n q) true (user_exists h.policy q);
      count = cond (user_exists h.policy n) (policy_users h.policy) (policy_users h.policy + 1);
      auths = λ q. cond (bytes_eq n q) [] (auths_of h.policy q);
      system = λ q x. cond (bytes_eq n q) false (system_granted h.policy q x);
      rights = λ q x t. cond (bytes_eq n q) false (table_granted h.policy q x t);
    }
    → Acts (own_answer (base_of h) now user (act.CreateUser n)) h now None user (act.CreateUser n) Done (record h { policy = p })
unfolding readings next_number has_user user_count held_auths has_system_right has_table_right table_count settings_of
user_made h p now user n core absent room read =
    ruled h p now user (act.CreateUser n) core refl (λ i. told (first_some (when (absent i) (UserExists n) ∷ [])) (numbered (room i) Done))
    (read ∙ ap (λ v. record (readings h.policy) {
      users = λ q. cond (bytes_eq n q) true (user_exists h.policy q);
      count = cond v (policy_users h.policy) (policy_users h.policy + 1);
      auths = λ q. cond (bytes_eq n q) [] (auths_of h.policy q);
      system = λ q x. cond (bytes_eq n q) false (system_granted h.policy q x);
      rights = λ q x t. cond (bytes_eq n q) false (table_granted h.policy q x t);
    }) absent) (record { numbers = refl; tables = refl; settings = λ t. refl })

-- ---- a user who is dropped
pub no_user_drops : (h : CoreContents) (now : ℤ) (user n : List ℕ) → IsCore h → user_exists h.policy n ≡ false → Acts (own_answer (base_of h) now user (act.DropUser n)) h now None user (act.DropUser n) (Refused (NoUser n)) h
unfolding has_user
no_user_drops h now user n core absent = own_refused h now user (act.DropUser n) (NoUser n) core (ap (λ v. first_some (when (not v) (NoUser n) ∷ when (bytes_eq n root) RootFixed ∷ [])) absent)

pub root_stays_user : (h : CoreContents) (now : ℤ) (user n : List ℕ) → IsCore h → user_exists h.policy n ≡ true → bytes_eq n root ≡ true → Acts (own_answer (base_of h) now user (act.DropUser n)) h now None user (act.DropUser n) (Refused RootFixed) h
unfolding has_user
root_stays_user h now user n core there is = own_refused h now user (act.DropUser n) RootFixed core (λ i. first_some (when (not (there i)) (NoUser n) ∷ when (is i) RootFixed ∷ []))

pub user_dropped : (h : CoreContents) (p : State) (now : ℤ) (user n : List ℕ) → IsCore h → user_exists h.policy n ≡ true → bytes_eq n root ≡ false
    → readings p ≡ record (readings h.policy) {
      users = λ q. cond (bytes_eq n q) false (user_exists h.policy q);
      count = cond (user_exists h.policy n) (policy_users h.policy - 1) (policy_users h.policy);
      auths = λ q. cond (bytes_eq n q) [] (auths_of h.policy q);
      system = λ q x. cond (bytes_eq n q) false (system_granted h.policy q x);
      rights = λ q x t. cond (bytes_eq n q) false (table_granted h.policy q x t);
    }
    → Acts (own_answer (base_of h) now user (act.DropUser n)) h now None user (act.DropUser n) Done (record h { policy = p })
unfolding readings next_number has_user user_count held_auths has_system_right has_table_right table_count settings_of
user_dropped h p now user n core there other read =
    ruled h p now user (act.DropUser n) core refl (λ i. told (first_some (when (not (there i)) (NoUser n) ∷ when (other i) RootFixed ∷ [])) Done)
    (read ∙ ap (λ v. record (readings h.policy) {
      users = λ q. cond (bytes_eq n q) false (user_exists h.policy q);
      count = cond v (policy_users h.policy - 1) (policy_users h.policy);
      auths = λ q. cond (bytes_eq n q) [] (auths_of h.policy q);
      system = λ q x. cond (bytes_eq n q) false (system_granted h.policy q x);
      rights = λ q x t. cond (bytes_eq n q) false (table_granted h.policy q x t);
    }) there) (record { numbers = refl; tables = refl; settings = λ t. refl })

-- ---- a grant or a revocation that is refused
pub grant_refused : (h : CoreContents) (now : ℤ) (user n : List ℕ) (x : Permission) (r : Refusal) → IsCore h → first_some (right_checks (user_exists h.policy n) n x) ≡ Some r
    → Acts (own_answer (base_of h) now user (act.Grant n x)) h now None user (act.Grant n x) (Refused r) h
unfolding has_user
grant_refused h now user n x r core e = own_refused h now user (act.Grant n x) r core e

pub revoke_refused : (h : CoreContents) (now : ℤ) (user n : List ℕ) (x : Permission) (r : Refusal) → IsCore h → first_some (right_checks (user_exists h.policy n) n x) ≡ Some r
    → Acts (own_answer (base_of h) now user (act.Revoke n x)) h now None user (act.Revoke n x) (Refused r) h
unfolding has_user
revoke_refused h now user n x r core e = own_refused h now user (act.Revoke n x) r core e

-- ---- a grant
there_is_user : (v : Bool) → not v ≡ false → v ≡ true
there_is_user true e = refl
there_is_user false e = absurd (cc)

-- whose user passes the checks, and whose table is there
can_be_held : (h : CoreContents) (user n : List ℕ) (x : Permission) → IsCore h → IsAdmitted (base_of h) user (act.Grant n x) → first_some (right_checks (user_exists h.policy n) n x) ≡ None → can_hold h.policy n x ≡ true
can_be_held h user n (OfSystem s) core admitted e =
    let rest = none_right (when (is_grant s) GrantInvalid) (first_some (when (not (user_exists h.policy n)) (NoUser n) ∷ when (bytes_eq n root) RootFixed ∷ [])) e in
    there_is_user (user_exists h.policy n) (unmet _ _ (none_left (when (not (user_exists h.policy n)) (NoUser n)) (first_some (when (bytes_eq n root) RootFixed ∷ [])) rest))
can_be_held h user n (OfTable s t) core admitted e =
    let there = there_is_user (user_exists h.policy n) (unmet _ _ (none_left (when (not (user_exists h.policy n)) (NoUser n)) None e)) in
    λ i. there i && (core.knows t ∙ admitted.1) i

-- what is read once a permission was given to the user, or taken from him
given_reads : (h : CoreContents) (n : List ℕ) (x : Permission) → record (readings h.policy) {
  system = λ q y. cond (is_system_right n x q y) true (system_granted h.policy q y);
  rights = λ q y t. cond (is_table_right n x q y t) true (table_granted h.policy q y t);
} ≡ read_after (base_of h) (given n x ∷ []) (table_exists h.policy)
unfolding readings has_user user_count held_auths has_system_right has_table_right
given_reads h n (OfSystem s) = refl
given_reads h n (OfTable s t) = refl

taken_reads : (h : CoreContents) (n : List ℕ) (x : Permission) → record (readings h.policy) {
  system = λ q y. cond (is_system_right n x q y) false (system_granted h.policy q y);
  rights = λ q y t. cond (is_table_right n x q y t) false (table_granted h.policy q y t);
} ≡ read_after (base_of h) (taken n x ∷ []) (table_exists h.policy)
unfolding readings has_user user_count held_auths has_system_right has_table_right
taken_reads h n (OfSystem s) = refl
taken_reads h n (OfTable s t) = refl

given_ruling : (h : CoreContents) (n : List ℕ) (x : Permission) → IsRuling (base_of h) (given n x ∷ [])
unfolding next_number table_count settings_of
given_ruling h n (OfSystem s) = record { numbers = refl; tables = refl; settings = λ t. refl }
given_ruling h n (OfTable s u) = record { numbers = refl; tables = refl; settings = λ t. refl }

taken_ruling : (h : CoreContents) (n : List ℕ) (x : Permission) → IsRuling (base_of h) (taken n x ∷ [])
unfolding next_number table_count settings_of
taken_ruling h n (OfSystem s) = record { numbers = refl; tables = refl; settings = λ t. refl }
taken_ruling h n (OfTable s u) = record { numbers = refl; tables = refl; settings = λ t. refl }

pub right_given : (h : CoreContents) (p : State) (now : ℤ) (user n : List ℕ) (x : Permission) → IsCore h → IsAdmitted (base_of h) user (act.Grant n x) → first_some (right_checks (user_exists h.policy n) n x) ≡ None
    → readings p ≡ record (readings h.policy) {
      system = λ q y. cond (can_hold h.policy n x && is_system_right n x q y) true (system_granted h.policy q y);
      rights = λ q y t. cond (can_hold h.policy n x && is_table_right n x q y t) true (table_granted h.policy q y t);
    }
    → Acts (own_answer (base_of h) now user (act.Grant n x)) h now None user (act.Grant n x) Done (record h { policy = p })
unfolding has_user
right_given h p now user n x core admitted passes read =
    ruled h p now user (act.Grant n x) core refl (ap (λ o. told o Done) passes)
    (read ∙ ap (λ v. record (readings h.policy) {
      system = λ q y. cond (v && is_system_right n x q y) true (system_granted h.policy q y);
      rights = λ q y t. cond (v && is_table_right n x q y t) true (table_granted h.policy q y t);
    }) (can_be_held h user n x core admitted passes) ∙ given_reads h n x) (given_ruling h n x)

-- ---- a revocation
pub right_taken : (h : CoreContents) (p : State) (now : ℤ) (user n : List ℕ) (x : Permission) → IsCore h → first_some (right_checks (user_exists h.policy n) n x) ≡ None
    → readings p ≡ record (readings h.policy) {
      system = λ q y. cond (is_system_right n x q y) false (system_granted h.policy q y);
      rights = λ q y t. cond (is_table_right n x q y t) false (table_granted h.policy q y t);
    }
    → Acts (own_answer (base_of h) now user (act.Revoke n x)) h now None user (act.Revoke n x) Done (record h { policy = p })
unfolding has_user
right_taken h p now user n x core passes read = ruled h p now user (act.Revoke n x) core refl (ap (λ o. told o Done) passes) (read ∙ taken_reads h n x) (taken_ruling h n x)

-- ---- saves, loads and rotations, which change nothing
pub saved : (h : CoreContents) (now : ℤ) (user : List ℕ) → IsCore h → Acts (own_answer (base_of h) now user act.Save) h now None user act.Save Done h
unfolding readings next_number has_user user_count held_auths has_system_right has_table_right table_count settings_of
saved h now user core = ruled h h.policy now user act.Save core refl refl refl (record { numbers = refl; tables = refl; settings = λ t. refl })

pub loaded : (h : CoreContents) (now : ℤ) (user : List ℕ) → IsCore h → Acts (own_answer (base_of h) now user act.Load) h now None user act.Load Done h
unfolding readings next_number has_user user_count held_auths has_system_right has_table_right table_count settings_of
loaded h now user core = ruled h h.policy now user act.Load core refl refl refl (record { numbers = refl; tables = refl; settings = λ t. refl })

pub rotated : (h : CoreContents) (now : ℤ) (user : List ℕ) → IsCore h → Acts (own_answer (base_of h) now user act.Rotate) h now None user act.Rotate Done h
unfolding readings next_number has_user user_count held_auths has_system_right has_table_right table_count settings_of
rotated h now user core = ruled h h.policy now user act.Rotate core refl refl refl (record { numbers = refl; tables = refl; settings = λ t. refl })
