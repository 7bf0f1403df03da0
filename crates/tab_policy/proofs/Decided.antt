-- What the sets of a caller say of the permissions that admit an action.
use Rattle.std.proofs.Common.{◌≡◌, ℕ, Bool, true, false, cond, ◌||◌, List, [], ◌∷◌, Some, None, refl, sym, ap, ◌∙◌, subst, Option, unwrap_or, Result, Ok, Err}
use Rattle.std.specs.Prelude.{IfOk, IfSome, is_none}
use Rattle.std.specs.List.{list_any}
use Rattle.tab_policy.specs.declared.permission.SystemPermission.{SystemPermission}
use Rattle.tab_policy.specs.declared.permission.TablePermission.{TablePermission}
use Rattle.tab_policy.specs.declared.permission.Permission.{Permission}
use Rattle.tab_policy.specs.declared.permission.Permission.TheVariants.{OfSystem, OfTable}
use Rattle.tab_policy.specs.declared.sets.SystemPermissions.{SystemPermissions}
use Rattle.tab_policy.specs.declared.sets.TablePermissions.{TablePermissions}
use Rattle.tab_policy.specs.declared.decision.Caller.{Caller}
use Rattle.tab_policy.specs.declared.decision.Denial.{Denial}
use Rattle.tab_policy.specs.declared.decision.Denial.TheVariants.{UnknownUser, NoTable}
use Rattle.tab_policy.specs.Sets.{system_contains, table_contains}
use Rattle.tab_policy.specs.Actions.{Action, needs, table_named}
use Rattle.tab_policy.specs.Needs.{on_table, listed, is_met, are_none, first_of_needs}
use Rattle.tab_policy.specs.Decisions.{Standing, holds_permission, unless_any, permission_missing, table_missing, judged, decision}
use Rattle.tab_policy.specs.State.{State, IsCaller, standing_of, user_exists, table_exists, table_granted, has_system}

unless_is : (b : Bool) (p : Permission) → unless_any b p ≡ cond b None (Some p)
unless_is true p = refl
unless_is false p = refl

-- one of those on the table is held where it is in the set
any_on_table : (s : Standing) (rights : TablePermissions) (t : List ℕ) → ((p : TablePermission) → s.table p t ≡ table_contains rights p)
    → (ps : List TablePermission) → list_any (holds_permission s) (on_table t ps) ≡ list_any (table_contains rights) ps
any_on_table s rights t same [] = refl
any_on_table s rights t same (p ∷ ps) = λ i. same p i || any_on_table s rights t same ps i

-- the first permission listed is missing where none is in the sets
missing_listed : (s : Standing) (held : SystemPermissions) (rights : TablePermissions) (t : List ℕ)
    → ((p : SystemPermission) → s.system p ≡ system_contains held p) → ((p : TablePermission) → s.table p t ≡ table_contains rights p)
    → (system : Option SystemPermission) (ps : List TablePermission)
    → permission_missing s (listed system ps t) ≡ cond (is_met system ps held rights) None (first_of_needs system ps (Some t))
missing_listed s held rights t one many None [] = refl
missing_listed s held rights t one many None (p ∷ ps) =
    ap (λ b. unless_any b (OfTable p t)) (any_on_table s rights t many (p ∷ ps)) ∙ unless_is _ _
missing_listed s held rights t one many (Some q) ps =
    ap (λ b. unless_any b (OfSystem q)) (λ i. one q i || any_on_table s rights t many ps i) ∙ unless_is _ _

-- the decision on an action that names a table
pub decided_on_table : (state : State) (user : List ℕ) (a : Action) (held : SystemPermissions) (rights : TablePermissions) (t : List ℕ)
    (system : Option SystemPermission) (ps : List TablePermission)
    → user_exists state user ≡ true → table_named a ≡ Some t → table_exists state t ≡ true
    → ((p : SystemPermission) → system_contains held p ≡ has_system state user p)
    → ((p : TablePermission) → table_contains rights p ≡ table_granted state user p t)
    → needs a ≡ listed system ps (unwrap_or (table_named a) [])
    → judged None (cond (is_met system ps held rights) None (first_of_needs system ps (Some t))) ≡ decision (standing_of state user) a
decided_on_table state user a held rights t system ps known named exists one many listing =
    let s : Standing = standing_of state user in
    let no_table_missing : table_missing s (table_named a) ≡ None = ap (table_missing s) named ∙ ap (λ b. cond b None (Some t)) exists in
    let as_listed : needs a ≡ listed system ps t = listing ∙ ap (λ o. listed system ps (unwrap_or o [])) named in
    let missing : permission_missing s (needs a) ≡ cond (is_met system ps held rights) None (first_of_needs system ps (Some t)) =
    ap (permission_missing s) as_listed ∙ missing_listed s held rights t (λ p. sym (one p)) (λ p. sym (many p)) system ps in
    sym (λ i. cond (known i) (judged (no_table_missing i) (missing i)) (Some UnknownUser))

-- the decision on an unknown caller
pub decided_unknown : (state : State) (user : List ℕ) (a : Action) → user_exists state user ≡ false → Some UnknownUser ≡ decision (standing_of state user) a
decided_unknown state user a unknown =
    let s : Standing = standing_of state user in
    sym (ap (λ b. cond b (judged (table_missing s (table_named a)) (permission_missing s (needs a))) (Some UnknownUser)) unknown)

-- the decision on an action that names a table which doesn't exist
pub decided_on_none : (state : State) (user : List ℕ) (a : Action) (t : List ℕ) → user_exists state user ≡ true → table_named a ≡ Some t → table_exists state t ≡ false
    → Some (NoTable t) ≡ decision (standing_of state user) a
decided_on_none state user a t known named gone =
    let s : Standing = standing_of state user in
    let missing : table_missing s (table_named a) ≡ Some t = ap (table_missing s) named ∙ ap (λ b. cond b None (Some t)) gone in
    sym (λ i. cond (known i) (judged (missing i) (permission_missing s (needs a))) (Some UnknownUser))

-- the one permission for the whole server is missing where it isn't in the set
missing_of_system : (s : Standing) (held : SystemPermissions) (rights : TablePermissions) (t : List ℕ) → ((p : SystemPermission) → s.system p ≡ system_contains held p)
    → (system : Option SystemPermission) → permission_missing s (listed system [] t) ≡ cond (is_met system [] held rights) None (first_of_needs system [] None)
missing_of_system s held rights t one None = refl
missing_of_system s held rights t one (Some q) = ap (λ b. unless_any (b || false) (OfSystem q)) (one q) ∙ unless_is _ _

-- the decision on an action that names no table
pub decided_on_server : (state : State) (user : List ℕ) (a : Action) (held : SystemPermissions) (rights : TablePermissions) (system : Option SystemPermission) (ps : List TablePermission)
    → user_exists state user ≡ true → table_named a ≡ None → ((p : SystemPermission) → system_contains held p ≡ has_system state user p)
    → needs a ≡ listed system ps (unwrap_or (table_named a) []) → ps ≡ []
    → judged None (cond (is_met system ps held rights) None (first_of_needs system ps None)) ≡ decision (standing_of state user) a
decided_on_server state user a held rights system ps known named one listing none =
    let s : Standing = standing_of state user in
    let no_table_missing : table_missing s (table_named a) ≡ None = ap (table_missing s) named in
    let missing : permission_missing s (needs a) ≡ cond (is_met system ps held rights) None (first_of_needs system ps None) =
    ap (permission_missing s) (listing ∙ ap (λ qs. listed system qs (unwrap_or (table_named a) [])) none) ∙ missing_of_system s held rights _ (λ p. sym (one p)) system
    ∙ ap (λ qs. cond (is_met system qs held rights) None (first_of_needs system qs None)) (sym none) in
    sym (λ i. cond (known i) (judged (no_table_missing i) (missing i)) (Some UnknownUser))

-- who is admitted is the caller that was found
pub found : (r : Result Caller Denial) (caller : Caller) (state : State) (user : List ℕ) (named : Option (List ℕ)) → IfOk r (λ admitted. admitted ≡ caller) → IsCaller caller state user named
    → IfOk r (λ admitted. IsCaller admitted state user named)
found (Ok admitted) caller state user named is holds = subst (λ x. IsCaller x state user named) (sym is) holds
found (Err denial) caller state user named is holds = is

pub found_there : (r : Option Caller) (caller : Caller) (state : State) (user : List ℕ) (named : Option (List ℕ)) → IfSome r (λ admitted. admitted ≡ caller) → IsCaller caller state user named
    → IfSome r (λ admitted. IsCaller admitted state user named)
found_there (Some admitted) caller state user named is holds = subst (λ x. IsCaller x state user named) (sym is) holds
found_there None caller state user named is holds = is

-- nothing stops him who holds one of the permissions, or of whom none is needed
pub stops : (met : Bool) (system : Option SystemPermission) (ps : List TablePermission) (t : List ℕ)
    → (met || are_none system ps) ≡ is_none (judged None (cond met None (first_of_needs system ps (Some t))))
stops true system ps t = refl
stops false None [] t = refl
stops false None (p ∷ ps) t = refl
stops false (Some p) ps t = refl

-- the same of an action that names no table
pub stops_on_server : (met : Bool) (system : Option SystemPermission) (ps : List TablePermission) → ps ≡ []
    → (met || are_none system ps) ≡ is_none (judged None (cond met None (first_of_needs system ps None)))
stops_on_server true system ps none = refl
stops_on_server false None [] none = refl
stops_on_server false None (p ∷ ps) none = absurd (cc)
stops_on_server false (Some p) ps none = refl
