-- Permissions of a set, granted one after the other.
use Rattle.std.proofs.Common.{◌≡◌, ℕ, ◌+◌, ◌<◌, length, take, get_or, Bool, true, false, cond, ◌&&◌, ◌||◌, List, [], ◌∷◌, ◌++◌, refl, sym, ap, ◌∙◌}
use Rattle.std.specs.Prelude.{bytes_eq}
use Rattle.std.specs.List.{list_any}
use Rattle.std.proofs.lemmas.List.{take_more}
use Rattle.std.proofs.lemmas.List.Folds.{list_any-append}
use Rattle.tab_policy.specs.Granting.{can_hold, is_system_right, is_table_right}
use Rattle.tab_policy.specs.Permissions.{all_system, same_system, same_table}
use Rattle.tab_policy.specs.Sets.{system_contains, table_contains}
use Rattle.tab_policy.specs.State.{State, Readings, readings, user_exists, system_granted, table_exists, table_granted}
use Rattle.tab_policy.specs.declared.permission.Permission.TheVariants.{OfSystem, OfTable}
use Rattle.tab_policy.specs.declared.permission.SystemPermission.{SystemPermission}
use Rattle.tab_policy.specs.declared.permission.SystemPermission.TheVariants as system
use Rattle.tab_policy.specs.declared.permission.TablePermission.{TablePermission}
use Rattle.tab_policy.specs.declared.permission.TablePermission.TheVariants as table
use Rattle.tab_policy.specs.declared.sets.SystemPermissions.{SystemPermissions}
use Rattle.tab_policy.specs.declared.sets.TablePermissions.{TablePermissions}
use Rattle.tab_loading.specs.Policies.{granted, granted_on}

-- ---- permissions
holds_system : (set : SystemPermissions) (q p : SystemPermission) → same_system q p ≡ true → system_contains set q ≡ system_contains set p
holds_system set system.Grant system.Grant e = refl
holds_system set system.CreateTable system.CreateTable e = refl
holds_system set system.DropTable system.DropTable e = refl
holds_system set system.AlterTable system.AlterTable e = refl
holds_system set system.CreateUser system.CreateUser e = refl
holds_system set system.DropUser system.DropUser e = refl
holds_system set system.AlterUser system.AlterUser e = refl
holds_system set system.System system.System e = refl
holds_system set q p e = absurd (cc)

holds_table : (set : TablePermissions) (q p : TablePermission) → same_table q p ≡ true → table_contains set q ≡ table_contains set p
holds_table set table.Read table.Read e = refl
holds_table set table.Write table.Write e = refl
holds_table set table.AlterTable table.AlterTable e = refl
holds_table set table.Grant table.Grant e = refl
holds_table set table.DropTable table.DropTable e = refl
holds_table set q p e = absurd (cc)

-- each is one of all
pub any_system : (p : SystemPermission) → list_any (λ q. same_system q p) all_system ≡ true
any_system system.Grant = refl
any_system system.CreateTable = refl
any_system system.DropTable = refl
any_system system.AlterTable = refl
any_system system.CreateUser = refl
any_system system.DropUser = refl
any_system system.AlterUser = refl
any_system system.System = refl

-- ---- tests
never : (u : Bool) (x : Bool) → cond (u && false) true x ≡ x
never true x = refl
never false x = refl

-- a permission that is held is granted as one of a list
one_test : (u b s k x : Bool) → (s ≡ true → k ≡ true) → cond (u && (b && s)) true x ≡ cond (u && (b && (k && (s || false)))) true x
one_test false b s k x f = refl
one_test true false s k x f = refl
one_test true true true k x f = ap (λ v. cond (v && true) true x) (sym (f refl))
one_test true true false true x f = refl
one_test true true false false x f = refl

one_test_on : (u b s e k x : Bool) → (s ≡ true → k ≡ true) → cond (u && (b && (s && e))) true x ≡ cond (u && (b && ((k && (s || false)) && e))) true x
one_test_on false b s e k x f = refl
one_test_on true false s e k x f = refl
one_test_on true true true e k x f = ap (λ v. cond ((v && true) && e) true x) (sym (f refl))
one_test_on true true false e true x f = refl
one_test_on true true false e false x f = refl

-- one list of permissions after another
both_tests : (u b k l m x : Bool) → cond (u && (b && (k && m))) true (cond (u && (b && (k && l))) true x) ≡ cond (u && (b && (k && (l || m)))) true x
both_tests false b k l m x = refl
both_tests true false k l m x = refl
both_tests true true false l m x = refl
both_tests true true true true true x = refl
both_tests true true true true false x = refl
both_tests true true true false m x = refl

both_tests_on : (u b k l m e x : Bool) → cond (u && (b && ((k && m) && e))) true (cond (u && (b && ((k && l) && e))) true x) ≡ cond (u && (b && ((k && (l || m)) && e))) true x
both_tests_on false b k l m e x = refl
both_tests_on true false k l m e x = refl
both_tests_on true true false l m e x = refl
both_tests_on true true true true true true x = refl
both_tests_on true true true true false true x = refl
both_tests_on true true true l m false x = both l m
  where
    both : (l m : Bool) → cond (m && false) true (cond (l && false) true x) ≡ cond ((l || m) && false) true x
    both true true = refl
    both true false = refl
    both false true = refl
    both false false = refl
both_tests_on true true true false m true x = refl

-- ---- system permissions
module _ (m : List ℕ) (set : SystemPermissions) where
  pub granted_more : (ps qs : List SystemPermission) (r : Readings) → granted m set qs (granted m set ps r) ≡ granted m set (ps ++ qs) r
  granted_more ps qs r = λ i. record r { system = λ n p. both n p i }
    where
      both : (n : List ℕ) (p : SystemPermission) → (granted m set qs (granted m set ps r)).system n p ≡ (granted m set (ps ++ qs) r).system n p
      both n p =
          both_tests (r.users m) (bytes_eq m n) (system_contains set p) (list_any (λ q. same_system q p) ps) (list_any (λ q. same_system q p) qs) (r.system n p)
          ∙ ap (λ v. cond (r.users m && (bytes_eq m n && (system_contains set p && v))) true (r.system n p)) (sym (list_any-append (λ q. same_system q p) ps qs))

  -- one more of a list
  pub granted_next : (ps : List SystemPermission) (i : ℕ) (d : SystemPermission) (r s t : Readings) → i < length ps → s ≡ granted m set (take i ps) r → t ≡ granted m set (get_or ps i d ∷ []) s → t ≡ granted m set (take (i + 1) ps) r
  granted_next ps i d r s t lt before after =
      after ∙ ap (granted m set (get_or ps i d ∷ [])) before ∙ granted_more (take i ps) (get_or ps i d ∷ []) r ∙ ap (λ l. granted m set l r) (sym (take_more ps i d lt))

  -- what a grant leaves
  pub grants_one : (old new : State) (q : SystemPermission) → system_contains set q ≡ true
      → readings new ≡ record (readings old) {
        system = λ n p. cond (can_hold old m (OfSystem q) && is_system_right m (OfSystem q) n p) true (system_granted old n p);
        rights = λ n p t. cond (can_hold old m (OfSystem q) && is_table_right m (OfSystem q) n p t) true (table_granted old n p t);
      }
      → readings new ≡ granted m set (q ∷ []) (readings old)
  unfolding readings
  grants_one old new q held e = e ∙ (λ i. record (readings old) {
    system = λ n p. one_test (user_exists old m) (bytes_eq m n) (same_system q p) (system_contains set p) (system_granted old n p) (λ s. sym (holds_system set q p s) ∙ held) i;
    rights = λ n p t. never (user_exists old m) (table_granted old n p t) i;
  })

-- ---- permissions on a table
module _ (s m : List ℕ) (set : TablePermissions) where
  pub granted_on_more : (ps qs : List TablePermission) (r : Readings) → granted_on s m set qs (granted_on s m set ps r) ≡ granted_on s m set (ps ++ qs) r
  granted_on_more ps qs r = λ i. record r { rights = λ n p t. both n p t i }
    where
      both : (n : List ℕ) (p : TablePermission) (t : List ℕ) → (granted_on s m set qs (granted_on s m set ps r)).rights n p t ≡ (granted_on s m set (ps ++ qs) r).rights n p t
      both n p t =
          both_tests_on (r.users m && r.tables s) (bytes_eq m n) (table_contains set p) (list_any (λ q. same_table q p) ps) (list_any (λ q. same_table q p) qs) (bytes_eq s t) (r.rights n p t)
          ∙ ap (λ v. cond ((r.users m && r.tables s) && (bytes_eq m n && ((table_contains set p && v) && bytes_eq s t))) true (r.rights n p t)) (sym (list_any-append (λ q. same_table q p) ps qs))

  pub granted_on_next : (ps : List TablePermission) (i : ℕ) (d : TablePermission) (r a b : Readings) → i < length ps → a ≡ granted_on s m set (take i ps) r → b ≡ granted_on s m set (get_or ps i d ∷ []) a → b ≡ granted_on s m set (take (i + 1) ps) r
  granted_on_next ps i d r a b lt before after =
      after ∙ ap (granted_on s m set (get_or ps i d ∷ [])) before ∙ granted_on_more (take i ps) (get_or ps i d ∷ []) r ∙ ap (λ l. granted_on s m set l r) (sym (take_more ps i d lt))

  pub grants_one_on : (old new : State) (q : TablePermission) → table_contains set q ≡ true
      → readings new ≡ record (readings old) {
        system = λ n p. cond (can_hold old m (OfTable q s) && is_system_right m (OfTable q s) n p) true (system_granted old n p);
        rights = λ n p t. cond (can_hold old m (OfTable q s) && is_table_right m (OfTable q s) n p t) true (table_granted old n p t);
      }
      → readings new ≡ granted_on s m set (q ∷ []) (readings old)
  unfolding readings
  grants_one_on old new q held e = e ∙ (λ i. record (readings old) {
    system = λ n p. never (user_exists old m && table_exists old s) (system_granted old n p) i;
    rights = λ n p t. one_test_on (user_exists old m && table_exists old s) (bytes_eq m n) (same_table q p) (bytes_eq s t) (table_contains set p) (table_granted old n p t) (λ e. sym (holds_table set q p e) ∙ held) i;
  })
