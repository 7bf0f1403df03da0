-- How a policy is read after a change.
use Rattle.std.proofs.Common.{◌≡◌, ℕ, Bool, true, false, cond, ◌&&◌, List, Some, None, refl, sym, ap, ◌∙◌, rules}
use Rattle.std.specs.Prelude.{Option, bytes_eq, is_some}
use Rattle.std.specs.Option.{option_map}
use Rattle.tab_policy.specs.declared.permission.SystemPermission.{SystemPermission}
use Rattle.tab_policy.specs.declared.account.Account.{Account}
use Rattle.tab_policy.specs.declared.permission.SystemPermission.TheVariants as system
use Rattle.tab_policy.specs.declared.sets.SystemPermissions.{SystemPermissions}
use Rattle.tab_policy.specs.Permissions.{same_system}
use Rattle.tab_policy.specs.Sets.{system_contains}
use Rattle.tab_policy.specs.Accounts.{with_auths, with_system, system_set}
use Rattle.tab_policy.specs.Entries.{at_name, changed_at}
use Rattle.tab_policy.specs.declared.permission.TablePermission.{TablePermission}
use Rattle.tab_policy.specs.State.{State, Readings, readings, user_exists, user_count, auths_of, system_granted, table_granted, table_exists, account_auths, account_system}
use Rattle.tab_policy.proofs.EntryLemmas.{at_same}

-- a policy reads so where each of its readings does
pub reads_so : (s : State) (r : Readings) → ((n : List ℕ) → user_exists s n ≡ r.users n) → user_count s ≡ r.count → ((n : List ℕ) → auths_of s n ≡ r.auths n)
    → ((n : List ℕ) (p : SystemPermission) → system_granted s n p ≡ r.system n p) → ((n : List ℕ) (p : TablePermission) (t : List ℕ) → table_granted s n p t ≡ r.rights n p t)
    → ((t : List ℕ) → table_exists s t ≡ r.tables t) → readings s ≡ r
unfolding readings
reads_so s r users count auths system rights tables = λ i. record { users = λ n. users n i; count = count i; auths = λ n. auths n i; system = λ n p. system n p i; rights = λ n p t. rights n p t i; tables = λ t. tables t i }

-- the authorizations after they were set
pub auths_set : (n q : List ℕ) (old : List (List ℕ × Account)) (set : List (List ℕ))
    → account_auths (changed_at n (with_auths set) old q) ≡ cond (is_some (at_name n old) && bytes_eq n q) set (account_auths (at_name q old))
auths_set n q old set =
    elim (bytes_eq n q) as (λ b. bytes_eq n q ≡ b → account_auths (cond b (option_map (with_auths set) (at_name q old)) (at_name q old)) ≡ cond (is_some (at_name n old) && b) set (account_auths (at_name q old))) [
      | true ↦ λ (same : bytes_eq n q ≡ true).
          ap (λ o. account_auths (option_map (with_auths set) o)) (at_same n q old same)
          ∙ found (at_name n old) ∙ sym (ap (λ o. cond (is_some (at_name n old) && true) set (account_auths o)) (at_same n q old same))
      | false ↦ λ same. unset (is_some (at_name n old))
    ] refl
  where
    found : (o : Option Account) → account_auths (option_map (with_auths set) o) ≡ cond (is_some o && true) set (account_auths o)
    found None = refl
    found (Some a) = refl

    unset : (b : Bool) → account_auths (at_name q old) ≡ cond (b && false) set (account_auths (at_name q old))
    unset true = refl
    unset false = refl

-- a set has a permission after it was given or taken
system_set_contains : (q : SystemPermission) (held : Bool) (s : SystemPermissions) (p : SystemPermission)
    → system_contains (system_set q held s) p ≡ cond (same_system q p) held (system_contains s p)
system_set_contains system.Grant held s p = search rules
system_set_contains system.CreateTable held s p = search rules
system_set_contains system.DropTable held s p = search rules
system_set_contains system.AlterTable held s p = search rules
system_set_contains system.CreateUser held s p = search rules
system_set_contains system.DropUser held s p = search rules
system_set_contains system.AlterUser held s p = search rules
system_set_contains system.System held s p = search rules

-- the system permissions after one was given or taken
pub system_changed : (n q : List ℕ) (old : List (List ℕ × Account)) (permission : SystemPermission) (held : Bool) (p : SystemPermission)
    → account_system (changed_at n (with_system permission held) old q) p ≡ cond (is_some (at_name n old) && (bytes_eq n q && same_system permission p)) held (account_system (at_name q old) p)
system_changed n q old permission held p =
    elim (bytes_eq n q) as (λ b. bytes_eq n q ≡ b → account_system (cond b (option_map (with_system permission held) (at_name q old)) (at_name q old)) p ≡ cond (is_some (at_name n old) && (b && same_system permission p)) held (account_system (at_name q old) p)) [
      | true ↦ λ (same : bytes_eq n q ≡ true).
          ap (λ o. account_system (option_map (with_system permission held) o) p) (at_same n q old same)
          ∙ found (at_name n old) ∙ sym (ap (λ o. cond (is_some (at_name n old) && same_system permission p) held (account_system o p)) (at_same n q old same))
      | false ↦ λ same. unset (is_some (at_name n old))
    ] refl
  where
    found : (o : Option Account) → account_system (option_map (with_system permission held) o) p ≡ cond (is_some o && same_system permission p) held (account_system o p)
    found None = refl
    found (Some a) = system_set_contains permission held a.system p

    unset : (b : Bool) → account_system (at_name q old) p ≡ cond (b && false) held (account_system (at_name q old) p)
    unset true = refl
    unset false = refl

-- what isn't there has no permission to lose
unheld : (n q : List ℕ) (old : List (List ℕ × Account)) (b : Bool) (p : SystemPermission)
    → cond (is_some (at_name n old) && (bytes_eq n q && b)) false (account_system (at_name q old) p) ≡ cond (bytes_eq n q && b) false (account_system (at_name q old) p)
unheld n q old b p =
    elim (bytes_eq n q) as (λ x. bytes_eq n q ≡ x → cond (is_some (at_name n old) && (x && b)) false (account_system (at_name q old) p) ≡ cond (x && b) false (account_system (at_name q old) p)) [
      | true ↦ λ (same : bytes_eq n q ≡ true).
          ap (λ o. cond (is_some (at_name n old) && b) false (account_system o p)) (at_same n q old same)
          ∙ found (at_name n old) b ∙ sym (ap (λ o. cond b false (account_system o p)) (at_same n q old same))
      | false ↦ λ same. unset (is_some (at_name n old))
    ] refl
  where
    found : (o : Option Account) (b : Bool) → cond (is_some o && b) false (account_system o p) ≡ cond b false (account_system o p)
    found None true = refl
    found None false = refl
    found (Some a) b = refl

    unset : (x : Bool) → cond (x && false) false (account_system (at_name q old) p) ≡ account_system (at_name q old) p
    unset true = refl
    unset false = refl

-- the system permissions after one was taken
pub system_taken : (n q : List ℕ) (old : List (List ℕ × Account)) (permission p : SystemPermission)
    → account_system (changed_at n (with_system permission false) old q) p ≡ cond (bytes_eq n q && same_system permission p) false (account_system (at_name q old) p)
system_taken n q old permission p = system_changed n q old permission false p ∙ unheld n q old (same_system permission p) p
