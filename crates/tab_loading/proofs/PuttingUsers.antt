-- What is read of a policy once a user of an image was put into it.
use Rattle.std.proofs.Common.{◌≡◌, ℕ, ◌+◌, Bool, true, false, cond, ◌&&◌, List, [], refl, ap, ◌∙◌}
use Rattle.std.specs.Prelude.{bytes_eq}
use Rattle.std.specs.List.{list_any}
use Rattle.tab_policy.proofs.Readings.{reads_so}
use Rattle.tab_policy.specs.Permissions.{all_system, same_system}
use Rattle.tab_policy.specs.Roots.{root}
use Rattle.tab_policy.specs.Sets.{system_contains}
use Rattle.tab_policy.specs.State.{State, Readings, readings, user_exists, user_count, auths_of, system_granted, table_granted, table_exists}
use Rattle.tab_policy.specs.declared.permission.SystemPermission.{SystemPermission}
use Rattle.tab_policy.specs.declared.permission.TablePermission.{TablePermission}
use Rattle.tab_image.specs.declared.user.ImageUser.{ImageUser}
use Rattle.tab_loading.specs.Policies.{new_readings, granted, with_user}
use Rattle.tab_loading.proofs.Found.{itself}
use Rattle.tab_loading.proofs.Granting.{any_system}

-- ---- a new policy
pub reads_new : (s : State) → ((n : List ℕ) → user_exists s n ≡ bytes_eq root n) → user_count s ≡ 1 → ((n : List ℕ) → auths_of s n ≡ []) → ((n : List ℕ) (p : SystemPermission) → system_granted s n p ≡ bytes_eq root n)
    → ((n : List ℕ) (p : TablePermission) (t : List ℕ) → table_granted s n p t ≡ false) → ((t : List ℕ) → table_exists s t ≡ false) → readings s ≡ new_readings
reads_new s users count auths system rights tables = reads_so s new_readings users count auths system rights tables

-- ---- one user
-- once he was made
abbrev pub made : List ℕ → Readings → Readings
made m r = record r {
  users = λ n. cond (bytes_eq m n) true (r.users n);
  count = cond (r.users m) r.count (r.count + 1);
  auths = λ n. cond (bytes_eq m n) [] (r.auths n);
  system = λ n p. cond (bytes_eq m n) false (r.system n p);
  rights = λ n p t. cond (bytes_eq m n) false (r.rights n p t);
}

-- once his authorizations were set
abbrev pub authorized : List ℕ → List (List ℕ) → Readings → Readings
authorized m auths r = record r { auths = λ n. cond (r.users m && bytes_eq m n) auths (r.auths n) }

put_auths : (v u b : Bool) (a x : List (List ℕ)) → v ≡ true → cond (cond v true u && b) a (cond b [] x) ≡ cond b a x
put_auths true u true a x e = refl
put_auths true u false a x e = refl
put_auths false u b a x e = absurd (cc)

put_system : (v u b k l x : Bool) → v ≡ true → l ≡ true → cond (cond v true u && (b && (k && l))) true (cond b false x) ≡ cond b k x
put_system true u true true true x e f = refl
put_system true u true false true x e f = refl
put_system true u false k l x e f = refl
put_system true u b k false x e f = absurd (cc)
put_system false u b k l x e f = absurd (cc)

put_is : (u : ImageUser) (r : Readings) → granted u.name u.system all_system (authorized u.name u.authorizations (made u.name r)) ≡ with_user r u
put_is u r = λ i. record (made u.name r) {
  auths = λ n. put_auths (bytes_eq u.name u.name) (r.users u.name) (bytes_eq u.name n) u.authorizations (r.auths n) (itself u.name) i;
  system = λ n p. put_system (bytes_eq u.name u.name) (r.users u.name) (bytes_eq u.name n) (system_contains u.system p) (list_any (λ q. same_system q p) all_system) (r.system n p) (itself u.name) (any_system p) i;
}

-- what the calls leave that put him there
module _ (u : ImageUser) (old one two new : State) where
  pub puts_user : readings one ≡ record (readings old) {
    users = λ n. cond (bytes_eq u.name n) true (user_exists old n);
    count = cond (user_exists old u.name) (user_count old) (user_count old + 1);
    auths = λ n. cond (bytes_eq u.name n) [] (auths_of old n);
    system = λ n p. cond (bytes_eq u.name n) false (system_granted old n p);
    rights = λ n p t. cond (bytes_eq u.name n) false (table_granted old n p t);
  }
      → readings two ≡ record (readings one) { auths = λ n. cond (user_exists one u.name && bytes_eq u.name n) u.authorizations (auths_of one n) }
      → readings new ≡ granted u.name u.system all_system (readings two) → readings new ≡ with_user (readings old) u
  unfolding readings
  puts_user first second third =
      third
      ∙ ap (granted u.name u.system all_system) (second ∙ ap (authorized u.name u.authorizations) first)
      ∙ put_is u (readings old)
