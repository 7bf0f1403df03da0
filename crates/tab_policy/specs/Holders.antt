-- To be believed by whoever relies on it. All users, listed, and all who hold something on a table.
use Rattle.std.specs.Prelude.{ℕ, ◌≡◌, List, Bool, true, ◌&&◌, Option, None, map, filter_map, length, bytes_eq, if◌then◌else◌}
use Rattle.std.specs.Option.{option_map}
use Rattle.std.specs.List.{All, list_any}
use Rattle.tab_label.specs.Sets.{IsRising, has}
use Rattle.tab_policy.specs.declared.permission.TablePermission.{TablePermission}
use Rattle.tab_policy.specs.declared.sets.TablePermissions.{TablePermissions}
use Rattle.tab_policy.specs.declared.holder.Holder.{Holder}
use Rattle.tab_policy.specs.Permissions.{all_table}
use Rattle.tab_policy.specs.Sets.{table_contains}
use Rattle.tab_policy.specs.State.{State, user_exists, user_count, table_granted}

-- The names of all users, each once, rising.
pub record AreUsers (s : State) (names : List (List ℕ)) : Type 0 where
  pub rising : IsRising names
  pub all : (n : List ℕ) → has names n ≡ user_exists s n
  pub count : length names ≡ user_count s

-- whether the set has any permission
abbrev pub has_any : TablePermissions → Bool
has_any held = list_any (table_contains held) all_table

-- whether the user is one of them, with the permission
abbrev pub held_among : List Holder → List ℕ → TablePermission → Bool
held_among holders n p = list_any (λ h. bytes_eq n h.user && table_contains h.held p) holders

-- All users who have a permission on the table t, each once, rising by name, each with all his permissions on it.
pub record AreHolders (s : State) (t : List ℕ) (holders : List Holder) : Type 0 where
  pub rising : IsRising (map (λ h. h.user) holders)
  pub users : All (λ h. user_exists s h.user ≡ true) holders
  pub some : All (λ h. has_any h.held ≡ true) holders
  pub all : (n : List ℕ) (p : TablePermission) → held_among holders n p ≡ table_granted s n p t

-- the user of this name, if there is one, with these permissions, if they are any
abbrev pub holder_in : Option (List ℕ) → TablePermissions → Option Holder
holder_in name held = if has_any held then option_map (λ n. record { user = n; held = held }) name else None

-- the users who are in the lives that these rights are kept of, and have any, by the names of those who are living
abbrev pub holders_in : (ℕ → Option (List ℕ)) → List (ℕ × TablePermissions) → List Holder
holders_in names rights = filter_map (λ r. holder_in (names r.0) r.1) rights
