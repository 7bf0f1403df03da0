-- For proofs. Lives of users: numbers that are given once.
use Rattle.std.specs.Prelude.{ℕ, ◌≡◌, ◌<◌, ◌≤◌, List, Bool, true, false, Option, Some, None, is_some}
use Rattle.tab_policy.specs.declared.permission.TablePermission.{TablePermission}
use Rattle.tab_policy.specs.declared.sets.TablePermissions.{TablePermissions}
use Rattle.tab_policy.specs.declared.account.Account.{Account}
use Rattle.tab_policy.specs.Entries.{at_name, at_life, same_life}
use Rattle.tab_policy.specs.State.{account_life, some_contains, table_gives}

-- whether this is the life, if there is one
abbrev pub is_life : Option ℕ → ℕ → Bool
is_life None l = false
is_life (Some m) l = same_life m l

-- What holds of the lives by name, of the names that are kept of those who are living, of what tables give to lives, and of the next life.
pub record AreLived (lives : List ℕ → Option ℕ) (names : ℕ → Option (List ℕ)) (gives : List ℕ → ℕ → TablePermission → Bool) (next : ℕ) : Type 0 where
  -- no user is in a life that is still to come
  pub begun : (n : List ℕ) (l : ℕ) → lives n ≡ Some l → l < next
  -- the name of each user is kept under his life
  pub kept : (n : List ℕ) (l : ℕ) → lives n ≡ Some l → names l ≡ Some n
  -- and no other name is kept
  pub held : (n : List ℕ) (l : ℕ) → names l ≡ Some n → lives n ≡ Some l
  -- a life that is still to come holds nothing
  pub bare : (t : List ℕ) (l : ℕ) (p : TablePermission) → next ≤ l → gives t l p ≡ false

-- the life of the user of this name
abbrev pub life_among : List (List ℕ × Account) → List ℕ → Option ℕ
life_among users n = account_life (at_name n users)

-- the name of the user who is in the life
abbrev pub name_among : List (ℕ × List ℕ) → ℕ → Option (List ℕ)
name_among living l = at_life l living

-- whether the life is among these
abbrev pub is_among : {X : Type 0} → List (ℕ × X) → ℕ → Bool
is_among living l = is_some (at_life l living)

-- whether the table gives the permission to whoever is in the life
abbrev pub gives_among : List (List ℕ × List (ℕ × TablePermissions)) → List ℕ → ℕ → TablePermission → Bool
gives_among tables t l p = table_gives (at_name t tables) (Some l) p

-- The new rights are the old ones for all who are living, and others have none that they hadn't.
pub record Weeds (living : ℕ → Bool) (old new : List (ℕ × TablePermissions)) : Type 0 where
  pub same : (l : ℕ) → living l ≡ true → at_life l new ≡ at_life l old
  pub none : (l : ℕ) (p : TablePermission) → some_contains (at_life l old) p ≡ false → some_contains (at_life l new) p ≡ false
