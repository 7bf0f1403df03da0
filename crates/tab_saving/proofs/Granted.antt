-- What is granted, as lists of users and of rights have it.
use Rattle.std.proofs.Common.{◌≡◌, ℕ, ◌<◌, Bool, true, false, cond, ◌&&◌, ◌||◌, List, [], ◌∷◌, map, length, get_or, refl, sym, ap, ◌∙◌}
use Rattle.std.specs.Prelude.{Option, Some, None, is_some, filter, bytes_eq}
use Rattle.std.specs.List.{list_any}
use Rattle.std.proofs.lemmas.List.Folds.{list_any_at}
use Rattle.std.proofs.lemmas.Slice.Eq.{bytes_eq-Decides}
use mathlib.Core.Bool.{true≢false}
use Rattle.tab_label.specs.Sets.{has}
use Rattle.tab_policy.specs.declared.permission.SystemPermission.{SystemPermission}
use Rattle.tab_policy.specs.declared.permission.SystemPermission.TheVariants as system
use Rattle.tab_policy.specs.declared.permission.TablePermission.{TablePermission}
use Rattle.tab_policy.specs.declared.permission.TablePermission.TheVariants as table
use Rattle.tab_policy.specs.declared.account.Account.{Account}
use Rattle.tab_policy.specs.declared.sets.SystemPermissions.{SystemPermissions}
use Rattle.tab_policy.specs.declared.sets.TablePermissions.{TablePermissions}
use Rattle.tab_policy.specs.Roots.{root}
use Rattle.tab_policy.specs.Sets.{system_contains, table_contains}
use Rattle.tab_policy.specs.Entries.{at_name}
use Rattle.tab_policy.specs.Holders.{AreUsers, has_any}
use Rattle.tab_policy.proofs.HolderLemmas.{has_none}
use Rattle.tab_policy.specs.State.{State, user_exists, auths_of, system_granted, has_system, table_granted, table_exists, account_auths, account_system, account_life, table_gives}
use Rattle.tab_image.specs.declared.table.ImageRight.{ImageRight}
use Rattle.tab_saving.specs.ImageOf.{system_of, held_of, right_of, rights_of}
use Rattle.tab_saving.specs.Saves.{RootHasAll}

-- ---- sets
pub system_read : (s : State) (n : List ℕ) (p : SystemPermission) → system_contains (system_of s n) p ≡ system_granted s n p
system_read s n system.Grant = refl
system_read s n system.CreateTable = refl
system_read s n system.DropTable = refl
system_read s n system.AlterTable = refl
system_read s n system.CreateUser = refl
system_read s n system.DropUser = refl
system_read s n system.AlterUser = refl
system_read s n system.System = refl

pub held_read : (s : State) (t n : List ℕ) (p : TablePermission) → table_contains (held_of s t n) p ≡ table_granted s n p t
held_read s t n table.Read = refl
held_read s t n table.Write = refl
held_read s t n table.AlterTable = refl
held_read s t n table.Grant = refl
held_read s t n table.DropTable = refl

-- ---- nobody holds nothing
pub no_auths : (s : State) (n : List ℕ) → user_exists s n ≡ false → auths_of s n ≡ []
unfolding user_exists auths_of
no_auths s n e = go (at_name n s.users) e
  where
    go : (o : Option Account) → is_some o ≡ false → account_auths o ≡ []
    go None e = refl
    go (Some a) e = absurd (true≢false e)

pub no_system : (s : State) (n : List ℕ) → user_exists s n ≡ false → (p : SystemPermission) → system_granted s n p ≡ false
unfolding user_exists system_granted
no_system s n e p = go (at_name n s.users) e
  where
    go : (o : Option Account) → is_some o ≡ false → account_system o p ≡ false
    go None e = refl
    go (Some a) e = absurd (true≢false e)

abbrev Rights : Type 0
Rights = List (ℕ × TablePermissions)

to_nobody : (o : Option Rights) (p : TablePermission) → table_gives o None p ≡ false
to_nobody None p = refl
to_nobody (Some rights) p = refl

pub no_rights : (s : State) (n : List ℕ) → user_exists s n ≡ false → (p : TablePermission) (t : List ℕ) → table_granted s n p t ≡ false
unfolding user_exists table_granted
no_rights s n e p t = go (at_name n s.users) e
  where
    go : (o : Option Account) → is_some o ≡ false → table_gives (at_name t s.tables) (account_life o) p ≡ false
    go None e = to_nobody (at_name t s.tables) p
    go (Some a) e = absurd (true≢false e)

-- nor does anybody on a table that there isn't
pub none_on : (s : State) (t : List ℕ) → table_exists s t ≡ false → (n : List ℕ) (p : TablePermission) → table_granted s n p t ≡ false
unfolding table_exists table_granted
none_on s t e n p = go (at_name t s.tables) e
  where
    go : (o : Option Rights) → is_some o ≡ false → table_gives o (account_life (at_name n s.users)) p ≡ false
    go None e = refl
    go (Some rights) e = absurd (true≢false e)

-- ---- rights as a list
-- whether the user is among them, with the permission
abbrev pub among : List ImageRight → List ℕ → TablePermission → Bool
among rights n p = list_any (λ (r : ImageRight). bytes_eq n r.user && table_contains r.held p) rights

-- whoever holds nothing is missed by no test of what is held
any_kept : (rights : List ImageRight) (n : List ℕ) (p : TablePermission) → among (filter (λ (r : ImageRight). has_any r.held) rights) n p ≡ among rights n p
any_kept [] n p = refl
any_kept (r ∷ rs) n p = go (any_kept rs n p) (has_any r.held) refl
  where
    nothing : (b : Bool) → table_contains r.held p ≡ false → among rs n p ≡ ((b && table_contains r.held p) || among rs n p)
    nothing true e = ap (λ v. v || among rs n p) (sym e)
    nothing false e = refl

    go : among (filter (λ (r : ImageRight). has_any r.held) rs) n p ≡ among rs n p → (v : Bool) → has_any r.held ≡ v
        → among (cond v (r ∷ filter (λ (r : ImageRight). has_any r.held) rs) (filter (λ (r : ImageRight). has_any r.held) rs)) n p ≡ among (r ∷ rs) n p
    go rest true e = ap (λ b. (bytes_eq n r.user && table_contains r.held p) || b) rest
    go rest false e = rest ∙ nothing (bytes_eq n r.user) (has_none r.held e p)

module _ (s : State) (t n : List ℕ) (p : TablePermission) where
  its_own : (ns : List (List ℕ)) → among (map (right_of s t) ns) n p ≡ (has ns n && table_granted s n p t)
  its_own [] = refl
  its_own (m ∷ ns) = go (its_own ns) (bytes_eq n m) refl
    where
      absorbed : (b g : Bool) → (g || (b && g)) ≡ g
      absorbed true true = refl
      absorbed true false = refl
      absorbed false true = refl
      absorbed false false = refl

      go : among (map (right_of s t) ns) n p ≡ (has ns n && table_granted s n p t) → (v : Bool) → bytes_eq n m ≡ v → ((v && table_contains (held_of s t m) p) || among (map (right_of s t) ns) n p) ≡ ((v || has ns n) && table_granted s n p t)
      go rest true e =
          let same : table_contains (held_of s t m) p ≡ table_granted s n p t = held_read s t m p ∙ ap (λ k. table_granted s k p t) (sym ((bytes_eq-Decides n m).0 e)) in
          (λ i. same i || rest i) ∙ absorbed (has ns n) (table_granted s n p t)
      go rest false e = rest

-- the rights of all users are what is granted
pub rights_read : (s : State) (names : List (List ℕ)) → AreUsers s names → (t n : List ℕ) (p : TablePermission) → among (rights_of s names t) n p ≡ table_granted s n p t
rights_read s names users t n p = any_kept (map (right_of s t) names) n p ∙ its_own s t n p names ∙ ap (λ b. b && table_granted s n p t) (users.all n) ∙ go (user_exists s n) refl
  where
    go : (v : Bool) → user_exists s n ≡ v → (v && table_granted s n p t) ≡ table_granted s n p t
    go true e = refl
    go false e = sym (no_rights s n e p t)

-- ---- users as a list
-- the user at a place of the list is there
pub user_at : (s : State) (names : List (List ℕ)) (i : ℕ) (n : List ℕ) → AreUsers s names → i < length names → n ≡ get_or names i n → user_exists s n ≡ true
user_at s names i n users lt is = sym (users.all n) ∙ list_any_at (bytes_eq n) names i n lt ((bytes_eq-Decides n (get_or names i n)).1 is)

-- a set with all that the user has, which is what he was granted, since root was granted all
pub system_is : (s : State) → RootHasAll s → (n : List ℕ) (set : SystemPermissions) → ((p : SystemPermission) → system_contains set p ≡ has_system s n p) → set ≡ system_of s n
system_is s all n set has = λ i. record {
  grant = same system.Grant i;
  create_table = same system.CreateTable i;
  drop_table = same system.DropTable i;
  alter_table = same system.AlterTable i;
  create_user = same system.CreateUser i;
  drop_user = same system.DropUser i;
  alter_user = same system.AlterUser i;
  system = same system.System i;
}
  where
    go : (p : SystemPermission) (v : Bool) → bytes_eq n root ≡ v → (v || system_granted s n p) ≡ system_granted s n p
    go p true e = sym (ap (λ k. system_granted s k p) ((bytes_eq-Decides n root).0 e) ∙ all p)
    go p false e = refl

    same : (p : SystemPermission) → system_contains set p ≡ system_granted s n p
    same p = has p ∙ go p (bytes_eq n root) refl
