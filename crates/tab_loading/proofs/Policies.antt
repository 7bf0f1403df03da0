-- What is read of a policy into which the users and the tables of an image were put.
use Rattle.std.proofs.Common.{◌≡◌, ℕ, ◌+◌, Bool, true, false, cond, ◌&&◌, ◌||◌, List, [], ◌∷◌, map, length, refl, sym, ap, ◌∙◌, subst, arith}
use Rattle.std.specs.Prelude.{Option, Some, None, bytes_eq}
use Rattle.std.specs.List.{AllByRecursion, fold, list_any}
use Rattle.std.specs.List.Sorted.{IsStrictlySortedBy}
use Rattle.std.specs.declared.cmp.Ordering.TheVariants.{Less}
use Rattle.std.proofs.lemmas.Option.{none-some}
use Rattle.tab_key.specs.Bytes.{bytes_cmp}
use Rattle.tab_label.specs.Sets.{IsRising}
use Rattle.tab_policy.specs.Roots.{root}
use Rattle.tab_policy.specs.Sets.{system_contains, table_contains}
use Rattle.tab_policy.specs.State.{Readings}
use Rattle.tab_policy.specs.declared.permission.SystemPermission.{SystemPermission}
use Rattle.tab_policy.specs.declared.permission.TablePermission.{TablePermission}
use Rattle.tab_image.specs.declared.table.ImageRight.{ImageRight}
use Rattle.tab_image.specs.declared.table.ImageTable.{ImageTable}
use Rattle.tab_image.specs.declared.user.ImageUser.{ImageUser}
use Rattle.tab_loading.specs.Policies.{new_readings, with_user, with_right, with_name, with_table}
use Rattle.tab_loading.proofs.Found.{itself, same_by, flipped, below_other, fold_keeps, found_or, found, none_above, folds_found}

-- ---- users
abbrev pub user_name : ImageUser → List ℕ
user_name u = u.name

-- how many of them are among some names
overlap : (List ℕ → Bool) → List ImageUser → ℕ
overlap f [] = 0
overlap f (u ∷ us) = cond (f u.name) (overlap f us + 1) (overlap f us)

overlap_same : (f g : List ℕ → Bool) (us : List ImageUser) → AllByRecursion (λ n. f n ≡ g n) (map user_name us) → overlap f us ≡ overlap g us
unfolding overlap
overlap_same f g [] a = refl
overlap_same f g (u ∷ us) a = λ i. cond (a.0 i) (overlap_same f g us a.1 i + 1) (overlap_same f g us a.1 i)

-- those who are new are counted
counted : (us : List ImageUser) (r : Readings) → IsRising (map user_name us) → (fold with_user r us).count + overlap r.users us ≡ r.count + length us
unfolding overlap IsStrictlySortedBy
counted [] r rise = refl
counted (u ∷ us) r rise = go (counted us (with_user r u) rise.1) (r.users u.name) refl
  where
    others : (ns : List (List ℕ)) → AllByRecursion (λ m. bytes_cmp u.name m ≡ Less) ns → AllByRecursion (λ n. (with_user r u).users n ≡ r.users n) ns
    others [] a = tt
    others (n ∷ ns) a = (ap (λ v. cond v true (r.users n)) (below_other u.name n a.0), others ns a.1)

    same : overlap (with_user r u).users us ≡ overlap r.users us
    same = overlap_same (with_user r u).users r.users us (others (map user_name us) rise.0)

    go : (fold with_user (with_user r u) us).count + overlap (with_user r u).users us ≡ (with_user r u).count + length us → (v : Bool) → r.users u.name ≡ v → (fold with_user (with_user r u) us).count + cond v (overlap r.users us + 1) (overlap r.users us) ≡ r.count + length (u ∷ us)
    go more true is = let one : (with_user r u).count ≡ r.count = ap (λ v. cond v r.count (r.count + 1)) is in omega (arith, more, same, one)
    go more false is = let one : (with_user r u).count ≡ r.count + 1 = ap (λ v. cond v r.count (r.count + 1)) is in omega (arith, more, same, one)

-- root is counted once
no_root : (us : List ImageUser) → found user_name root us ≡ None → overlap (bytes_eq root) us ≡ 0
unfolding overlap
no_root [] e = refl
no_root (u ∷ us) e = ap (λ v. cond v (overlap (bytes_eq root) us + 1) (overlap (bytes_eq root) us)) (flipped root u.name) ∙ go (bytes_eq u.name root) (no_root us) e
  where
    go : (v : Bool) → (found user_name root us ≡ None → overlap (bytes_eq root) us ≡ 0) → cond v (Some u) (found user_name root us) ≡ None → cond v (overlap (bytes_eq root) us + 1) (overlap (bytes_eq root) us) ≡ 0
    go true rest e = absurd (cc)
    go false rest e = rest e

root_once : (us : List ImageUser) (w : ImageUser) → IsRising (map user_name us) → found user_name root us ≡ Some w → overlap (bytes_eq root) us ≡ 1
unfolding overlap IsStrictlySortedBy
root_once [] w rise e = absurd (cc)
root_once (u ∷ us) w rise e = ap (λ v. cond v (overlap (bytes_eq root) us + 1) (overlap (bytes_eq root) us)) (flipped root u.name) ∙ go (bytes_eq u.name root) refl (root_once us w rise.1) e
  where
    go : (v : Bool) → bytes_eq u.name root ≡ v → (found user_name root us ≡ Some w → overlap (bytes_eq root) us ≡ 1) → cond v (Some u) (found user_name root us) ≡ Some w → cond v (overlap (bytes_eq root) us + 1) (overlap (bytes_eq root) us) ≡ 1
    go true is rest e = ap (λ o. o + 1) (no_root us (none_above user_name root us (subst (λ m. AllByRecursion (λ k. bytes_cmp m k ≡ Less) (map user_name us)) (same_by u.name root is) rise.0)))
    go false is rest e = rest e

module _ (us : List ImageUser) (rise : IsRising (map user_name us)) where
  abbrev pub after_users : Readings
  after_users = fold with_user new_readings us

  pub users_read : (n : List ℕ) → after_users.users n ≡ found_or (λ (u : ImageUser). true) (bytes_eq root n) (found user_name n us)
  users_read n = folds_found user_name with_user (λ r. Unit {0}) (λ r x k. tt) n (λ r. r.users n) (λ u. true) (λ r x k. refl) us new_readings tt rise

  pub auths_read : (n : List ℕ) → after_users.auths n ≡ found_or (λ (u : ImageUser). u.authorizations) [] (found user_name n us)
  auths_read n = folds_found user_name with_user (λ r. Unit {0}) (λ r x k. tt) n (λ r. r.auths n) (λ u. u.authorizations) (λ r x k. refl) us new_readings tt rise

  pub system_read : (n : List ℕ) (p : SystemPermission) → after_users.system n p ≡ found_or (λ (u : ImageUser). system_contains u.system p) (bytes_eq root n) (found user_name n us)
  system_read n p = folds_found user_name with_user (λ r. Unit {0}) (λ r x k. tt) n (λ r. r.system n p) (λ u. system_contains u.system p) (λ r x k. refl) us new_readings tt rise

  pub no_rights_yet : (n : List ℕ) (p : TablePermission) (t : List ℕ) → after_users.rights n p t ≡ false
  no_rights_yet n p t = folds_found user_name with_user (λ r. Unit {0}) (λ r x k. tt) n (λ r. r.rights n p t) (λ u. false) (λ r x k. refl) us new_readings tt rise ∙ go (found user_name n us)
    where
      go : (o : Option ImageUser) → found_or (λ (u : ImageUser). false) false o ≡ false
      go None = refl
      go (Some u) = refl

  pub no_tables_yet : (t : List ℕ) → after_users.tables t ≡ false
  no_tables_yet t = fold_keeps with_user (λ r. r.tables t) (λ r x. refl) us new_readings

  -- root is one of them
  module _ (w : ImageUser) (there : found user_name root us ≡ Some w) where
    pub count_read : after_users.count ≡ length us
    count_read =
        let all : after_users.count + overlap (bytes_eq root) us ≡ 1 + length us = counted us new_readings rise in
        let one : overlap (bytes_eq root) us ≡ 1 = root_once us w rise there in
        omega (arith, all, one)

    -- of a name that none of them has nothing is kept from the new policy
    pub others_gone : (n : List ℕ) → found user_name n us ≡ None → bytes_eq root n ≡ false
    others_gone n none = go (bytes_eq root n) refl
      where
        go : (v : Bool) → bytes_eq root n ≡ v → v ≡ false
        go false is = refl
        go true is = absurd (none-some w (sym none ∙ ap (λ m. found user_name m us) (sym (same_by root n is)) ∙ there))

-- ---- tables
abbrev pub table_name : ImageTable → List ℕ
table_name t = t.head.name

-- whether one of these rights gives the user the permission, of whoever is there
abbrev pub gives : (List ℕ → Bool) → List ImageRight → List ℕ → TablePermission → Bool
gives there rights n p = list_any (λ (x : ImageRight). there x.user && (bytes_eq x.user n && table_contains x.held p)) rights

module _ (n : List ℕ) (p : TablePermission) (t : List ℕ) where
  one_more : (e a u b k old s : Bool) → s ≡ true → ((e && a) || cond ((u && s) && (b && (k && e))) true old) ≡ ((e && ((u && (b && k)) || a)) || old)
  one_more false a false b k old s is = refl
  one_more false a true b k old s is = off s b k
    where
      off : (s b k : Bool) → cond (s && (b && (k && false))) true old ≡ old
      off false b k = refl
      off true false k = refl
      off true true true = refl
      off true true false = refl
  one_more true true false b k old s is = refl
  one_more true true true true true old s is = refl
  one_more true true true true false old s is = refl
  one_more true true true false k old s is = refl
  one_more true false false b k old s is = refl
  one_more true false true true true old true is = refl
  one_more true false true true true old false is = absurd (cc)
  one_more true false true true false old true is = refl
  one_more true false true true false old false is = refl
  one_more true false true false k old true is = refl
  one_more true false true false k old false is = refl

  rights_put : (s : List ℕ) (rs : List ImageRight) (r : Readings) → r.tables s ≡ true → (fold (with_right s) r rs).rights n p t ≡ ((bytes_eq s t && gives r.users rs n p) || r.rights n p t)
  rights_put s [] r there = sym (ap (λ v. v || r.rights n p t) (none (bytes_eq s t)))
    where
      none : (v : Bool) → (v && false) ≡ false
      none true = refl
      none false = refl
  rights_put s (x ∷ rs) r there =
      rights_put s rs (with_right s r x) there
      ∙ one_more (bytes_eq s t) (gives r.users rs n p) (r.users x.user) (bytes_eq x.user n) (table_contains x.held p) (r.rights n p t) (r.tables s) there

  head_put : (e a old : Bool) → ((e && a) || cond e false old) ≡ cond e a old
  head_put true true old = refl
  head_put true false old = refl
  head_put false a old = refl

  rights_one : (r : Readings) (x : ImageTable) → (with_table r x).rights n p t ≡ cond (bytes_eq x.head.name t) (gives r.users x.head.rights n p) (r.rights n p t)
  rights_one r x =
      rights_put x.head.name x.head.rights (with_name r x.head.name) (ap (λ v. cond v true (r.tables x.head.name)) (itself x.head.name))
      ∙ head_put (bytes_eq x.head.name t) (gives r.users x.head.rights n p) (r.rights n p t)

-- all but tables and rights stays
abbrev KeptBy : {X : Type 0} → (Readings → X) → Type 0
KeptBy read = (s : List ℕ) (r : Readings) (x : ImageRight) → read (with_right s r x) ≡ read r

table_keeps : {X : Type 0} (read : Readings → X) → KeptBy read → ((r : Readings) (s : List ℕ) → read (with_name r s) ≡ read r) → (r : Readings) (x : ImageTable) → read (with_table r x) ≡ read r
table_keeps read one named r x = fold_keeps (with_right x.head.name) read (one x.head.name) x.head.rights (with_name r x.head.name) ∙ named r x.head.name

module _ (ts : List ImageTable) (rise : IsRising (map table_name ts)) (r : Readings) where
  abbrev pub after_tables : Readings
  after_tables = fold with_table r ts

  pub same_users : after_tables.users ≡ r.users
  same_users = fold_keeps with_table (λ r. r.users) (table_keeps (λ r. r.users) (λ s r x. refl) (λ r s. refl)) ts r

  pub same_count : after_tables.count ≡ r.count
  same_count = fold_keeps with_table (λ r. r.count) (table_keeps (λ r. r.count) (λ s r x. refl) (λ r s. refl)) ts r

  pub same_auths : after_tables.auths ≡ r.auths
  same_auths = fold_keeps with_table (λ r. r.auths) (table_keeps (λ r. r.auths) (λ s r x. refl) (λ r s. refl)) ts r

  pub same_system : after_tables.system ≡ r.system
  same_system = fold_keeps with_table (λ r. r.system) (table_keeps (λ r. r.system) (λ s r x. refl) (λ r s. refl)) ts r

  pub tables_read : (t : List ℕ) → after_tables.tables t ≡ found_or (λ (x : ImageTable). true) (r.tables t) (found table_name t ts)
  tables_read t = folds_found table_name with_table (λ r. Unit {0}) (λ r x k. tt) t (λ r. r.tables t) (λ x. true)
      (λ r x k. fold_keeps (with_right x.head.name) (λ r. r.tables t) (λ r y. refl) x.head.rights (with_name r x.head.name)) ts r tt rise

  pub rights_read : (n : List ℕ) (p : TablePermission) (t : List ℕ) → after_tables.rights n p t ≡ found_or (λ (x : ImageTable). gives r.users x.head.rights n p) (r.rights n p t) (found table_name t ts)
  rights_read n p t = folds_found table_name with_table (λ q. q.users ≡ r.users) (λ q x k. table_keeps (λ r. r.users) (λ s r x. refl) (λ r s. refl) q x ∙ k) t (λ q. q.rights n p t) (λ x. gives r.users x.head.rights n p)
      (λ q x k. rights_one n p t q x ∙ ap (λ (f : List ℕ → Bool). cond (bytes_eq x.head.name t) (gives f x.head.rights n p) (q.rights n p t)) k) ts r refl rise

-- rights of users who are there give what they say
pub all_give : (there : List ℕ → Bool) (rights : List ImageRight) (n : List ℕ) (p : TablePermission) → AllByRecursion (λ (x : ImageRight). there x.user ≡ true) rights
    → gives there rights n p ≡ list_any (λ (x : ImageRight). bytes_eq n x.user && table_contains x.held p) rights
all_give there [] n p a = refl
all_give there (x ∷ xs) n p a = λ i. (a.0 i && (flipped x.user n i && table_contains x.held p)) || all_give there xs n p a.1 i
