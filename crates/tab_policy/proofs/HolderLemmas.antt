-- Who holds what among the rights that are kept of a table.
use Rattle.std.proofs.Common.{◌≡◌, ℕ, ◌+◌, ◌<◌, Bool, true, false, cond, ◌&&◌, ◌||◌, List, [], ◌∷◌, length, get_or, map, Some, None, refl, sym, ap, ◌∙◌, subst, arith}
use Rattle.std.specs.Prelude.{Option, is_some, bytes_eq}
use Rattle.std.specs.Option.{option_map}
use Rattle.std.specs.List.{AllByRecursion, IsDistinct, cons_option, list_any}
use Rattle.std.specs.List.Sorted.{IsPermutation, IsSortedBy, IsStrictlySortedBy}
use Rattle.std.specs.Map.{keys_of}
use Rattle.std.specs.Ordering.{is_lt, is_eq, nat_cmp, ordering_reverse}
use Rattle.std.specs.declared.cmp.Ordering.{Ordering}
use Rattle.std.specs.declared.cmp.Ordering.TheVariants.{Less, Equal, Greater}
use Rattle.std.specs.Cmp.{IsStrictWeakOrder}
use Rattle.std.specs.Cmp.Lexicographic.{nat_list_cmp_total}
use Rattle.std.proofs.lemmas.Slice.Eq.{bytes_eq-Decides}
use Rattle.std.proofs.lemmas.List.{get_or-map, length-map}
use Rattle.std.proofs.lemmas.List.Elements.{All-nil, All-from_recursion}
use Rattle.std.proofs.lemmas.List.Sorted.{ranks_by, All-permutation, IsPermutation-map, list_any-IsPermutation}
use Rattle.std.proofs.lemmas.Map.Entries.{length-keys_of}
use Rattle.std.proofs.lemmas.Map.Keys.{IsDistinct-from_sorted, IsDistinct-IsPermutation, apart_from_distinct, sorted_from_all_adjacent}
use Rattle.std.proofs.lemmas.Map.Made.{is_some-lookup}
use mathlib.Core.Bool.{true≢false}
use Rattle.tab_key.specs.Bytes.{bytes_cmp}
use Rattle.tab_label.specs.Sets.{IsRising}
use Rattle.tab_policy.specs.declared.permission.TablePermission.{TablePermission}
use Rattle.tab_policy.specs.declared.permission.TablePermission.TheVariants as table
use Rattle.tab_policy.specs.declared.sets.TablePermissions.{TablePermissions}
use Rattle.tab_policy.specs.declared.account.Account.{Account}
use Rattle.tab_policy.specs.declared.holder.Holder.{Holder}
use Rattle.tab_policy.specs.Sets.{table_contains}
use Rattle.tab_policy.specs.Entries.{at_name, at_life, same_life}
use Rattle.tab_policy.specs.State.{State, user_exists, user_count, table_granted, some_contains, account_life, table_gives}
use Rattle.tab_policy.specs.Lives.{AreLived, is_life, life_among, name_among, gives_among}
use Rattle.tab_policy.specs.Holders.{AreUsers, AreHolders, has_any, held_among, holder_in, holders_in}
use Rattle.tab_policy.proofs.NameLemmas.{same_name, life_is}
use Rattle.tab_policy.proofs.LivesLemmas.{none_some, lives_who_is, his_life}

abbrev Rights : Type 0
Rights = List (ℕ × TablePermissions)

abbrev user_of : Holder → List ℕ
user_of h = h.user

-- two tests that say the same
any_same : {X : Type 0} (f g : X → Bool) → ((x : X) → f x ≡ g x) → (xs : List X) → list_any f xs ≡ list_any g xs
any_same f g same [] = refl
any_same f g same (x ∷ xs) = λ i. same x i || any_same f g same xs i

and_false : (b : Bool) → false ≡ b && false
and_false true = refl
and_false false = refl

or_false : (b : Bool) → (b || false) ≡ b
or_false true = refl
or_false false = refl

neither : (a b : Bool) → (a || b) ≡ false → (a ≡ false) × (b ≡ false)
neither true b e = absurd (true≢false e)
neither false b e = (refl, e)

-- ---- one entry
-- a set without any permission has none
pub has_none : (s : TablePermissions) → has_any s ≡ false → (p : TablePermission) → table_contains s p ≡ false
has_none s e p =
    let read = neither s.read (s.write || (s.alter_table || (s.grant || (s.drop_table || false)))) e in
    let write = neither s.write (s.alter_table || (s.grant || (s.drop_table || false))) read.1 in
    let alter = neither s.alter_table (s.grant || (s.drop_table || false)) write.1 in
    let grant = neither s.grant (s.drop_table || false) alter.1 in
    let drop = neither s.drop_table false grant.1 in
    go read.0 write.0 alter.0 grant.0 drop.0 p
  where
    go : s.read ≡ false → s.write ≡ false → s.alter_table ≡ false → s.grant ≡ false → s.drop_table ≡ false → (p : TablePermission) → table_contains s p ≡ false
    go read write alter grant drop table.Read = read
    go read write alter grant drop table.Write = write
    go read write alter grant drop table.AlterTable = alter
    go read write alter grant drop table.Grant = grant
    go read write alter grant drop table.DropTable = drop

-- whether he is the user, with the permission, if there is one
abbrev gives : Option Holder → List ℕ → TablePermission → Bool
gives None n p = false
gives (Some h) n p = bytes_eq n h.user && table_contains h.held p

held_more : (o : Option Holder) (hs : List Holder) (n : List ℕ) (p : TablePermission) → held_among (cons_option o hs) n p ≡ (gives o n p || held_among hs n p)
held_more None hs n p = refl
held_more (Some h) hs n p = refl

-- whether this is the name, if there is one
abbrev is_named : Option (List ℕ) → List ℕ → Bool
is_named None n = false
is_named (Some m) n = bytes_eq n m

entry_gives : (o : Option (List ℕ)) (s : TablePermissions) (n : List ℕ) (p : TablePermission) → gives (holder_in o s) n p ≡ (is_named o n && table_contains s p)
entry_gives o s n p = go (has_any s) refl
  where
    there : (o : Option (List ℕ)) → gives (option_map (λ n. record { user = n; held = s }) o) n p ≡ (is_named o n && table_contains s p)
    there None = refl
    there (Some m) = refl

    go : (v : Bool) → has_any s ≡ v → gives (cond v (option_map (λ n. record { user = n; held = s }) o) None) n p ≡ (is_named o n && table_contains s p)
    go true e = there o
    go false e = and_false (is_named o n) ∙ ap (λ b. is_named o n && b) (sym (has_none s e p))

-- what they hold is what the rights give to their lives
held_is : (names : ℕ → Option (List ℕ)) (rights : Rights) (n : List ℕ) (p : TablePermission)
    → held_among (holders_in names rights) n p ≡ list_any (λ r. is_named (names r.0) n && table_contains r.1 p) rights
held_is names [] n p = refl
held_is names (r ∷ rs) n p = held_more (holder_in (names r.0) r.1) (holders_in names rs) n p ∙ (λ i. entry_gives (names r.0) r.1 n p i || held_is names rs n p i)

-- what holds of each who is in a life and has a permission holds of all
each : (names : ℕ → Option (List ℕ)) (P : Holder → Type 0) → ((l : ℕ) (n : List ℕ) (held : TablePermissions) → names l ≡ Some n → has_any held ≡ true → P (record { user = n; held = held }))
    → (rights : Rights) → AllByRecursion P (holders_in names rights)
each names P one [] = tt
each names P one (r ∷ rs) = go (each names P one rs) (names r.0) refl (has_any r.1) refl
  where
    go : AllByRecursion P (holders_in names rs) → (o : Option (List ℕ)) → names r.0 ≡ o → (v : Bool) → has_any r.1 ≡ v → AllByRecursion P (cons_option (cond v (option_map (λ n. record { user = n; held = r.1 }) o) None) (holders_in names rs))
    go rest o e false f = rest
    go rest None e true f = rest
    go rest (Some n) e true f = (one r.0 n r.1 e f, rest)

-- ---- each life once
-- a life under which nothing stands is none of the keys
not_a_key : {X : Type 0} (l : ℕ) (es : List (ℕ × X)) → at_life l es ≡ None → AllByRecursion (λ k. same_life l k ≡ false) (keys_of es)
not_a_key l [] none = tt
not_a_key {X} l (e ∷ es) none = go (not_a_key l es) (same_life l e.0) refl none
  where
    go : (at_life l es ≡ None → AllByRecursion (λ k. same_life l k ≡ false) (keys_of es)) → (v : Bool) → same_life l e.0 ≡ v → cond v (Some e.1) (at_life l es) ≡ None → (same_life l e.0 ≡ false) × AllByRecursion (λ k. same_life l k ≡ false) (keys_of es)
    go rest true same none = absurd (true≢false (sym (none_some e.1 (sym none))))
    go rest false other none = (other, rest none)

-- so the maker's entry and the others have a life each
pub one_entry_each : {X : Type 0} (l : ℕ) (x : X) (es : List (ℕ × X)) → at_life l es ≡ None → IsStrictlySortedBy nat_cmp (keys_of es) → IsDistinct same_life (keys_of ((l, x) ∷ es))
unfolding IsDistinct
one_entry_each l x es none sorted = (not_a_key l es none, IsDistinct-from_sorted nat_cmp (keys_of es) sorted)

-- where no key is the life, nothing is given to it
none_given : (l : ℕ) (p : TablePermission) (rights : Rights) → AllByRecursion (λ k. same_life l k ≡ false) (keys_of rights) → list_any (λ r. same_life l r.0 && table_contains r.1 p) rights ≡ false
none_given l p [] h = refl
none_given l p (r ∷ rs) h = ap (λ b. (b && table_contains r.1 p) || list_any (λ r. same_life l r.0 && table_contains r.1 p) rs) h.0 ∙ none_given l p rs h.1

given_once : (l : ℕ) (p : TablePermission) (rights : Rights) → IsDistinct same_life (keys_of rights)
    → list_any (λ r. same_life l r.0 && table_contains r.1 p) rights ≡ some_contains (at_life l rights) p
unfolding IsDistinct
given_once l p [] apart = refl
given_once l p (r ∷ rs) apart = go (given_once l p rs apart.1) (same_life l r.0) refl
  where
    go : list_any (λ r. same_life l r.0 && table_contains r.1 p) rs ≡ some_contains (at_life l rs) p → (v : Bool) → same_life l r.0 ≡ v → ((v && table_contains r.1 p) || list_any (λ r. same_life l r.0 && table_contains r.1 p) rs) ≡ some_contains (cond v (Some r.1) (at_life l rs)) p
    go rest true same =
        ap (λ b. table_contains r.1 p || b) (none_given l p rs (subst (λ m. AllByRecursion (λ k. same_life m k ≡ false) (keys_of rs)) (sym (life_is l r.0 same)) apart.0))
        ∙ or_false (table_contains r.1 p)
    go rest false other = rest

-- to nobody nothing is given
given_to_nobody : (p : TablePermission) (rights : Rights) → list_any (λ r. false && table_contains r.1 p) rights ≡ false
given_to_nobody p [] = refl
given_to_nobody p (r ∷ rs) = given_to_nobody p rs

given_is : (o : Option ℕ) (p : TablePermission) (rights : Rights) → IsDistinct same_life (keys_of rights)
    → list_any (λ r. is_life o r.0 && table_contains r.1 p) rights ≡ table_gives (Some rights) o p
given_is None p rights apart = given_to_nobody p rights
given_is (Some l) p rights apart = given_once l p rights apart

-- ---- lives and names
module _ {lives : List ℕ → Option ℕ} {names : ℕ → Option (List ℕ)} {gives : List ℕ → ℕ → TablePermission → Bool} {next : ℕ} (are : AreLived lives names gives next) where
  -- a life has the name where it is that user's
  named_is : (n : List ℕ) (l : ℕ) → is_named (names l) n ≡ is_life (lives n) l
  named_is n l = go (names l) refl
    where
      nobody : names l ≡ None → (o : Option ℕ) → lives n ≡ o → false ≡ is_life o l
      nobody e None f = refl
      nobody e (Some m) f = other (same_life m l) refl
        where
          other : (v : Bool) → same_life m l ≡ v → false ≡ v
          other true same = none_some n (sym e ∙ ap names (sym (life_is m l same)) ∙ are.kept n m f)
          other false h = refl

      go : (o : Option (List ℕ)) → names l ≡ o → is_named o n ≡ is_life (lives n) l
      go None e = nobody e (lives n) refl
      go (Some m) e = sym (his_life are n m l (are.held m l e))

  -- another life has another name
  other_name : (l k : ℕ) (n m : List ℕ) → names l ≡ Some n → names k ≡ Some m → same_life l k ≡ false → bytes_eq n m ≡ false
  other_name l k n m of_l of_k other = sym (his_life are n m k (are.held m k of_k)) ∙ ap (λ o. is_life o k) (are.held n l of_l) ∙ other

  names_apart : (l : ℕ) (n : List ℕ) → names l ≡ Some n → (rights : Rights) → AllByRecursion (λ k. same_life l k ≡ false) (keys_of rights) → AllByRecursion (λ m. bytes_eq n m ≡ false) (map user_of (holders_in names rights))
  names_apart l n of_l [] apart = tt
  names_apart l n of_l (r ∷ rs) apart = go (names_apart l n of_l rs apart.1) (names r.0) refl (has_any r.1)
    where
      go : AllByRecursion (λ m. bytes_eq n m ≡ false) (map user_of (holders_in names rs)) → (o : Option (List ℕ)) → names r.0 ≡ o → (v : Bool) → AllByRecursion (λ m. bytes_eq n m ≡ false) (map user_of (cons_option (cond v (option_map (λ n. record { user = n; held = r.1 }) o) None) (holders_in names rs)))
      go rest o e false = rest
      go rest None e true = rest
      go rest (Some m) e true = (other_name l r.0 n m of_l e apart.0, rest)

  -- so no name comes twice
  pub distinct_names : (rights : Rights) → IsDistinct same_life (keys_of rights) → IsDistinct bytes_eq (map user_of (holders_in names rights))
  unfolding IsDistinct
  distinct_names [] apart = tt
  distinct_names (r ∷ rs) apart = go (distinct_names rs apart.1) (names r.0) refl (has_any r.1)
    where
      go : IsDistinct bytes_eq (map user_of (holders_in names rs)) → (o : Option (List ℕ)) → names r.0 ≡ o → (v : Bool) → IsDistinct bytes_eq (map user_of (cons_option (cond v (option_map (λ n. record { user = n; held = r.1 }) o) None) (holders_in names rs)))
      go rest o e false = rest
      go rest None e true = rest
      go rest (Some m) e true = (names_apart r.0 m e rs apart.0, rest)

  pub reads_so : (n : List ℕ) (p : TablePermission) (rights : Rights) → IsDistinct same_life (keys_of rights) → held_among (holders_in names rights) n p ≡ table_gives (Some rights) (lives n) p
  reads_so n p rights apart =
      held_is names rights n p
      ∙ any_same (λ r. is_named (names r.0) n && table_contains r.1 p) (λ r. is_life (lives n) r.0 && table_contains r.1 p) (λ r. ap (λ b. b && table_contains r.1 p) (named_is n r.0)) rights
      ∙ given_is (lives n) p rights apart

-- ---- in the order of names
-- names that don't fall and aren't the same rise
below : (a b : List ℕ) → is_lt (bytes_cmp b a) ≡ false → bytes_eq a b ≡ false → bytes_cmp a b ≡ Less
below a b no_fall other = go (bytes_cmp a b) refl
  where
    go : (o : Ordering) → bytes_cmp a b ≡ o → bytes_cmp a b ≡ Less
    go Less e = e
    go Equal e = absurd (true≢false (sym (ap is_eq e) ∙ same_name a b ∙ other))
    go Greater e = absurd (true≢false (sym (ap is_lt (nat_list_cmp_total.antisymm b a ∙ ap ordering_reverse e)) ∙ no_fall))

flipped : (a b : List ℕ) → bytes_eq a b ≡ bytes_eq b a
flipped a b = go (bytes_eq a b) refl (bytes_eq b a) refl
  where
    go : (v : Bool) → bytes_eq a b ≡ v → (w : Bool) → bytes_eq b a ≡ w → v ≡ w
    go true e true f = refl
    go false e false f = refl
    go true e false f = sym ((bytes_eq-Decides b a).1 (sym ((bytes_eq-Decides a b).0 e))) ∙ f
    go false e true f = sym e ∙ (bytes_eq-Decides a b).1 (sym ((bytes_eq-Decides b a).0 f))

-- holders by name
abbrev pub before : Holder → Holder → Bool
before h g = is_lt (bytes_cmp h.user g.user)

pub before_order : IsStrictWeakOrder before
before_order = ranks_by nat_list_cmp_total user_of

nobody : Holder
nobody = record { user = []; held = record { read = false; write = false; alter_table = false; grant = false; drop_table = false } }

rises : (hs : List Holder) → IsSortedBy before hs → IsDistinct bytes_eq (map user_of hs) → IsRising (map user_of hs)
rises hs sorted apart = sorted_from_all_adjacent nat_list_cmp_total (map user_of hs) [] (λ k within.
    let short : k + 1 < length hs = subst (λ m. k + 1 < m) (length-map hs user_of) within in
    let here : get_or (map user_of hs) k [] ≡ (get_or hs k nobody).user = get_or-map user_of hs k nobody [] (omega (arith, short)) in
    let next : get_or (map user_of hs) (k + 1) [] ≡ (get_or hs (k + 1) nobody).user = get_or-map user_of hs (k + 1) nobody [] short in
    below (get_or (map user_of hs) k []) (get_or (map user_of hs) (k + 1) [])
    ((λ i. is_lt (bytes_cmp (next i) (here i))) ∙ sorted k nobody (omega arith) short)
    (apart_from_distinct bytes_eq (map user_of hs) k (k + 1) [] apart (omega arith) within))

-- ---- the lists
abbrev Users : Type 0
Users = List (List ℕ × Account)

abbrev Tables : Type 0
Tables = List (List ℕ × Rights)

-- those who are found among a table's rights, in the order of their names
pub holders_are : (us : Users) (living : List (ℕ × List ℕ)) (ts : Tables) (next : ℕ) (t : List ℕ) (rights : Rights) (found hs : List Holder)
    → AreLived (life_among us) (name_among living) (gives_among ts) next → at_name t ts ≡ Some rights → IsDistinct same_life (keys_of rights)
    → found ≡ holders_in (name_among living) rights → IsPermutation found hs → IsSortedBy before hs → AreHolders (record { users = us; tables = ts }) t hs
unfolding user_exists table_granted
holders_are us living ts next t rights found hs are there apart is moved sorted = record {
  rising = rises hs sorted (IsDistinct-IsPermutation bytes_eq flipped (map user_of found) (map user_of hs) (IsPermutation-map user_of found hs moved)
      (subst (λ xs. IsDistinct bytes_eq (map user_of xs)) (sym is) (distinct_names are rights apart)));
  users = All-permutation (λ h. is_some (at_name h.user us) ≡ true) found hs moved (All-from_recursion (λ h. is_some (at_name h.user us) ≡ true) found (subst (AllByRecursion (λ h. is_some (at_name h.user us) ≡ true)) (sym is)
      (each (name_among living) (λ h. is_some (at_name h.user us) ≡ true) (λ l n held named any. sym (lives_who_is (at_name n us)) ∙ ap is_some (are.held n l named)) rights)));
  some = All-permutation (λ h. has_any h.held ≡ true) found hs moved (All-from_recursion (λ h. has_any h.held ≡ true) found (subst (AllByRecursion (λ h. has_any h.held ≡ true)) (sym is)
      (each (name_among living) (λ h. has_any h.held ≡ true) (λ l n held named any. any) rights)));
  all = λ n p. sym (list_any-IsPermutation (λ h. bytes_eq n h.user && table_contains h.held p) found hs moved)
      ∙ ap (λ xs. held_among xs n p) is ∙ reads_so are n p rights apart ∙ sym (ap (λ o. table_gives o (life_among us n) p) there);
}

-- on a table that there isn't nobody holds anything
pub nobody_holds : (s : State) (t : List ℕ) → at_name t s.tables ≡ None → AreHolders s t []
unfolding table_granted IsStrictlySortedBy
nobody_holds s t gone = record {
  rising = tt;
  users = All-nil (λ h. user_exists s h.user ≡ true);
  some = All-nil (λ h. has_any h.held ≡ true);
  all = λ n p. sym (ap (λ o. table_gives o (account_life (at_name n s.users)) p) gone);
}

-- the names under which users are kept
pub users_are : (s : State) → IsStrictlySortedBy bytes_cmp (keys_of s.users) → AreUsers s (keys_of s.users)
unfolding user_exists user_count
users_are s rising = record {
  rising = rising;
  all = λ n. any_same (bytes_eq n) (λ m. is_eq (bytes_cmp n m)) (λ m. sym (same_name n m)) (keys_of s.users) ∙ sym (is_some-lookup (λ m. is_eq (bytes_cmp n m)) s.users);
  count = length-keys_of s.users;
}
