-- The image of a core is sane: what a core keeps is what an image asks for.
use Rattle.std.proofs.Common.{◌≡◌, inl, inr, ◌<◌, ◌^◌, ℕ, ℤ, Bool, true, false, cond, ◌&&◌, ◌||◌, List, [], ◌∷◌, length, map, refl, sym, ap, ◌∙◌, subst}
use Rattle.std.specs.Prelude.{Option, Some, find, bytes_eq, Contains}
use Rattle.std.specs.List.{AllByRecursion, list_all, list_any}
use Rattle.std.specs.List.Sorted.{IsStrictlySortedBy}
use Rattle.std.specs.declared.cmp.Ordering.TheVariants.{Less}
use Rattle.std.proofs.lemmas.List.{length-map}
use Rattle.std.proofs.lemmas.Slice.Eq.{bytes_eq-Decides}
use mathlib.Core.Bool.{true≢false}
use Rattle.tab_key.specs.Bytes.{bytes_cmp}
use Rattle.tab_key.specs.Records.{Record}
use Rattle.tab_key.specs.Sorted.{IsIn}
use Rattle.tab_key.proofs.Rising.{in_to, rising_sorted, all_sorted}
use Rattle.tab_label.specs.Sets.{IsRising, has}
use Rattle.tab_policy.specs.Permissions.{all_system}
use Rattle.tab_policy.specs.Roots.{root}
use Rattle.tab_policy.specs.Sets.{system_contains}
use Rattle.tab_policy.specs.Holders.{AreUsers}
use Rattle.tab_policy.specs.State.{State, system_granted}
use Rattle.tab_policy.specs.declared.permission.SystemPermission.TheVariants as system
use Rattle.tab_history.specs.Held.{floor_of}
use Rattle.tab_history.specs.Readings.{has_user as user_read, has_system_right}
use Rattle.tab_history.specs.Settings.{least}
use Rattle.tab_history.specs.declared.event.TimeMode.TheVariants.{Server}
use Rattle.tab_store.specs.ByRow.{records_of_all}
use Rattle.tab_store.specs.Keeping.{AreSound, settings_in}
use Rattle.tab_store.specs.Limits.{IsWellFormed, AreLimited}
use Rattle.tab_store.specs.Stores.{TableContents, CoreContents, RiseByName}
use Rattle.tab_store.proofs.Reading.{bases_read}
use Rattle.tab_tablets.proofs.Restored.{ends_of_rise}
use Rattle.tab_core.specs.Bounded.{IsBareRecord}
use Rattle.tab_core.specs.Stepping.{IsCore}
use Rattle.tab_image.specs.Images.{is_root, has_user, IsSaneUser, IsSaneRecord, IsSaneTable, IsSane}
use Rattle.tab_image.specs.declared.image.Image.{Image}
use Rattle.tab_image.specs.declared.table.ImageRight.{ImageRight}
use Rattle.tab_image.specs.declared.table.ImageTable.{ImageTable}
use Rattle.tab_image.specs.declared.user.ImageUser.{ImageUser}
use Rattle.tab_saving.specs.ImageOf.{user_of, rights_of, table_of, image_with, IsImageOf}
use Rattle.tab_saving.proofs.Granted.{system_read}
use Rattle.tab_saving.proofs.OneImage.{names_read}
use Rattle.tab_saving.proofs.OneList.{itself, not_below_itself, first_there, all_users, rights_rise, rights_some}

-- ---- lists
all_map : {A B : Type 0} (P : B → Type 0) (f : A → B) → ((x : A) → P (f x)) → (xs : List A) → AllByRecursion P (map f xs)
all_map P f one [] = tt
all_map P f one (x ∷ xs) = (one x, all_map P f one xs)

pub map_all : {A B : Type 0} (P : A → Type 0) (Q : B → Type 0) (f : A → B) → ((x : A) → P x → Q (f x)) → (xs : List A) → AllByRecursion P xs → AllByRecursion Q (map f xs)
map_all P Q f one [] a = tt
map_all P Q f one (x ∷ xs) a = (one x a.0, map_all P Q f one xs a.1)

pub of_map : {A B : Type 0} (P : B → Type 0) (f : A → B) (xs : List A) → AllByRecursion P (map f xs) → AllByRecursion (λ x. P (f x)) xs
of_map P f [] a = tt
of_map P f (x ∷ xs) a = (a.0, of_map P f xs a.1)

pub all_members : (P : Record → Type 0) (us : List Record) → ((u : Record) → IsIn us u → P u) → AllByRecursion P us
all_members P [] f = tt
all_members P (u ∷ us) f = (f u (inl refl), all_members P us (λ v i. f v (inr i)))

all_true : {A : Type 0} (f : A → Bool) → ((x : A) → f x ≡ true) → (xs : List A) → list_all f xs ≡ true
all_true f one [] = refl
all_true f one (x ∷ xs) = ap (λ v. v && list_all f xs) (one x) ∙ all_true f one xs

-- ---- tables, each found by its name
other_name : (a b : List ℕ) → bytes_cmp a b ≡ Less → bytes_eq a b ≡ false
other_name a b lt = go (bytes_eq a b) refl
  where
    go : (v : Bool) → bytes_eq a b ≡ v → v ≡ false
    go false e = refl
    go true e = absurd (not_below_itself a (subst (λ c. bytes_cmp a c ≡ Less) (sym ((bytes_eq-Decides a b).0 e)) lt))

abbrev found : List ℕ → List TableContents → Option TableContents
found q ts = find (λ (t : TableContents). bytes_eq t.name q) ts

-- a table that is found among those of greater names has another name
found_other : (n q : List ℕ) (u : TableContents) (ts : List TableContents) → AllByRecursion (λ m. bytes_cmp n m ≡ Less) (map (λ (t : TableContents). t.name) ts) → found q ts ≡ Some u → bytes_eq n q ≡ false
found_other n q u [] a e = absurd (cc)
found_other n q u (t ∷ ts) a e = go (found_other n q u ts a.1) (bytes_eq t.name q) refl e
  where
    go : (found q ts ≡ Some u → bytes_eq n q ≡ false) → (v : Bool) → bytes_eq t.name q ≡ v → cond v (Some t) (found q ts) ≡ Some u → bytes_eq n q ≡ false
    go rest true is e = other_name n q (subst (λ m. bytes_cmp n m ≡ Less) ((bytes_eq-Decides t.name q).0 is) a.0)
    go rest false is e = rest e

-- what holds of each table that is found holds of all
pub all_found : (P : TableContents → Type 0) (ts : List TableContents) → RiseByName ts → ((q : List ℕ) (t : TableContents) → found q ts ≡ Some t → P t) → AllByRecursion P ts
unfolding IsStrictlySortedBy
all_found P [] r f = tt
all_found P (t ∷ ts) r f = (
  f t.name t (ap (λ v. cond v (Some t) (found t.name ts)) (itself t.name)),
  all_found P ts r.1 (λ q u e. f q u (ap (λ v. cond v (Some t) (found q ts)) (found_other t.name q u ts r.0 e) ∙ e)),
)

-- ---- users
module _ (s : State) where
  known_among : (ns : List (List ℕ)) (n : List ℕ) → has ns n ≡ true → has_user (map (user_of s) ns) n ≡ true
  known_among [] n h = absurd (true≢false (sym h))
  known_among (m ∷ ns) n h = go (known_among ns n) (bytes_eq n m) refl h
    where
      either : (v : Bool) → (v || true) ≡ true
      either true = refl
      either false = refl

      go : (has ns n ≡ true → has_user (map (user_of s) ns) n ≡ true) → (v : Bool) → bytes_eq n m ≡ v → (v || has ns n) ≡ true → (bytes_eq m n || has_user (map (user_of s) ns) n) ≡ true
      go rest true is h = ap (λ v. v || has_user (map (user_of s) ns) n) ((bytes_eq-Decides m n).1 (sym ((bytes_eq-Decides n m).0 is)))
      go rest false is h = ap (λ v. bytes_eq m n || v) (rest h) ∙ either (bytes_eq m n)

  root_among : is_root (user_of s root) ≡ true → (ns : List (List ℕ)) → has ns root ≡ true → list_any is_root (map (user_of s) ns) ≡ true
  root_among all [] h = absurd (true≢false (sym h))
  root_among all (m ∷ ns) h = go (root_among all ns) (bytes_eq root m) refl h
    where
      either : (v : Bool) → (v || true) ≡ true
      either true = refl
      either false = refl

      go : (has ns root ≡ true → list_any is_root (map (user_of s) ns) ≡ true) → (v : Bool) → bytes_eq root m ≡ v → (v || has ns root) ≡ true → (is_root (user_of s m) || list_any is_root (map (user_of s) ns)) ≡ true
      go rest true is h = ap (λ v. v || list_any is_root (map (user_of s) ns)) (subst (λ k. is_root (user_of s k) ≡ true) ((bytes_eq-Decides root m).0 is) all)
      go rest false is h = ap (λ v. is_root (user_of s m) || v) (rest h) ∙ either (is_root (user_of s m))

  -- each of some names is one of them
  all_known : (xs ns : List (List ℕ)) → ((n : List ℕ) → has xs n ≡ true → has ns n ≡ true) → AllByRecursion (λ n. has_user (map (user_of s) ns) n ≡ true) xs
  all_known [] ns f = tt
  all_known (x ∷ xs) ns f = (known_among ns x (f x (first_there x xs)), all_known xs ns (λ n h. f n (later n h)))
    where
      either : (v : Bool) → (v || true) ≡ true
      either true = refl
      either false = refl

      later : (n : List ℕ) → has xs n ≡ true → has (x ∷ xs) n ≡ true
      later n h = ap (λ v. bytes_eq n x || v) h ∙ either (bytes_eq n x)

tables_named : (s : State) (ns : List (List ℕ)) (ts : List TableContents) → map (λ (t : ImageTable). t.head.name) (map (table_of s ns) ts) ≡ map (λ (t : TableContents). t.name) ts
tables_named s ns [] = refl
tables_named s ns (t ∷ ts) = ap (λ xs. t.name ∷ xs) (tables_named s ns ts)

-- whoever may grant system permissions is root
root_alone : (n : List ℕ) (granted : Bool) → (bytes_eq n root || granted) ≡ bytes_eq n root → granted ≡ true → n ≡ root
root_alone n granted e g = go (bytes_eq n root) refl
  where
    go : (v : Bool) → bytes_eq n root ≡ v → n ≡ root
    go true is = (bytes_eq-Decides n root).0 is
    go false is = absurd (true≢false (sym (ap (λ v. v || granted) is ∙ g) ∙ e ∙ is))

-- ---- a core
module _ (h : CoreContents) (names : List (List ℕ)) (users : AreUsers h.policy names) (core : IsCore h) where
  abbrev us : List ImageUser
  us = map (user_of h.policy) names

  pub few_names : length names < 2 ^ 32
  few_names = subst (λ n. n < 2 ^ 32) (sym users.count) core.limits.users

  sane_user : (n : List ℕ) → IsSaneUser (user_of h.policy n)
  unfolding has_system_right
  sane_user n = record { few = core.limits.auths n; grant = root_alone n (system_granted h.policy n system.Grant) (core.limits.rooted.alone n) }

  root_is : is_root (user_of h.policy root) ≡ true
  root_is = (λ i. itself root i && list_all (system_contains (user_of h.policy root).system) all_system) ∙ all_true (system_contains (user_of h.policy root).system) (λ p. system_read h.policy root p ∙ core.limits.root_has_all p) all_system

  sane_record : (next : ℕ) (u : Record) → IsWellFormed u → IsBareRecord u → u.seq < next → IsSaneRecord next u
  sane_record next u well bare lt = record { short = well.short; seq = lt; idx = well.place; marker = bare; label = well.label }

  sane_table : (t : TableContents) (n : ℕ) (floor : ℤ) → AreSound t.tablets h.next n floor → AreLimited t.tablets → (t.settings.time ≡ Server → t.settings.horizon ≡ least) → ((u : Record) → Contains (records_of_all t.tablets) u → IsBareRecord u) → IsSaneTable us h.next (table_of h.policy names t)
  sane_table t n floor sound limits server bare = record {
    rights = rights_rise h.policy t.name names users.rising;
    known = of_map (λ m. has_user us m ≡ true) (λ (r : ImageRight). r.user) (rights_of h.policy names t.name) (all_users h.policy t.name (λ m. has_user us m ≡ true) names (all_known h.policy names names (λ m h. h)));
    some = rights_some h.policy t.name names;
    ends = ends_of_rise t.tablets sound.whole;
    ends_short = limits.ends.short;
    ends_few = limits.ends.few;
    server = server;
    records = rising_sorted (records_of_all t.tablets) sound.once;
    each = all_sorted (IsSaneRecord h.next) (records_of_all t.tablets) (all_members (IsSaneRecord h.next) (records_of_all t.tablets) (λ u i.
        let c = in_to (records_of_all t.tablets) u i in
        sane_record h.next u (limits.records u c) (bare u c) (sound.numbered u c)));
  }

  pub sane_with : IsSane (image_with h names)
  unfolding user_read
  sane_with = record {
    users = subst IsRising (sym (names_read h.policy names)) users.rising;
    users_few = subst (λ n. n < 2 ^ 32) (sym (length-map names (user_of h.policy))) few_names;
    root_there = root_among h.policy root_is names (users.all root ∙ core.limits.rooted.known);
    each_user = all_map IsSaneUser (user_of h.policy) sane_user names;
    tables = subst IsRising (sym (tables_named h.policy names h.tables)) core.store.names;
    tables_few = subst (λ n. n < 2 ^ 32) (sym (length-map h.tables (table_of h.policy names))) core.limits.tables;
    each_table = map_all (λ t. IsSaneTable us h.next (table_of h.policy names t)) (IsSaneTable us h.next) (table_of h.policy names) (λ t sane. sane) h.tables
        (all_found (λ t. IsSaneTable us h.next (table_of h.policy names t)) h.tables core.store.names (λ q t e. sane_table t t.settings.versions (floor_of t.settings.time h.clock t.settings.horizon) (core.store.tables q t e) (core.store.limits q t e) (core.limits.server_horizon q t.settings ((bases_read h q).0 ∙ ap settings_in e)) (core.limits.markers q t e)));
  }

-- the image of a core is sane
pub images_are_sane : (h : CoreContents) (image : Image) → IsCore h → IsImageOf h image → IsSane image
images_are_sane h image core of = subst IsSane (sym of.says) (sane_with h of.names of.users core)
