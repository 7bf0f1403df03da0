-- Cores of one image read alike, and so answer alike.
use Rattle.std.proofs.Common.{◌≡◌, ℕ, Bool, true, false, cond, ◌||◌, List, [], ◌∷◌, length, map, refl, sym, ap, ◌∙◌, subst}
use Rattle.std.specs.Prelude.{Some, is_some, find, bytes_eq, Contains}
use Rattle.std.proofs.lemmas.Slice.Eq.{bytes_eq-Decides}
use mathlib.Core.Bool.{true≢false}
use Rattle.tab_label.specs.Sets.{has}
use Rattle.tab_policy.specs.declared.permission.SystemPermission.{SystemPermission}
use Rattle.tab_policy.specs.declared.permission.TablePermission.{TablePermission}
use Rattle.tab_policy.specs.Sets.{system_contains}
use Rattle.tab_policy.specs.State.{State, user_exists, auths_of, system_granted, table_granted}
use Rattle.tab_history.specs.Bases.{BaseTable}
use Rattle.tab_history.specs.Readings.{base_settings, base_records, has_user, user_count as users_read, held_auths, has_system_right, has_table_right, table_count, settings_of, next_number, updates_of}
use Rattle.tab_history.specs.Histories.{world_of}
use Rattle.tab_history.specs.Refinement.{ReadsAlike, Refines}
use Rattle.tab_history.proofs.Chains.{sound_refines_itself, alike_refines}
use Rattle.tab_history.proofs.GoOn.{histories_down, histories_up}
use Rattle.tab_store.specs.Stores.{TableContents, CoreContents, base_table_of, base_of}
use Rattle.tab_store.proofs.ChainLaws.{stores_are_sound}
use Rattle.tab_core.specs.Stepping.{IsCore}
use Rattle.tab_image.specs.declared.image.Image.{Image}
use Rattle.tab_image.specs.declared.table.ImageTable.{ImageTable}
use Rattle.tab_image.specs.declared.user.ImageUser.{ImageUser}
use Rattle.tab_saving.specs.ImageOf.{user_of, rights_of, table_of, image_with, IsImageOf}
use Rattle.tab_saving.specs.OneImage.{CoresOfOneImage}
use Rattle.tab_saving.proofs.Granted.{system_read, no_auths, no_system, none_on, among, rights_read}

-- ---- users
pub names_read : (s : State) (ns : List (List ℕ)) → map (λ (u : ImageUser). u.name) (map (user_of s) ns) ≡ ns
names_read s [] = refl
names_read s (n ∷ ns) = ap (λ ms. n ∷ ms) (names_read s ns)

same_first : {A : Type 0} (x y : A) (xs ys : List A) → x ∷ xs ≡ y ∷ ys → x ≡ y
same_first x y xs ys e = cc

same_rest : {A : Type 0} (x y : A) (xs ys : List A) → x ∷ xs ≡ y ∷ ys → xs ≡ ys
same_rest x y xs ys e = cc

-- users of one image are each the same
same_user : (s r : State) (ns : List (List ℕ)) → map (user_of s) ns ≡ map (user_of r) ns → (n : List ℕ) → has ns n ≡ true → user_of s n ≡ user_of r n
same_user s r [] e n h = absurd (true≢false (sym h))
same_user s r (m ∷ ns) e n h = go (same_user s r ns (same_rest (user_of s m) (user_of r m) (map (user_of s) ns) (map (user_of r) ns) e) n) (bytes_eq n m) refl h
  where
    go : (has ns n ≡ true → user_of s n ≡ user_of r n) → (v : Bool) → bytes_eq n m ≡ v → (v || has ns n) ≡ true → user_of s n ≡ user_of r n
    go rest true is h = subst (λ k. user_of s k ≡ user_of r k) (sym ((bytes_eq-Decides n m).0 is)) (same_first (user_of s m) (user_of r m) (map (user_of s) ns) (map (user_of r) ns) e)
    go rest false is h = rest h

-- ---- tables
-- what histories see of a table whose image this is
abbrev read_of : ImageTable → BaseTable
read_of t = record { name = t.head.name; settings = record { time = t.head.time; versions = t.head.versions; constraints = t.head.constraints; horizon = t.head.horizon }; records = t.records }

tables_read : (s : State) (ns : List (List ℕ)) (ts : List TableContents) → map base_table_of ts ≡ map read_of (map (table_of s ns) ts)
tables_read s ns [] = refl
tables_read s ns (t ∷ ts) = ap (λ bs. base_table_of t ∷ bs) (tables_read s ns ts)

-- whether one of these tables has the name
abbrev is_there : List ImageTable → List ℕ → Bool
is_there ts q = is_some (base_settings (find (λ (u : BaseTable). bytes_eq u.name q) (map read_of ts)))

-- rights on a table of one image are the same
module _ (s r : State) (ns ms : List (List ℕ)) (q n : List ℕ) (p : TablePermission) (sees : (t : List ℕ) → among (rights_of s ns t) n p ≡ table_granted s n p t) (reads : (t : List ℕ) → among (rights_of r ms t) n p ≡ table_granted r n p t) where
  same_right : (ts us : List TableContents) → map (table_of s ns) ts ≡ map (table_of r ms) us → is_there (map (table_of s ns) ts) q ≡ true → table_granted s n p q ≡ table_granted r n p q
  same_right [] us e h = absurd (true≢false (sym h))
  same_right (t ∷ ts) [] e h = absurd (cc)
  same_right (t ∷ ts) (u ∷ us) e h = go (same_right ts us (same_rest (table_of s ns t) (table_of r ms u) (map (table_of s ns) ts) (map (table_of r ms) us) e)) (bytes_eq t.name q) refl h
    where
      first : table_of s ns t ≡ table_of r ms u
      first = same_first (table_of s ns t) (table_of r ms u) (map (table_of s ns) ts) (map (table_of r ms) us) e

      go : (is_there (map (table_of s ns) ts) q ≡ true → table_granted s n p q ≡ table_granted r n p q) → (v : Bool) → bytes_eq t.name q ≡ v → is_some (base_settings (cond v (Some (read_of (table_of s ns t))) (find (λ (u : BaseTable). bytes_eq u.name q) (map read_of (map (table_of s ns) ts))))) ≡ true → table_granted s n p q ≡ table_granted r n p q
      go rest true is h =
          let same : t.name ≡ u.name = ap (λ (x : ImageTable). x.head.name) first in
          let here : table_granted s n p t.name ≡ table_granted r n p t.name =
          sym (sees t.name) ∙ ap (λ (x : ImageTable). among x.head.rights n p) first ∙ reads u.name ∙ ap (table_granted r n p) (sym same) in
          subst (λ k. table_granted s n p k ≡ table_granted r n p k) ((bytes_eq-Decides t.name q).0 is) here
      go rest false is h = rest h

-- ---- two cores
module _ (h k : CoreContents) (image : Image) (core : IsCore h) (other : IsCore k) (of : IsImageOf h image) (also : IsImageOf k image) where
  one : image_with h of.names ≡ image_with k also.names
  one = sym of.says ∙ also.says

  same_names : of.names ≡ also.names
  same_names = sym (names_read h.policy of.names) ∙ ap (λ (i : Image). map (λ (u : ImageUser). u.name) i.users) one ∙ names_read k.policy also.names

  same_users : map (user_of h.policy) of.names ≡ map (user_of k.policy) of.names
  same_users = ap (λ (i : Image). i.users) one ∙ ap (map (user_of k.policy)) (sym same_names)

  same_known : (n : List ℕ) → user_exists h.policy n ≡ user_exists k.policy n
  same_known n = sym (of.users.all n) ∙ ap (λ xs. has xs n) same_names ∙ also.users.all n

  known_or_not : (P : Type 0) (n : List ℕ) → (user_of h.policy n ≡ user_of k.policy n → P) → (user_exists h.policy n ≡ false → user_exists k.policy n ≡ false → P) → P
  known_or_not P n yes_known unknown = go (user_exists h.policy n) refl
    where
      go : (v : Bool) → user_exists h.policy n ≡ v → P
      go true e = yes_known (same_user h.policy k.policy of.names same_users n (of.users.all n ∙ e))
      go false e = unknown e (sym (same_known n) ∙ e)

  same_auths : (n : List ℕ) → auths_of h.policy n ≡ auths_of k.policy n
  same_auths n = known_or_not (auths_of h.policy n ≡ auths_of k.policy n) n (λ e. ap (λ (u : ImageUser). u.authorizations) e) (λ e f. no_auths h.policy n e ∙ sym (no_auths k.policy n f))

  same_system : (n : List ℕ) (p : SystemPermission) → system_granted h.policy n p ≡ system_granted k.policy n p
  same_system n p = known_or_not (system_granted h.policy n p ≡ system_granted k.policy n p) n
      (λ e. sym (system_read h.policy n p) ∙ ap (λ (u : ImageUser). system_contains u.system p) e ∙ system_read k.policy n p)
      (λ e f. no_system h.policy n e p ∙ sym (no_system k.policy n f p))

  same_bases : map base_table_of h.tables ≡ map base_table_of k.tables
  same_bases = tables_read h.policy of.names h.tables ∙ ap (λ (i : Image). map read_of i.tables) one ∙ sym (tables_read k.policy also.names k.tables)

  same_settings : (q : List ℕ) → settings_of (base_of h) [] q ≡ settings_of (base_of k) [] q
  unfolding settings_of
  same_settings q = ap (λ ts. base_settings (find (λ (u : BaseTable). bytes_eq u.name q) ts)) same_bases

  same_updates : (q : List ℕ) → updates_of (base_of h) [] q ≡ updates_of (base_of k) [] q
  unfolding updates_of
  same_updates q = ap (λ ts. base_records (find (λ (u : BaseTable). bytes_eq u.name q) ts)) same_bases

  is_read : (q : List ℕ) → is_there (map (table_of h.policy of.names) h.tables) q ≡ is_some (settings_of (base_of h) [] q)
  unfolding settings_of
  is_read q = ap (λ ts. is_some (base_settings (find (λ (u : BaseTable). bytes_eq u.name q) ts))) (sym (tables_read h.policy of.names h.tables))

  same_rights : (n : List ℕ) (p : TablePermission) (q : List ℕ) → table_granted h.policy n p q ≡ table_granted k.policy n p q
  same_rights n p q = go (is_some (settings_of (base_of h) [] q)) refl
    where
      go : (v : Bool) → is_some (settings_of (base_of h) [] q) ≡ v → table_granted h.policy n p q ≡ table_granted k.policy n p q
      go true e = same_right h.policy k.policy of.names also.names q n p (λ t. rights_read h.policy of.names of.users t n p) (λ t. rights_read k.policy also.names also.users t n p) h.tables k.tables (ap (λ (i : Image). i.tables) one) (is_read q ∙ e)
      go false e = none_on h.policy q (core.knows q ∙ e) n p ∙ sym (none_on k.policy q (other.knows q ∙ ap is_some (sym (same_settings q)) ∙ e) n p)

  reads_alike : ReadsAlike (world_of (base_of h)) (world_of (base_of k))
  unfolding has_user users_read held_auths has_system_right has_table_right table_count next_number
  reads_alike = record {
    clock = ap (λ (i : Image). i.clock) one;
    next = ap (λ (i : Image). i.next) one;
    users = sym of.users.count ∙ ap length same_names ∙ also.users.count;
    tables = ap length same_bases;
    known = same_known;
    auths = same_auths;
    system = same_system;
    rights = same_rights;
    settings = same_settings;
  }

  pub refines_other : Refines (world_of (base_of h)) (world_of (base_of k))
  refines_other = alike_refines (world_of (base_of h)) (world_of (base_of k)) (sound_refines_itself (world_of (base_of k)) (stores_are_sound k other.store)) (record {
    reads = reads_alike;
    members = λ t s e u. (subst (λ us. Contains us u) (same_updates t), subst (λ us. Contains us u) (sym (same_updates t)));
    once = λ t s e. (stores_are_sound h core.store t).0;
  })

pub cores_of_one_image : CoresOfOneImage
cores_of_one_image h k image core other of also =
    let down = refines_other h k image core other of also in record {
      refines = down;
      refined = refines_other k h image other core also of;
      runs = λ es. (histories_down (world_of (base_of h)) (world_of (base_of k)) down es, histories_up (world_of (base_of h)) (world_of (base_of k)) down es);
    }
