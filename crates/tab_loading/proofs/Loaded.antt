-- A core that is made of an image: what it holds is what a core keeps, and the image is that of the core.
use Rattle.std.proofs.Common.{◌≡◌, ℕ, suc, ◌<◌, ◌^◌, Bool, true, false, cond, ◌&&◌, ◌||◌, List, [], ◌∷◌, map, length, refl, sym, ap, ◌∙◌, subst}
use Rattle.std.specs.Prelude.{ℤ, Option, Some, None, is_some, bytes_eq, Contains}
use Rattle.std.specs.List.{AllByRecursion, fold, list_all}
use Rattle.std.proofs.lemmas.List.{length-map}
use Rattle.std.proofs.lemmas.Option.{none-some}
use mathlib.Core.Bool.{true≢false}
use Rattle.tab_key.specs.Records.{Record}
use Rattle.tab_label.specs.Sets.{IsRising}
use Rattle.tab_policy.specs.Holders.{AreUsers}
use Rattle.tab_policy.specs.Permissions.{all_system}
use Rattle.tab_policy.specs.Roots.{root}
use Rattle.tab_policy.specs.Sets.{system_contains}
use Rattle.tab_policy.specs.State.{State, Readings, readings, user_exists, user_count, auths_of, system_granted, table_granted, table_exists}
use Rattle.tab_policy.specs.declared.permission.SystemPermission.{SystemPermission}
use Rattle.tab_policy.specs.declared.permission.SystemPermission.TheVariants as system
use Rattle.tab_policy.specs.declared.permission.TablePermission.{TablePermission}
use Rattle.tab_history.specs.Checks.{too_many_auths}
use Rattle.tab_history.specs.Held.{floor_of}
use Rattle.tab_history.specs.Readings.{has_user as user_read, has_system_right}
use Rattle.tab_history.specs.Rooted.{IsRooted}
use Rattle.tab_history.specs.Settings.{Settings, least}
use Rattle.tab_history.specs.declared.event.TimeMode.TheVariants.{Server}
use Rattle.tab_store.specs.ByRow.{records_of_all}
use Rattle.tab_store.specs.Keeping.{AreSound, settings_in}
use Rattle.tab_store.specs.Limits.{IsWellFormed, AreLimited}
use Rattle.tab_store.specs.Rightness.{IsStore}
use Rattle.tab_store.specs.Restored.{restored}
use Rattle.tab_store.specs.Stores.{TableContents, CoreContents, base_of, table_in}
use Rattle.tab_store.proofs.Reading.{bases_read}
use Rattle.tab_core.specs.Bounded.{IsBareRecord, IsBounded}
use Rattle.tab_core.specs.Stepping.{IsCore, KnowsTables}
use Rattle.tab_image.specs.Images.{is_root, has_user, IsSaneUser, IsSaneRecord, IsSaneTable, IsSane}
use Rattle.tab_image.specs.declared.image.Image.{Image}
use Rattle.tab_image.specs.declared.table.ImageRight.{ImageRight}
use Rattle.tab_image.specs.declared.table.ImageTable.{ImageTable}
use Rattle.tab_image.specs.declared.user.ImageUser.{ImageUser}
use Rattle.tab_saving.specs.ImageOf.{user_of, rights_of, table_of, IsImageOf}
use Rattle.tab_saving.proofs.OneList.{rights_are}
use Rattle.tab_loading.specs.Loading.{AreLaid, CountsOn}
use Rattle.tab_loading.specs.Policies.{new_readings, with_user, with_table}
use Rattle.tab_loading.specs.Tables.{NumberedTable, number_behind, numbered_from, held_table_of}
use Rattle.tab_loading.proofs.Found.{itself, same_by, found_or, found, each_found, found_named, found_all, has_found, any_named, any_found}
use Rattle.tab_loading.proofs.Numbers.{made_numbered}
use Rattle.tab_loading.proofs.Placing.{held_name, names_said}
use Rattle.tab_loading.proofs.Policies.{user_name, users_read, auths_read, system_read, no_rights_yet, no_tables_yet, count_read, others_gone, table_name, gives, same_users, same_count, same_auths, same_system, tables_read, rights_read, all_give}
use Rattle.tab_loading.proofs.Restoring.{records_are, ends_are, all_held, restored_sound, restored_limited}

-- ---- lists
each_of : {A : Type 0} (P Q : A → Type 0) → ((x : A) → P x → Q x) → (xs : List A) → AllByRecursion P xs → AllByRecursion Q xs
each_of P Q f [] a = tt
each_of P Q f (x ∷ xs) a = (f x a.0, each_of P Q f xs a.1)

both_of : {A : Type 0} (P Q R : A → Type 0) → ((x : A) → P x → Q x → R x) → (xs : List A) → AllByRecursion P xs → AllByRecursion Q xs → AllByRecursion R xs
both_of P Q R f [] a b = tt
both_of P Q R f (x ∷ xs) a b = (f x a.0 b.0, both_of P Q R f xs a.1 b.1)

-- tables as they are held, numbered from this number on: what holds of each whatever its number
abbrev table_held : ℕ → ImageTable → TableContents
table_held number t = held_table_of (record { number = number; table = t })

each_held : (P : TableContents → Type 0) (number : ℕ) (ts : List ImageTable) → AllByRecursion (λ t. (k : ℕ) → P (table_held k t)) ts → AllByRecursion P (map held_table_of (numbered_from number ts))
each_held P number [] a = tt
each_held P number (t ∷ ts) a = (a.0 number, each_held P (number_behind number t) ts a.1)

held_again : (g : TableContents → ImageTable) (number : ℕ) (ts : List ImageTable) → AllByRecursion (λ t. (k : ℕ) → g (table_held k t) ≡ t) ts → map g (map held_table_of (numbered_from number ts)) ≡ ts
held_again g number [] a = refl
held_again g number (t ∷ ts) a = λ i. a.0 number i ∷ held_again g (number_behind number t) ts a.1 i

held_count : (number : ℕ) (ts : List ImageTable) → length (map held_table_of (numbered_from number ts)) ≡ length ts
held_count number [] = refl
held_count number (t ∷ ts) = ap suc (held_count (number_behind number t) ts)

-- a list that is made of parts of its own is the list
made_of : {A B : Type 0} (f : A → B) (g : B → A) (xs : List A) → AllByRecursion (λ x. g (f x) ≡ x) xs → map g (map f xs) ≡ xs
made_of f g [] a = refl
made_of f g (x ∷ xs) a = λ i. a.0 i ∷ made_of f g xs a.1 i

both_true : (a b : Bool) → (a && b) ≡ true → (a ≡ true) × (b ≡ true)
both_true true true e = (refl, refl)
both_true true false e = absurd (true≢false (sym e))
both_true false b e = absurd (true≢false (sym e))

-- all system permissions are listed
all_in_list : (p : SystemPermission → Bool) → list_all p all_system ≡ true → (q : SystemPermission) → p q ≡ true
all_in_list p e q = go (of_list all_system e) q
  where
    of_list : (qs : List SystemPermission) → list_all p qs ≡ true → AllByRecursion (λ q. p q ≡ true) qs
    of_list [] e = tt
    of_list (q ∷ qs) e = let both = both_true (p q) (list_all p qs) e in (both.0, of_list qs both.1)

    go : AllByRecursion (λ q. p q ≡ true) all_system → (q : SystemPermission) → p q ≡ true
    go a system.Grant = a.0
    go a system.CreateTable = a.1.0
    go a system.DropTable = a.1.1.0
    go a system.AlterTable = a.1.1.1.0
    go a system.CreateUser = a.1.1.1.1.0
    go a system.DropUser = a.1.1.1.1.1.0
    go a system.AlterUser = a.1.1.1.1.1.1.0
    go a system.System = a.1.1.1.1.1.1.1.0

some_inj : (a b : Settings) → (let x : Option Settings = Some a in x) ≡ Some b → a ≡ b
some_inj a b e = ap (found_or (λ (x : Settings). x) a) e

-- ---- an image, of which all conditions hold
module _ (image : Image) (sane : IsSane image) where
  abbrev us : List ImageUser
  us = image.users

  abbrev ts : List ImageTable
  ts = image.tables

  abbrev names : List (List ℕ)
  names = map user_name us

  root_in : (w : ImageUser) × (found user_name root us ≡ Some w) × (is_root w ≡ true)
  root_in = any_found user_name is_root root (λ u e. same_by u.name root (both_true (bytes_eq u.name root) (list_all (system_contains u.system) all_system) e).0) us sane.users sane.root_there

  abbrev first : Readings
  first = fold with_user new_readings us

  -- each is there whom the image has
  known_first : (n : List ℕ) → first.users n ≡ is_some (found user_name n us)
  known_first n = users_read us sane.users n ∙ go (found user_name n us) refl
    where
      go : (o : Option ImageUser) → found user_name n us ≡ o → found_or (λ (u : ImageUser). true) (bytes_eq root n) o ≡ is_some o
      go None e = others_gone us sane.users root_in.0 root_in.1 n e
      go (Some u) e = refl

  -- ---- the policy
  module _ (policy : State) (reads : readings policy ≡ fold with_table (fold with_user new_readings us) ts) where
    exists_read : (n : List ℕ) → user_exists policy n ≡ is_some (found user_name n us)
    unfolding readings
    exists_read n = ap (λ r. r.users n) reads ∙ ap (λ (f : List ℕ → Bool). f n) (same_users ts sane.tables first) ∙ known_first n

    count_is : user_count policy ≡ length us
    unfolding readings
    count_is = ap (λ r. r.count) reads ∙ same_count ts sane.tables first ∙ count_read us sane.users root_in.0 root_in.1

    auths_are : (n : List ℕ) → auths_of policy n ≡ found_or (λ (u : ImageUser). u.authorizations) [] (found user_name n us)
    unfolding readings
    auths_are n = ap (λ r. r.auths n) reads ∙ ap (λ (f : List ℕ → List (List ℕ)). f n) (same_auths ts sane.tables first) ∙ auths_read us sane.users n

    granted_are : (n : List ℕ) (p : SystemPermission) → system_granted policy n p ≡ found_or (λ (u : ImageUser). system_contains u.system p) false (found user_name n us)
    unfolding readings
    granted_are n p = ap (λ r. r.system n p) reads ∙ ap (λ (f : List ℕ → SystemPermission → Bool). f n p) (same_system ts sane.tables first) ∙ system_read us sane.users n p ∙ go (found user_name n us) refl
      where
        go : (o : Option ImageUser) → found user_name n us ≡ o → found_or (λ (u : ImageUser). system_contains u.system p) (bytes_eq root n) o ≡ found_or (λ (u : ImageUser). system_contains u.system p) false o
        go None e = others_gone us sane.users root_in.0 root_in.1 n e
        go (Some u) e = refl

    tables_are : (t : List ℕ) → table_exists policy t ≡ is_some (found table_name t ts)
    unfolding readings
    tables_are t = ap (λ r. r.tables t) reads ∙ tables_read ts sane.tables first t ∙ go (found table_name t ts)
      where
        go : (o : Option ImageTable) → found_or (λ (x : ImageTable). true) (first.tables t) o ≡ is_some o
        go None = no_tables_yet us sane.users t
        go (Some x) = refl

    given_are : (n : List ℕ) (p : TablePermission) (t : List ℕ) → table_granted policy n p t ≡ found_or (λ (x : ImageTable). gives first.users x.head.rights n p) false (found table_name t ts)
    unfolding readings
    given_are n p t = ap (λ r. r.rights n p t) reads ∙ rights_read ts sane.tables first n p t ∙ ap (λ v. found_or (λ (x : ImageTable). gives first.users x.head.rights n p) v (found table_name t ts)) (no_rights_yet us sane.users n p t)

    users_are : AreUsers policy names
    users_are = record { rising = sane.users; all = λ n. has_found user_name us n ∙ sym (exists_read n); count = length-map us user_name ∙ sym count_is }

    -- ---- the image, made again of what is held
    user_is : (u : ImageUser) → found user_name u.name us ≡ Some u → user_of policy u.name ≡ u
    user_is u there = λ i. record {
      name = u.name;
      system = record {
        grant = may system.Grant i;
        create_table = may system.CreateTable i;
        drop_table = may system.DropTable i;
        alter_table = may system.AlterTable i;
        create_user = may system.CreateUser i;
        drop_user = may system.DropUser i;
        alter_user = may system.AlterUser i;
        system = may system.System i;
      };
      authorizations = (auths_are u.name ∙ ap (found_or (λ (v : ImageUser). v.authorizations) []) there) i;
    }
      where
        may : (p : SystemPermission) → system_granted policy u.name p ≡ system_contains u.system p
        may p = granted_are u.name p ∙ ap (found_or (λ (v : ImageUser). system_contains v.system p) false) there

    rights_again : (t : ImageTable) → IsSaneTable us image.next t → found table_name t.head.name ts ≡ Some t → rights_of policy names t.head.name ≡ t.head.rights
    rights_again t is there = sym (rights_are policy t.head.name names users_are t.head.rights is.rights is.some (λ n p. sym (
        given_are n p t.head.name
        ∙ ap (found_or (λ (x : ImageTable). gives first.users x.head.rights n p) false) there
        ∙ all_give first.users t.head.rights n p (each_of (λ (r : ImageRight). has_user us r.user ≡ true) (λ (r : ImageRight). first.users r.user ≡ true) (λ r known. known_first r.user ∙ sym (any_named user_name us r.user) ∙ known) t.head.rights is.known)
        )))

    table_is : (t : ImageTable) → IsSaneTable us image.next t → found table_name t.head.name ts ≡ Some t → (number : ℕ) → table_of policy names (table_held number t) ≡ t
    table_is t is there number = λ i. record {
      head = record (t.head) { rights = rights_again t is there i; ends = ends_are number t.head.ends t.records is.ends is.records i };
      records = records_are number t.head.ends t.records is.ends is.records i;
    }

    abbrev pub made : CoreContents
    made = record { clock = image.clock; next = image.next; policy = policy; tables = map held_table_of (numbered_from 0 ts); tablet = fold number_behind 0 ts; job = 0 }

    users_again : map (user_of policy) (map user_name us) ≡ us
    users_again = made_of user_name (user_of policy) us (each_of (λ u. found user_name u.name us ≡ Some u) (λ u. user_of policy u.name ≡ u) user_is us (each_found user_name us sane.users))

    tables_again : map (table_of policy names) (map held_table_of (numbered_from 0 ts)) ≡ ts
    tables_again = held_again (table_of policy names) 0 ts
        (both_of (IsSaneTable us image.next) (λ t. found table_name t.head.name ts ≡ Some t) (λ t. (number : ℕ) → table_of policy names (table_held number t) ≡ t) table_is ts sane.each_table (each_found table_name ts sane.tables))

    pub is_image_of : IsImageOf made image
    is_image_of = record {
      names = names;
      users = users_are;
      says = λ i. record { clock = image.clock; next = image.next; users = sym users_again i; tables = sym tables_again i };
    }

    laid : (xs : List NumberedTable) → map (λ (t : TableContents). t.tablets) (map held_table_of xs) ≡ map (λ (t : NumberedTable). restored t.number t.table.head.ends t.table.records) xs
    laid [] = refl
    laid (t ∷ xs) = ap (λ l. restored t.number t.table.head.ends t.table.records ∷ l) (laid xs)

    pub is_laid : AreLaid made.tables ts
    is_laid = laid (numbered_from 0 ts)

    pub counts_on : CountsOn made ts
    counts_on = record { tablet = refl; job = refl }

    -- ---- what a core keeps
    -- what holds of each table as it was made
    each_made : (P : TableContents → Type 0) → ((t : ImageTable) → IsSaneTable us image.next t → (number : ℕ) → P (table_held number t)) → (q : List ℕ) (t : TableContents) → table_in made q ≡ Some t → P t
    each_made P f q t e = found_all held_name P (map held_table_of (numbered_from 0 ts)) (each_held P 0 ts (each_of (IsSaneTable us image.next) (λ x. (number : ℕ) → P (table_held number x)) f ts sane.each_table)) q t e

    numbers : (t : ImageTable) → IsSaneTable us image.next t → AllByRecursion (λ (u : Record). u.seq < image.next) t.records
    numbers t is = each_of (IsSaneRecord image.next) (λ u. u.seq < image.next) (λ u sane. sane.seq) t.records is.each

    well : (t : ImageTable) → IsSaneTable us image.next t → AllByRecursion IsWellFormed t.records
    well t is = each_of (IsSaneRecord image.next) IsWellFormed (λ u sane. record { short = sane.short; place = sane.idx; label = sane.label }) t.records is.each

    bare : (t : ImageTable) → IsSaneTable us image.next t → AllByRecursion IsBareRecord t.records
    bare t is = each_of (IsSaneRecord image.next) IsBareRecord (λ u sane. sane.marker) t.records is.each

    is_store : IsStore made
    is_store = record {
      names = subst IsRising (sym (names_said 0 ts)) sane.tables;
      tables = each_made (λ t. AreSound t.tablets image.next t.settings.versions (floor_of t.settings.time image.clock t.settings.horizon))
          (λ t is number. restored_sound number t.head.ends t.records is.ends is.records image.next t.head.versions (floor_of t.head.time image.clock t.head.horizon) (numbers t is));
      limits = each_made (λ t. AreLimited t.tablets) (λ t is number. restored_limited number t.head.ends t.records is.ends is.records (well t is) (record { short = is.ends_short; few = is.ends_few }));
      numbers = λ few. made_numbered ts few;
    }

    known_tables : KnowsTables made
    known_tables t = tables_are t ∙ sym (ap is_some (bases_read made t).0 ∙ go 0 ts)
      where
        go : (number : ℕ) (xs : List ImageTable) → is_some (settings_in (found held_name t (map held_table_of (numbered_from number xs)))) ≡ is_some (found table_name t xs)
        go number [] = refl
        go number (x ∷ xs) = one (bytes_eq x.head.name t) (go (number_behind number x) xs)
          where
            later : List TableContents
            later = map held_table_of (numbered_from (number_behind number x) xs)

            one : (v : Bool) → is_some (settings_in (found held_name t later)) ≡ is_some (found table_name t xs)
                → is_some (settings_in (cond v (Some (table_held number x)) (found held_name t later))) ≡ is_some (cond v (Some x) (found table_name t xs))
            one true e = refl
            one false e = e

    few_auths : (n : List ℕ) → too_many_auths (auths_of policy n) ≡ false
    few_auths n = ap too_many_auths (auths_are n) ∙ go (found user_name n us) refl
      where
        go : (o : Option ImageUser) → found user_name n us ≡ o → too_many_auths (found_or (λ (u : ImageUser). u.authorizations) [] o) ≡ false
        go None e = refl
        go (Some u) e = found_all user_name (λ u. too_many_auths u.authorizations ≡ false) us (each_of IsSaneUser (λ u. too_many_auths u.authorizations ≡ false) (λ u is. is.few) us sane.each_user) n u e

    -- none but root may grant system permissions
    no_grant : (n : List ℕ) → bytes_eq n root ≡ false → system_granted policy n system.Grant ≡ false
    no_grant n other = granted_are n system.Grant ∙ go (found user_name n us) refl
      where
        go : (o : Option ImageUser) → found user_name n us ≡ o → found_or (λ (u : ImageUser). u.system.grant) false o ≡ false
        go None e = refl
        go (Some u) e = may u.system.grant refl
          where
            of : IsSaneUser u
            of = found_all user_name IsSaneUser us sane.each_user n u e

            may : (v : Bool) → u.system.grant ≡ v → v ≡ false
            may false g = refl
            may true g = absurd (true≢false (sym (itself root) ∙ sym (ap (λ m. bytes_eq m root) (of.grant g)) ∙ ap (λ m. bytes_eq m root) (found_named user_name us n u e) ∙ other))

    is_rooted : IsRooted (base_of made) []
    unfolding user_read has_system_right
    is_rooted = record { known = exists_read root ∙ ap is_some root_in.1; alone = λ n. go n (bytes_eq n root) refl }
      where
        go : (n : List ℕ) (v : Bool) → bytes_eq n root ≡ v → (v || system_granted policy n system.Grant) ≡ v
        go n true is = refl
        go n false is = no_grant n is

    is_bounded : IsBounded made
    is_bounded = record {
      auths = few_auths;
      rooted = is_rooted;
      root_has_all = λ p. granted_are root p ∙ ap (found_or (λ (u : ImageUser). system_contains u.system p) false) root_in.1
          ∙ all_in_list (system_contains root_in.0.system) (both_true (bytes_eq root_in.0.name root) (list_all (system_contains root_in.0.system) all_system) root_in.2).1 p;
      server_horizon = λ q s e. go q s (table_in made q) refl (sym (bases_read made q).0 ∙ e);
      markers = each_made (λ t. (u : Record) → Contains (records_of_all t.tablets) u → IsBareRecord u) (λ t is number. all_held number t.head.ends t.records is.ends is.records IsBareRecord (bare t is));
      users = subst (λ n. n < 2 ^ 32) (sym count_is) sane.users_few;
      tables = subst (λ n. n < 2 ^ 32) (sym (held_count 0 ts)) sane.tables_few;
    }
      where
        go : (q : List ℕ) (s : Settings) (o : Option TableContents) → table_in made q ≡ o → settings_in o ≡ Some s → s.time ≡ Server → s.horizon ≡ least
        go q s None e f = absurd (none-some s f)
        go q s (Some t) e f = subst (λ x. x.time ≡ Server → x.horizon ≡ least) (some_inj t.settings s f) (each_made (λ t. t.settings.time ≡ Server → t.settings.horizon ≡ least) (λ t is number. is.server) q t e)

    pub is_core : IsCore made
    is_core = record { store = is_store; knows = known_tables; limits = is_bounded }

-- all of it, of what was made
pub record IsLoaded (image : Image) (h : CoreContents) : Type 0 where
  pub core : IsCore h
  pub of : IsImageOf h image
  pub laid : AreLaid h.tables image.tables
  pub counts : CountsOn h image.tables

is_loaded : (image : Image) → IsSane image → (h : CoreContents) → h.clock ≡ image.clock → h.next ≡ image.next → readings h.policy ≡ fold with_table (fold with_user new_readings image.users) image.tables
    → h.tables ≡ map held_table_of (numbered_from 0 image.tables) → h.tablet ≡ fold number_behind 0 image.tables → h.job ≡ 0 → IsLoaded image h
is_loaded image sane h clock next reads tables tablet job =
    let same : made image sane h.policy reads ≡ h = λ i. record { clock = sym clock i; next = sym next i; policy = h.policy; tables = sym tables i; tablet = sym tablet i; job = sym job i } in
    subst (IsLoaded image) same (record { core = is_core image sane h.policy reads; of = is_image_of image sane h.policy reads; laid = is_laid image sane h.policy reads; counts = counts_on image sane h.policy reads })

-- .. by what each of the calls leaves that made it
pub made_by_calls : (image : Image) → IsSane image → (clock : ℤ) → clock ≡ image.clock → (users : List ImageUser) (begun policy : State) (heads moved : List ImageTable) (tables : List TableContents) (tablet : ℕ)
    → users ≡ image.users → readings begun ≡ fold with_user new_readings users → heads ≡ image.tables → readings policy ≡ fold with_table (readings begun) heads → moved ≡ image.tables → tables ≡ map held_table_of (numbered_from 0 moved) → tablet ≡ fold number_behind 0 moved
    → IsLoaded image (record { clock = clock; next = image.next; policy = policy; tables = tables; tablet = tablet; job = 0 })
made_by_calls image sane clock same users begun policy heads moved tables tablet us one hs two ms three four =
    is_loaded image sane (record { clock = clock; next = image.next; policy = policy; tables = tables; tablet = tablet; job = 0 }) same refl
    (two ∙ (λ i. fold with_table ((one ∙ ap (fold with_user new_readings) us) i) (hs i)))
    (three ∙ ap (λ ts. map held_table_of (numbered_from 0 ts)) ms)
    (four ∙ ap (fold number_behind 0) ms)
    refl
