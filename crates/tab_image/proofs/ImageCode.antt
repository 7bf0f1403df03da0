-- The parts of an image, as codecs.
use Rattle.std.proofs.Common.{◌≡◌, ℕ, ◌<◌, ◌≤◌, ◌^◌, Bool, true, false, cond, List, [], ◌++◌, length, Some, None, FitsSigned, refl, sym, ap, subst, ◌∙◌, arith, append_assoc}
use Rattle.std.specs.Prelude.{nat_lt, ◌==◌, ◌&&◌, codes, bytes_eq}
use Rattle.std.specs.Int.{w64}
use Rattle.std.specs.List.{AllByRecursion, flat_map}
use Rattle.std.proofs.Math.Facts.{Fits-of_z, Fits-lt-pow}
use Rattle.std.proofs.lemmas.Bool.Decides.{nat_tests}
use Rattle.std.proofs.lemmas.Slice.Eq.{bytes_eq-Decides}
use Rattle.tab_key.specs.Bytes.{bytes_cmp}
use Rattle.tab_key.specs.Names.{IsName}
use Rattle.tab_key.specs.declared.limited_part.TheConstants.{MAX_PART_LEN}
use Rattle.tab_label.specs.Sets.{IsRising}
use Rattle.tab_policy.specs.declared.sets.SystemPermissions.{SystemPermissions}
use Rattle.tab_policy.specs.declared.sets.TablePermissions.{TablePermissions}
use Rattle.tab_history.specs.Settings.{least}
use Rattle.tab_codec.specs.Parts.{time_byte, system_in, system_bits, table_in, table_bits, constraint_bits}
use Rattle.tab_codec.specs.Exactness.{Exact}
use Rattle.tab_codec.specs.Reading.{Reader, u8_at, u32_at, u64_at, i64_at, bytes_at, field_at, name_at, parts_at, only_if, kind_at, time_at, versions_at, constraints_at}
use Rattle.tab_codec.proofs.Exact.{some_inj, exact_as, exact_picked, exact_given, exact_bytes}
use Rattle.tab_codec.proofs.PartLaw.{only_passed, only_passes}
use Rattle.tab_codec.proofs.BitLaw.{bits_are_sets}
use Rattle.tab_codec.proofs.Coded.{coded_as, coded_next, coded_last, coded_u32, coded_u64, coded_i64, coded_field, coded_name, coded_parts, coded_picked}
use Rattle.tab_codec.proofs.ChoiceCode.{coded_u8, coded_kind, coded_time, coded_versions, coded_constraints}
use Rattle.tab_codec.specs.Spelling.{Spells}
use Rattle.tab_image.specs.declared.user.ImageUser.{ImageUser}
use Rattle.tab_image.specs.declared.table.TableHead.{TableHead}
use Rattle.tab_image.specs.declared.image.Image.{Image}
use Rattle.tab_image.specs.Conditions.{rises, is_short}
use Rattle.tab_image.specs.Images.{FitsUser, FitsRight, FitsHorizon, FitsHead, FitsRecord, FitsTable}
use Rattle.tab_image.specs.Reading.{◌>>=◌, made, picked_by, all_at, part_at, ends_at, system_of, system_at, held_of, held_at, texts_at, set_of_list, set_at, user_at, users_at, right_at, rights_at, record_at, records_at, horizon_at, head_at, table_at, tables_at, same_as, mark_at, body_at}
use Rattle.tab_image.specs.Spelling.{u8, u32, u64, i64, field, counted, user_bytes, right_bytes, horizon_bytes, settings_bytes, head_bytes, record_bytes, records_bytes, table_bytes, end_bytes}
use Rattle.tab_image.proofs.Rising.{bytes_rise}
use Rattle.tab_image.proofs.SaneLaw.{short_decides}

-- ---- lists
coded_all : {A : Type 0} (count : Reader ℕ) (number : ℕ → List ℕ) (IsNumber : ℕ → Type 0) (reads : Reader A) (spell : A → List ℕ) (Fits : A → Type 0) → Exact count (Spells number IsNumber) → Exact reads (Spells spell Fits)
    → Exact (all_at count reads) (Spells (λ xs. number (length xs) ++ flat_map spell xs) (λ xs. IsNumber (length xs) × AllByRecursion Fits xs))
unfolding all_at ◌>>=◌
coded_all count number IsNumber reads spell Fits ec er = coded_as (λ xs. number (length xs) ++ flat_map spell xs) (λ xs. IsNumber (length xs) × AllByRecursion Fits xs)
    (coded_next (λ xs. length xs) (λ xs. Unit {0}) count number IsNumber (λ n. parts_at reads n) (flat_map spell) (AllByRecursion Fits) ec (λ n.
    coded_as (flat_map spell) (λ xs. AllByRecursion Fits xs × (Unit {0} × (length xs ≡ n))) (coded_parts spell Fits reads er n) (λ xs f. (refl, (f.0, (tt, f.1)))) (λ xs f. (refl, (f.0, f.1.1)))))
    (λ xs f. (refl, f.0))
    (λ xs f. (refl, (f, tt)))

abbrev FitsTexts : List (List ℕ) → Type 0
FitsTexts texts = (length texts < 2 ^ 32) × AllByRecursion (λ t. length t < 2 ^ 32) texts

coded_texts : Exact texts_at (Spells (counted field) FitsTexts)
unfolding texts_at
coded_texts = coded_all u32_at u32 (λ n. n < 2 ^ 32) field_at field (λ t. length t < 2 ^ 32) coded_u32 coded_field

-- ---- parts within the limit
coded_part : Exact part_at (Spells field (λ text. length text ≤ MAX_PART_LEN))
unfolding part_at picked_by
coded_part = coded_picked (only_if is_short) (λ text. text) (λ text. length text ≤ MAX_PART_LEN) field_at field (λ t. length t < 2 ^ 32) coded_field
    (λ x text low is. let e = only_passed is_short x text is in (e.1, subst (λ (z : List ℕ). length z ≤ MAX_PART_LEN) e.1 ((short_decides x).0 e.0)))
    (λ text few. let small : length text ≤ 1048576 = few in (only_passes is_short text ((short_decides text).1 few), omega (arith, small)))

coded_ends : Exact ends_at (Spells (counted field) (λ ends. (length ends < 2 ^ 32) × AllByRecursion (λ row. length row ≤ MAX_PART_LEN) ends))
unfolding ends_at
coded_ends = coded_all u32_at u32 (λ n. n < 2 ^ 32) part_at field (λ text. length text ≤ MAX_PART_LEN) coded_u32 coded_part

-- ---- bits
below : (n k : ℕ) → nat_lt n k ≡ true → n < k
below n k is = grind (arith, nat_tests)

is_below : (n k : ℕ) → n < k → nat_lt n k ≡ true
is_below n k lt = grind (arith, nat_tests)

system_picks : (n : ℕ) (s : SystemPermissions) → system_of n ≡ Some s → n ≡ system_bits s
system_picks n s is = elim (nat_lt n 256) as (λ b. nat_lt n 256 ≡ b → cond b (Some (system_in n)) None ≡ Some s → n ≡ system_bits s) [
  | true ↦ λ few e. sym (bits_are_sets.system_again n (below n 256 few)) ∙ ap system_bits (some_inj (system_in n) s e)
  | false ↦ λ many e. absurd cc
] refl is

coded_system : Exact system_at (Spells (λ s. u8 (system_bits s)) (λ s. Unit {0}))
unfolding system_at picked_by
coded_system = coded_picked system_of system_bits (λ s. Unit {0}) u8_at u8 (λ n. Unit {0}) coded_u8
    (λ n s low is. (system_picks n s is, tt))
    (λ s h. (ap (λ b. cond b (Some (system_in (system_bits s))) None) (is_below (system_bits s) 256 (bits_are_sets.system_small s)) ∙ ap (λ (z : SystemPermissions). Some z) (bits_are_sets.system_back s), tt))

held_test : (n : ℕ) → (nat_lt 0 n && nat_lt n 32) ≡ true → (0 < n) × (n < 32)
held_test n is = (grind (arith, nat_tests), grind (arith, nat_tests))

held_passes : (n : ℕ) → 0 < n → n < 32 → (nat_lt 0 n && nat_lt n 32) ≡ true
held_passes n low high = grind (arith, nat_tests)

held_picks : (n : ℕ) (s : TablePermissions) → held_of n ≡ Some s → (n ≡ table_bits s) × (0 < table_bits s)
held_picks n s is = elim (nat_lt 0 n && nat_lt n 32) as (λ b. (nat_lt 0 n && nat_lt n 32) ≡ b → cond b (Some (table_in n)) None ≡ Some s → (n ≡ table_bits s) × (0 < table_bits s)) [
  | true ↦ λ few e.
      let h = held_test n few in
      let bits : n ≡ table_bits s = sym (bits_are_sets.table_again n h.1) ∙ ap table_bits (some_inj (table_in n) s e) in
      (bits, subst (λ (k : ℕ). 0 < k) bits h.0)
  | false ↦ λ many e. absurd cc
] refl is

coded_held : Exact held_at (Spells (λ s. u8 (table_bits s)) (λ s. 0 < table_bits s))
unfolding held_at picked_by
coded_held = coded_picked held_of table_bits (λ s. 0 < table_bits s) u8_at u8 (λ n. Unit {0}) coded_u8
    (λ n s low is. held_picks n s is)
    (λ s some. (ap (λ b. cond b (Some (table_in (table_bits s))) None) (held_passes (table_bits s) some (bits_are_sets.table_small s)) ∙ ap (λ (z : TablePermissions). Some z) (bits_are_sets.table_back s), tt))

-- ---- users and rights
coded_set : Exact set_at (Spells (counted field) (λ set. FitsTexts set × IsRising set))
unfolding set_at picked_by
coded_set = coded_picked set_of_list (λ set. set) (λ set. FitsTexts set × IsRising set) texts_at (counted field) FitsTexts coded_texts
    (λ x set fits is. let e = only_passed (rises bytes_cmp) x set is in (e.1, subst (λ (z : List (List ℕ)). FitsTexts z × IsRising z) e.1 (fits, (bytes_rise x).0 e.0)))
    (λ set f. (only_passes (rises bytes_cmp) set ((bytes_rise set).1 f.1), f.0))

-- a user whose authorizations fit their fields too
abbrev pub SpellsUser : ImageUser → Type 0
SpellsUser u = FitsUser u × FitsTexts u.authorizations

coded_user : Exact user_at (Spells user_bytes SpellsUser)
unfolding user_at user_bytes ◌>>=◌ made
coded_user = coded_as user_bytes SpellsUser
    (coded_next (λ u. u.name) (λ u. Unit {0}) name_at field IsName _ _ _ coded_name (λ name.
    coded_next (λ u. u.system) _ system_at _ _ _ _ _ coded_system (λ system.
    coded_last (λ auths. record { name = name; system = system; authorizations = auths }) (λ u. u.authorizations) _ set_at (counted field) (λ set. FitsTexts set × IsRising set) coded_set
    (λ auths. refl) (λ auths. ((tt, refl), refl))
    (λ u k. let a = sym k.0.1 in let b = sym k.1 in (λ i. record { name = a i; system = b i; authorizations = u.authorizations })))))
    (λ u f. (refl, (record { name = f.0.0; rising = f.0.1.1.1 }, f.0.1.1.0)))
    (λ u f. (refl, ((f.0.name, (tt, (f.1, f.0.rising))), tt)))

coded_users : Exact users_at (Spells (counted user_bytes) (λ us. (length us < 2 ^ 32) × AllByRecursion SpellsUser us))
unfolding users_at
coded_users = coded_all u32_at u32 (λ n. n < 2 ^ 32) user_at user_bytes SpellsUser coded_u32 coded_user

coded_right : Exact right_at (Spells right_bytes FitsRight)
unfolding right_at right_bytes ◌>>=◌ made
coded_right = coded_as right_bytes FitsRight
    (coded_next (λ r. r.user) (λ r. Unit {0}) name_at field IsName _ _ _ coded_name (λ user.
    coded_last (λ held. record { user = user; held = held }) (λ r. r.held) _ held_at (λ s. u8 (table_bits s)) (λ s. 0 < table_bits s) coded_held
    (λ held. refl) (λ held. (tt, refl)) (λ r k. let a = sym k.1 in (λ i. record { user = a i; held = r.held }))))
    (λ r f. (refl, record { user = f.0.0; some = f.0.1 }))
    (λ r f. (refl, ((f.user, f.some), tt)))

coded_rights : Exact rights_at (Spells (counted right_bytes) (λ rs. (length rs < 2 ^ 32) × AllByRecursion FitsRight rs))
unfolding rights_at
coded_rights = coded_all u32_at u32 (λ n. n < 2 ^ 32) right_at right_bytes FitsRight coded_u32 coded_right

-- ---- records
pub coded_record : Exact record_at (Spells record_bytes FitsRecord)
unfolding record_at record_bytes ◌>>=◌ made
coded_record = coded_as record_bytes FitsRecord
    (coded_next (λ r. r.key.row) (λ r. Unit {0}) part_at field (λ text. length text ≤ MAX_PART_LEN) _ _ _ coded_part (λ row.
    coded_next (λ r. r.key.family) _ part_at field (λ text. length text ≤ MAX_PART_LEN) _ _ _ coded_part (λ family.
    coded_next (λ r. r.key.qualifier) _ part_at field (λ text. length text ≤ MAX_PART_LEN) _ _ _ coded_part (λ qualifier.
    coded_next (λ r. r.key.label) _ part_at field (λ text. length text ≤ MAX_PART_LEN) _ _ _ coded_part (λ label.
    coded_next (λ r. r.key.timestamp) _ i64_at i64 _ _ _ _ coded_i64 (λ timestamp.
    coded_next (λ r. r.kind) _ kind_at _ _ _ _ _ coded_kind (λ kind.
    coded_next (λ r. r.seq) _ u64_at u64 _ _ _ _ coded_u64 (λ seq.
    coded_next (λ r. r.idx) _ u32_at u32 _ _ _ _ coded_u32 (λ idx.
    coded_last (λ value. record { key = record { row = row; family = family; qualifier = qualifier; label = label; timestamp = timestamp }; kind = kind; value = value; seq = seq; idx = idx }) (λ r. r.value) _ part_at field (λ text. length text ≤ MAX_PART_LEN) coded_part
    (λ value. refl) (λ value. ((((((((tt, refl), refl), refl), refl), refl), refl), refl), refl))
    (λ r k.
    let a = sym k.0.0.0.0.0.0.0.1 in let b = sym k.0.0.0.0.0.0.1 in let c = sym k.0.0.0.0.0.1 in let d = sym k.0.0.0.0.1 in let e = sym k.0.0.0.1 in let f = sym k.0.0.1 in let g = sym k.0.1 in let h = sym k.1 in
    (λ i. record { key = record { row = a i; family = b i; qualifier = c i; label = d i; timestamp = e i }; kind = f i; value = r.value; seq = g i; idx = h i })))))))))))
    (λ r f. (
      refl,
      record {
        short = record { row = f.0.0; family = f.0.1.0; qualifier = f.0.1.1.0; label = f.0.1.1.1.0; value = f.0.1.1.1.1.1.1.1.1 };
        numbers = record { signed = f.0.1.1.1.1.0; bits = Fits-lt-pow (Fits-of_z {w = w64} {z = r.key.timestamp} f.0.1.1.1.1.0); seq_bits = f.0.1.1.1.1.1.1.0; idx_bits = f.0.1.1.1.1.1.1.1.0 };
      },
    ))
    (λ r f. (refl, ((f.short.row, (f.short.family, (f.short.qualifier, (f.short.label, (f.numbers.signed, (tt, (f.numbers.seq_bits, (f.numbers.idx_bits, f.short.value)))))))), tt)))

coded_records : Exact records_at (Spells records_bytes (λ rs. (length rs < 2 ^ 64) × AllByRecursion FitsRecord rs))
unfolding records_at records_bytes
coded_records = coded_all u64_at u64 (λ n. n < 2 ^ 64) record_at record_bytes FitsRecord coded_u64 coded_record

-- ---- tables
coded_least : Exact (made least) (Spells (λ z. []) (λ z. z ≡ least))
unfolding made
coded_least = exact_as (Spells (λ z. []) (λ z. z ≡ least)) (exact_given least) (λ bytes z is. (is.0, sym is.1)) (λ bytes z is. (is.0, sym is.1))

coded_horizon : (version : ℕ) → Exact (horizon_at version) (Spells (horizon_bytes version) (FitsHorizon version))
unfolding horizon_at horizon_bytes
coded_horizon version = go (version == 1)
  where
    go : (b : Bool) → Exact (cond b (made least) i64_at) (Spells (λ z. cond b [] (i64 z)) (λ z. cond b (z ≡ least) (FitsSigned w64 z)))
    go true = coded_least
    go false = coded_i64

settings_joined : (version : ℕ) (t : TableHead) (more : List ℕ)
    → settings_bytes version t.time t.versions t.constraints t.horizon ++ more ≡ u8 (time_byte t.time) ++ (u32 t.versions ++ (u8 (constraint_bits t.constraints) ++ (horizon_bytes version t.horizon ++ more)))
unfolding settings_bytes
settings_joined version t more = ap (λ (z : List ℕ). u8 (time_byte t.time) ++ z) (append_assoc (u32 t.versions) (u8 (constraint_bits t.constraints) ++ horizon_bytes version t.horizon) more)

coded_head : (version : ℕ) → Exact (head_at version) (Spells (head_bytes version) (FitsHead version))
unfolding head_at head_bytes ◌>>=◌ made
coded_head version = coded_as (head_bytes version) (FitsHead version)
    (coded_next (λ t. t.name) (λ t. Unit {0}) name_at field IsName _ _ _ coded_name (λ name.
    coded_next (λ t. t.time) _ time_at _ _ _ _ _ coded_time (λ time.
    coded_next (λ t. t.versions) _ versions_at u32 _ _ _ _ coded_versions (λ versions.
    coded_next (λ t. t.constraints) _ constraints_at _ _ _ _ _ coded_constraints (λ constraints.
    coded_next (λ t. t.horizon) _ (horizon_at version) (horizon_bytes version) (FitsHorizon version) _ _ _ (coded_horizon version) (λ horizon.
    coded_next (λ t. t.rights) _ rights_at (counted right_bytes) _ _ _ _ coded_rights (λ rights.
    coded_last (λ ends. record { name = name; time = time; versions = versions; constraints = constraints; horizon = horizon; rights = rights; ends = ends }) (λ t. t.ends) _ ends_at (counted field) _ coded_ends
    (λ ends. refl) (λ ends. ((((((tt, refl), refl), refl), refl), refl), refl))
    (λ t k.
    let a = sym k.0.0.0.0.0.1 in let b = sym k.0.0.0.0.1 in let c = sym k.0.0.0.1 in let d = sym k.0.0.1 in let e = sym k.0.1 in let f = sym k.1 in
    (λ i. record { name = a i; time = b i; versions = c i; constraints = d i; horizon = e i; rights = f i; ends = t.ends })))))))))
    (λ t f. (
      ap (λ (z : List ℕ). field t.name ++ z) (sym (settings_joined version t (counted right_bytes t.rights ++ counted field t.ends))),
      record { name = f.0.0; versions = f.0.1.1.0; constraints = f.0.1.1.1.0; horizon = f.0.1.1.1.1.0; rights_few = f.0.1.1.1.1.1.0.0; rights = f.0.1.1.1.1.1.0.1; ends_few = f.0.1.1.1.1.1.1.0; ends = f.0.1.1.1.1.1.1.1 },
    ))
    (λ t f. (
      ap (λ (z : List ℕ). field t.name ++ z) (settings_joined version t (counted right_bytes t.rights ++ counted field t.ends)),
      ((f.name, (tt, (f.versions, (f.constraints, (f.horizon, ((f.rights_few, f.rights), (f.ends_few, f.ends))))))), tt),
    ))

coded_table : (version : ℕ) → Exact (table_at version) (Spells (table_bytes version) (FitsTable version))
unfolding table_at table_bytes ◌>>=◌ made
coded_table version = coded_as (table_bytes version) (FitsTable version)
    (coded_next (λ t. t.head) (λ t. Unit {0}) (head_at version) (head_bytes version) (FitsHead version) _ _ _ (coded_head version) (λ head.
    coded_last (λ records. record { head = head; records = records }) (λ t. t.records) _ records_at records_bytes (λ rs. (length rs < 2 ^ 64) × AllByRecursion FitsRecord rs) coded_records
    (λ records. refl) (λ records. (tt, refl)) (λ t k. let a = sym k.1 in (λ i. record { head = a i; records = t.records }))))
    (λ t f. (refl, record { head = f.0.0; records_few = f.0.1.0; records = f.0.1.1 }))
    (λ t f. (refl, ((f.head, (f.records_few, f.records)), tt)))

coded_tables : (version : ℕ) → Exact (tables_at version) (Spells (counted (table_bytes version)) (λ ts. (length ts < 2 ^ 32) × AllByRecursion (FitsTable version) ts))
unfolding tables_at
coded_tables version = coded_all u32_at u32 (λ n. n < 2 ^ 32) (table_at version) (table_bytes version) (FitsTable version) coded_u32 (coded_table version)

-- ---- what stands behind the version
same_is : (text bytes : List ℕ) (u : Unit {0}) → same_as text bytes ≡ Some u → bytes ≡ text
same_is text bytes u is = elim (bytes_eq bytes text) as (λ b. bytes_eq bytes text ≡ b → cond b (Some tt) None ≡ Some u → bytes ≡ text) [
  | true ↦ λ same e. (bytes_eq-Decides bytes text).0 same
  | false ↦ λ differs e. absurd cc
] refl is

abbrev Four : List ℕ → List ℕ → Type 0
Four bytes text = (bytes ≡ text) × (length text ≡ 4)

coded_mark : Exact mark_at (Spells (λ u. end_bytes) (λ u. Unit {0}))
unfolding mark_at picked_by end_bytes
coded_mark = exact_as (Spells (λ u. codes "END!") (λ u. Unit {0})) (exact_picked (same_as (codes "END!")) (bytes_at 4) Four (exact_bytes 4))
    (λ bytes u p. (p.says.0 ∙ same_is (codes "END!") p.first u p.picks, tt))
    (λ bytes u is. record { first = codes "END!"; says = (is.0, refl); picks = refl })

abbrev pub body_bytes : ℕ → Image → List ℕ
body_bytes version i = i64 i.clock ++ (u64 i.next ++ (counted user_bytes i.users ++ (counted (table_bytes version) i.tables ++ end_bytes)))

pub record SpellsBody (version : ℕ) (i : Image) : Type 0 where
  pub clock : FitsSigned w64 i.clock
  pub next : i.next < 2 ^ 64
  pub users : (length i.users < 2 ^ 32) × AllByRecursion SpellsUser i.users
  pub tables : (length i.tables < 2 ^ 32) × AllByRecursion (FitsTable version) i.tables

pub coded_body : (version : ℕ) → Exact (body_at version) (Spells (body_bytes version) (SpellsBody version))
unfolding body_at ◌>>=◌ made
coded_body version = coded_as (body_bytes version) (SpellsBody version)
    (coded_next (λ i. i.clock) (λ i. Unit {0}) i64_at i64 _ _ _ _ coded_i64 (λ clock.
    coded_next (λ i. i.next) _ u64_at u64 _ _ _ _ coded_u64 (λ next.
    coded_next (λ i. i.users) _ users_at (counted user_bytes) _ _ _ _ coded_users (λ users.
    coded_next (λ i. i.tables) _ (tables_at version) (counted (table_bytes version)) _ _ _ _ (coded_tables version) (λ tables.
    coded_last (λ mark. record { clock = clock; next = next; users = users; tables = tables }) (λ i. tt) _ mark_at (λ u. end_bytes) (λ u. Unit {0}) coded_mark
    (λ mark. refl) (λ mark. ((((tt, refl), refl), refl), refl))
    (λ i k. let a = sym k.0.0.0.1 in let b = sym k.0.0.1 in let c = sym k.0.1 in let d = sym k.1 in (λ j. record { clock = a j; next = b j; users = c j; tables = d j })))))))
    (λ i f. (refl, record { clock = f.0.0; next = f.0.1.0; users = f.0.1.1.0; tables = f.0.1.1.1.0 }))
    (λ i f. (refl, ((f.clock, (f.next, (f.users, (f.tables, tt)))), tt)))
