-- The tests of an image answer yes exactly where its conditions hold.
use Rattle.std.proofs.Common.{◌≡◌, ℕ, ℤ, ◌≤◌, ◌<◌, ◌^◌, Bool, true, false, not, List, [], ◌∷◌, length, refl, arith}
use Rattle.std.specs.Prelude.{◌||◌, map, bytes_eq, is_ok}
use Rattle.std.specs.Bool.{Decides}
use Rattle.std.specs.List.{list_all, list_any, AllByRecursion}
use Rattle.std.proofs.lemmas.Bool.Decides.{nat_tests, Decides-like, Decides-and, Decides-ltb, Decides-int_eq}
use Rattle.std.proofs.lemmas.Slice.Eq.{bytes_eq-Decides}
use Rattle.tab_key.specs.Encoding.{is_short as is_short_record, IsShort}
use Rattle.tab_key.specs.Records.{Record}
use Rattle.tab_key.specs.Order.{record_cmp}
use Rattle.tab_key.specs.Kept.{is_put}
use Rattle.tab_key.specs.declared.key.Kind.{Kind}
use Rattle.tab_key.specs.declared.key.Kind.TheVariants.{Delete, Put}
use Rattle.tab_label.specs.Reading.{label_of}
use Rattle.tab_policy.specs.Holders.{has_any}
use Rattle.tab_policy.specs.Roots.{root}
use Rattle.tab_history.specs.Checks.{too_many_auths}
use Rattle.tab_history.specs.Settings.{least}
use Rattle.tab_history.specs.declared.event.TimeMode.{TimeMode}
use Rattle.tab_history.specs.declared.event.TimeMode.TheVariants.{Any, Server}
use Rattle.tab_key.specs.declared.limited_part.TheConstants.{MAX_PART_LEN, MAX_UPDATES}
use Rattle.tab_key.proofs.Order.{record_cmp_total}
use Rattle.tab_image.specs.declared.user.ImageUser.{ImageUser}
use Rattle.tab_image.specs.declared.table.ImageTable.{ImageTable}
use Rattle.tab_image.specs.declared.image.Image.{Image}
use Rattle.tab_image.specs.Images.{is_root, has_user, IsSaneUser, IsSaneRecord, IsSaneTable, IsSane}
use Rattle.tab_image.proofs.Rising.{itself, rises_decides, bytes_rise}
use Rattle.tab_image.specs.Conditions.{is_empty, is_short, is_few, is_sane_user, is_sane_record, has_sane_horizon, is_sane_table, is_sane}

-- ---- tests of one thing
denied : (b : Bool) → Decides (not b) (b ≡ false)
denied true = (λ e. absurd cc, λ e. absurd cc)
denied false = (λ e. refl, λ e. refl)

-- where the one holds, so does the other
implied : {P : Type 0} (b c : Bool) → Decides c P → Decides (not b || c) (b ≡ true → P)
implied true c d = (λ e h. d.0 e, λ f. d.1 (f refl))
implied false c d = (λ e h. absurd cc, λ f. refl)

all_decides : {A : Type 0} (p : A → Bool) (P : A → Type 0) → ((x : A) → Decides (p x) (P x)) → (xs : List A) → Decides (list_all p xs) (AllByRecursion P xs)
all_decides p P each [] = (λ e. tt, λ h. refl)
all_decides p P each (x ∷ xs) = Decides-and (p x) (list_all p xs) (each x) (all_decides p P each xs)

pub short_decides : (bytes : List ℕ) → Decides (is_short bytes) (length bytes ≤ MAX_PART_LEN)
short_decides bytes = (λ e. grind (arith, nat_tests), λ h. grind (arith, nat_tests))

few_decides : {A : Type 0} (xs : List A) → Decides (is_few xs) (length xs < 2 ^ 32)
few_decides xs = (λ e. grind (arith, nat_tests), λ h. grind (arith, nat_tests))

pub short_record_decides : (r : Record) → Decides (is_short_record r) (IsShort r)
short_record_decides r = Decides-like (is_short_record r)
    (λ h. record { row = h.0.0.0.0; family = h.0.0.0.1; qualifier = h.0.0.1; label = h.0.1; value = h.1 })
    (λ h. ((((h.row, h.family), h.qualifier), h.label), h.value))
    (Decides-and _ _ (Decides-and _ _ (Decides-and _ _ (Decides-and _ _ (short_decides r.key.row) (short_decides r.key.family)) (short_decides r.key.qualifier)) (short_decides r.key.label)) (short_decides r.value))

empty_decides : (bytes : List ℕ) → Decides (is_empty bytes) (bytes ≡ [])
empty_decides [] = (λ e. refl, λ e. refl)
empty_decides (b ∷ bytes) = (λ e. absurd cc, λ e. absurd cc)

marker_decides : (k : Kind) (value : List ℕ) → Decides (is_put k || is_empty value) (k ≡ Delete → value ≡ [])
marker_decides Delete value = let d = empty_decides value in (λ e h. d.0 e, λ f. d.1 (f refl))
marker_decides Put value = (λ e h. absurd cc, λ f. refl)

-- ---- users, records, tables
user_decides : (u : ImageUser) → Decides (is_sane_user u) (IsSaneUser u)
user_decides u = Decides-like (is_sane_user u)
    (λ h. record { few = h.0; grant = h.1 })
    (λ h. (h.few, h.grant))
    (Decides-and _ _ (denied (too_many_auths u.authorizations)) (implied u.system.grant (bytes_eq u.name root) (bytes_eq-Decides u.name root)))

record_decides : (next : ℕ) (r : Record) → Decides (is_sane_record next r) (IsSaneRecord next r)
record_decides next r = Decides-like (is_sane_record next r)
    (λ h. record { short = h.0; seq = h.1.0; idx = h.1.1.0; marker = h.1.1.1.0; label = h.1.1.1.1 })
    (λ h. (h.short, (h.seq, (h.idx, (h.marker, h.label)))))
    (Decides-and _ _ (short_record_decides r) (Decides-and _ _ (Decides-ltb r.seq next) (Decides-and _ _ (Decides-ltb r.idx MAX_UPDATES) (Decides-and _ _ (marker_decides r.kind r.value) (itself (is_ok (label_of r.key.label)))))))

horizon_decides : (time : TimeMode) (horizon : ℤ) → Decides (has_sane_horizon time horizon) (time ≡ Server → horizon ≡ least)
horizon_decides Any horizon = (λ e h. absurd cc, λ f. refl)
horizon_decides Server horizon = let d = Decides-int_eq horizon least in (λ e h. d.0 e, λ f. d.1 (f refl))

table_decides : (users : List ImageUser) (next : ℕ) (t : ImageTable) → Decides (is_sane_table users next t) (IsSaneTable users next t)
table_decides users next t = Decides-like (is_sane_table users next t)
    (λ h. record { rights = h.0.0.0; known = h.0.0.1; some = h.0.1; ends_few = h.1.0.0; ends = h.1.0.1.0; ends_short = h.1.0.1.1; server = h.1.1.0; records = h.1.1.1.0; each = h.1.1.1.1 })
    (λ h. (((h.rights, h.known), h.some), ((h.ends_few, (h.ends, h.ends_short)), (h.server, (h.records, h.each)))))
    (Decides-and _ _ (Decides-and _ _ (Decides-and _ _ (bytes_rise (map (λ r. r.user) t.head.rights)) (all_decides (λ r. has_user users r.user) (λ r. has_user users r.user ≡ true) (λ r. itself (has_user users r.user)) t.head.rights)) (all_decides (λ r. has_any r.held) (λ r. has_any r.held ≡ true) (λ r. itself (has_any r.held)) t.head.rights))
    (Decides-and _ _ (Decides-and _ _ (few_decides t.head.ends) (Decides-and _ _ (bytes_rise t.head.ends) (all_decides is_short (λ row. length row ≤ MAX_PART_LEN) short_decides t.head.ends)))
    (Decides-and _ _ (horizon_decides t.head.time t.head.horizon) (Decides-and _ _ (rises_decides record_cmp record_cmp_total t.records) (all_decides (is_sane_record next) (IsSaneRecord next) (record_decides next) t.records)))))

pub sane_decides : (i : Image) → Decides (is_sane i) (IsSane i)
sane_decides i = Decides-like (is_sane i)
    (λ h. record { users_few = h.0; users = h.1.0; root_there = h.1.1.0; each_user = h.1.1.1.0; tables_few = h.1.1.1.1.0; tables = h.1.1.1.1.1.0; each_table = h.1.1.1.1.1.1 })
    (λ h. (h.users_few, (h.users, (h.root_there, (h.each_user, (h.tables_few, (h.tables, h.each_table)))))))
    (Decides-and _ _ (few_decides i.users) (Decides-and _ _ (bytes_rise (map (λ u. u.name) i.users)) (Decides-and _ _ (itself (list_any is_root i.users)) (Decides-and _ _ (all_decides is_sane_user IsSaneUser user_decides i.users)
    (Decides-and _ _ (few_decides i.tables) (Decides-and _ _ (bytes_rise (map (λ t. t.head.name) i.tables)) (all_decides (is_sane_table i.users i.next) (IsSaneTable i.users i.next) (table_decides i.users i.next) i.tables)))))))
