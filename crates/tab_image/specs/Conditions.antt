-- For proofs. The conditions on an image, as tests.
use Rattle.std.specs.Prelude.{ℕ, ℤ, nat_le, nat_lt, Bool, true, false, not, ◌&&◌, ◌||◌, List, [], ◌∷◌, length, map, bytes_eq, is_ok}
use Rattle.std.specs.List.{list_all, list_any}
use Rattle.std.specs.declared.cmp.Ordering.{Ordering}
use Rattle.std.specs.Ordering.{is_lt, int_eq}
use Rattle.tab_key.specs.Bytes.{bytes_cmp}
use Rattle.tab_key.specs.Encoding.{is_short as is_short_record}
use Rattle.tab_key.specs.Records.{Record}
use Rattle.tab_key.specs.Order.{record_cmp}
use Rattle.tab_key.specs.Kept.{is_put}
use Rattle.tab_key.specs.declared.limited_part.TheConstants.{MAX_PART_LEN, MAX_UPDATES}
use Rattle.tab_label.specs.Reading.{label_of}
use Rattle.tab_policy.specs.Holders.{has_any}
use Rattle.tab_policy.specs.Roots.{root}
use Rattle.tab_history.specs.Checks.{too_many_auths}
use Rattle.tab_history.specs.Settings.{least, takes_timestamps}
use Rattle.tab_history.specs.declared.event.TimeMode.{TimeMode}
use Rattle.tab_image.specs.declared.user.ImageUser.{ImageUser}
use Rattle.tab_image.specs.declared.table.ImageRight.{ImageRight}
use Rattle.tab_image.specs.declared.table.ImageTable.{ImageTable}
use Rattle.tab_image.specs.declared.image.Image.{Image}
use Rattle.tab_image.specs.Images.{is_root, has_user}

-- each is below the next
abbrev pub rises : {A : Type 0} → (A → A → Ordering) → List A → Bool
rises cmp [] = true
rises cmp (x ∷ []) = true
rises cmp (x ∷ y ∷ ys) = is_lt (cmp x y) && rises cmp (y ∷ ys)

-- there is no byte
abbrev pub is_empty : List ℕ → Bool
is_empty [] = true
is_empty (b ∷ bs) = false

-- within the limit of a row, a family, a qualifier, a label or a value
abbrev pub is_short : List ℕ → Bool
is_short bytes = nat_le (length bytes) MAX_PART_LEN

-- a count of four bytes tells how many there are
abbrev pub is_few : {A : Type 0} → List A → Bool
is_few xs = nat_le (length xs) 4294967295

abbrev pub is_sane_user : ImageUser → Bool
is_sane_user u = not (too_many_auths u.authorizations) && (not u.system.grant || bytes_eq u.name root)

-- as an accepted mutation has it, but for the lengths of its parts
abbrev pub is_accepted : ℕ → Record → Bool
is_accepted next r = nat_lt r.seq next && (nat_lt r.idx MAX_UPDATES && ((is_put r.kind || is_empty r.value) && is_ok (label_of r.key.label)))

abbrev pub is_sane_record : ℕ → Record → Bool
is_sane_record next r = is_short_record r && is_accepted next r

-- its rights
abbrev pub has_sane_rights : List ImageUser → List ImageRight → Bool
has_sane_rights users rights = rises bytes_cmp (map (λ r. r.user) rights) && list_all (λ r. has_user users r.user) rights && list_all (λ r. has_any r.held) rights

-- its end rows
abbrev pub has_sane_ends : List (List ℕ) → Bool
has_sane_ends ends = is_few ends && (rises bytes_cmp ends && list_all is_short ends)

-- its horizon, which is the least one where it gives its timestamps
abbrev pub has_sane_horizon : TimeMode → ℤ → Bool
has_sane_horizon time horizon = takes_timestamps time || int_eq horizon least

-- its records
abbrev pub has_sane_records : ℕ → List Record → Bool
has_sane_records next records = rises record_cmp records && list_all (is_sane_record next) records

abbrev pub is_sane_table : List ImageUser → ℕ → ImageTable → Bool
is_sane_table users next t = has_sane_rights users t.head.rights && (has_sane_ends t.head.ends && (has_sane_horizon t.head.time t.head.horizon && has_sane_records next t.records))

abbrev pub is_sane : Image → Bool
is_sane i = is_few i.users && (rises bytes_cmp (map (λ u. u.name) i.users) && (list_any is_root i.users && (list_all is_sane_user i.users
    && (is_few i.tables && (rises bytes_cmp (map (λ t. t.head.name) i.tables) && list_all (is_sane_table i.users i.next) i.tables)))))
