-- Worked examples, computed: bytes of images, what they say, and bytes that are no image.
use Rattle.std.specs.Prelude.{ℕ, zero, suc, pos, negsuc, ◌≡◌, ◌==◌, ◌-◌, ◌+◌, ◌*◌, nat_le, Bool, true, false, ◌&&◌, List, [], ◌∷◌, ◌++◌, length, take, drop, codes, Option, Some, None, Result, Ok, Err, refl, if◌then◌else◌}
use Rattle.tab_key.specs.Order.{column_cmp, key_cmp, place_cmp, newer_cmp}
use Rattle.tab_key.specs.declared.key.Kind.TheVariants.{Put, Delete}
use Rattle.tab_label.specs.Grammar.{is_term_byte}
use Rattle.tab_label.specs.Machine.{step, ending}
use Rattle.tab_label.specs.Reading.{reads_on, label_of}
use Rattle.tab_policy.specs.declared.sets.SystemPermissions.{SystemPermissions}
use Rattle.tab_policy.specs.declared.sets.TablePermissions.{TablePermissions}
use Rattle.tab_rules.specs.declared.constraint.Constraint.TheVariants.{Numeric, Visibility}
use Rattle.tab_history.specs.Settings.{least}
use Rattle.tab_history.specs.declared.event.TimeMode.TheVariants.{Any, Server}
use Rattle.tab_codec.specs.Reading.{u16_at, u32_at, u64_at, i64_at, field_at, name_at, kind_at, time_at, versions_at, constraints_at}
use Rattle.tab_image.specs.Images.{written_version}
use Rattle.tab_image.specs.Spelling.{u16, u32, u64, i64, user_bytes, right_bytes, horizon_bytes, settings_bytes, head_bytes, record_bytes, records_bytes, table_bytes, magic_bytes, front_bytes, end_bytes, image_bytes}
use Rattle.tab_image.specs.declared.fault.ImageFault.{ImageFault}
use Rattle.tab_image.specs.declared.fault.ImageFault.TheVariants as fault
use Rattle.tab_image.specs.declared.image.Image.{Image}
use Rattle.tab_image.specs.Reading.{◌>>=◌, made, picked_by, all_at, part_at, ends_at, mark_at, system_at, held_at, texts_at, set_at, user_at, users_at, right_at, rights_at, record_at, records_at, horizon_at, head_at, table_at, tables_at, body_at, image_of}

-- ---- bytes in hexadecimal: two digits a byte, spaces passed over
abbrev pub digit : ℕ → ℕ
digit c = if nat_le c 57 then c - 48 else c - 87

-- the bytes that the digits spell
abbrev pub hex_from : Option ℕ → List ℕ → List ℕ
hex_from high [] = []
hex_from None (c ∷ cs) = if c == 32 then hex_from None cs else hex_from (Some (digit c)) cs
hex_from (Some high) (c ∷ cs) = (16 * high + digit c) ∷ hex_from None cs

abbrev pub hex : List ℕ → List ℕ
hex text = hex_from None text

-- names what the examples look into
everything : ℕ
unfolding u16_at u32_at u64_at i64_at field_at name_at kind_at time_at versions_at constraints_at ◌>>=◌ made picked_by all_at part_at ends_at mark_at system_at held_at texts_at set_at user_at users_at right_at rights_at record_at records_at horizon_at head_at table_at tables_at body_at image_of column_cmp key_cmp place_cmp newer_cmp is_term_byte step ending reads_on label_of u16 u32 u64 i64 user_bytes right_bytes horizon_bytes settings_bytes head_bytes record_bytes records_bytes table_bytes magic_bytes front_bytes end_bytes image_bytes
everything = 0

-- ---- a new core
-- all permissions, or none
abbrev all_system : Bool → SystemPermissions
all_system b = record { grant = b; create_table = b; drop_table = b; alter_table = b; create_user = b; drop_user = b; alter_user = b; system = b }

abbrev all_table : Bool → TablePermissions
all_table b = record { read = b; write = b; alter_table = b; grant = b; drop_table = b }

-- root alone, and no table
abbrev new_image : Image
new_image = record { clock = pos 0; next = 0; users = record { name = codes "root"; system = all_system true; authorizations = [] } ∷ []; tables = [] }

abbrev smallest : List ℕ
smallest = hex (codes "544142494d47 0002 0000000000000000 0000000000000000 00000001 00000004 726f6f74 ff 00000000 00000000 454e4421")

smallest_says : image_of smallest ≡ Ok new_image
unfolding everything
smallest_says = refl

-- the same bytes but for these two, whatever they are
abbrev pub in_version : List ℕ → List ℕ → List ℕ
in_version version bytes = take 6 bytes ++ (hex version ++ drop 8 bytes)

first_smallest_says : image_of (in_version (codes "0001") smallest) ≡ Ok new_image
unfolding everything
first_smallest_says = refl

-- ---- a table with one put
abbrev one_put : List ℕ
one_put = hex (codes "544142494d47 0002 0000000000000000 0000000000000001 00000001 00000004 726f6f74 ff 00000000 00000001 00000001 74 00 00000001 00 8000000000000000 00000001 00000004 726f6f74 1f 00000000 0000000000000001 00000001 72 00000001 66 00000001 71 00000000 0000000000000005 01 0000000000000000 00000000 00000001 76 454e4421")

-- the same in the first version, which has no horizons
abbrev first_one_put : List ℕ
first_one_put = in_version (codes "0001") (take 56 one_put ++ drop 64 one_put)

abbrev one_put_image : Image
one_put_image = record new_image {
  next = 1;
  tables = record {
    head = record { name = codes "t"; time = Any; versions = 1; constraints = []; horizon = least; rights = record { user = codes "root"; held = all_table true } ∷ []; ends = [] };
    records = record { key = record { row = codes "r"; family = codes "f"; qualifier = codes "q"; label = []; timestamp = pos 5 }; kind = Put; value = codes "v"; seq = 0; idx = 0 } ∷ [];
  } ∷ [];
}

one_put_says : image_of one_put ≡ Ok one_put_image
unfolding everything
one_put_says = refl

first_one_put_says : image_of first_one_put ≡ Ok one_put_image
unfolding everything
first_one_put_says = refl

-- ---- two users, two tables, the second one with a horizon above the clock and above its records, and a marker before a put
abbrev two_tables : List ℕ
two_tables = hex (codes "544142494d47 0002 fffffffffffffffe 0000000000000003 00000002 00000003 626f62 80 00000002 00000001 41 00000001 42 00000004 726f6f74 ff 00000000 00000002 00000001 73 01 00000002 0c 8000000000000000 00000000 00000000 0000000000000000 00000001 74 00 000003e8 00 0000000000000006 00000002 00000003 626f62 03 00000004 726f6f74 10 00000002 00000000 00000001 6d 0000000000000002 00000001 72 00000000 00000000 00000001 41 0000000000000005 00 0000000000000002 000003e7 00000000 00000001 72 00000000 00000000 00000001 41 0000000000000005 01 0000000000000000 00000000 00000000 454e4421")

abbrev two_tables_image : Image
two_tables_image = record {
  clock = negsuc 1;
  next = 3;
  users = record { name = codes "bob"; system = record (all_system false) { system = true }; authorizations = codes "A" ∷ codes "B" ∷ [] } ∷ record { name = codes "root"; system = all_system true; authorizations = [] } ∷ [];
  tables = record { head = record { name = codes "s"; time = Server; versions = 2; constraints = Numeric ∷ Visibility ∷ []; horizon = least; rights = []; ends = [] }; records = [] }
      ∷ record {
        head = record { name = codes "t"; time = Any; versions = 1000; constraints = []; horizon = pos 6; rights = record { user = codes "bob"; held = record (all_table false) { read = true; write = true } } ∷ record { user = codes "root"; held = record (all_table false) { drop_table = true } } ∷ []; ends = [] ∷ codes "m" ∷ [] };
        records = record { key = record { row = codes "r"; family = []; qualifier = []; label = codes "A"; timestamp = pos 5 }; kind = Delete; value = []; seq = 2; idx = 999 }
            ∷ record { key = record { row = codes "r"; family = []; qualifier = []; label = codes "A"; timestamp = pos 5 }; kind = Put; value = []; seq = 0; idx = 0 } ∷ [];
      } ∷ [];
}

two_tables_say : image_of two_tables ≡ Ok two_tables_image
unfolding everything
two_tables_say = refl

-- what is written for each is what was read
smallest_again : image_bytes written_version new_image ≡ smallest
unfolding everything
smallest_again = refl

one_put_again : image_bytes written_version one_put_image ≡ one_put
unfolding everything
one_put_again = refl

first_one_put_again : image_bytes 1 one_put_image ≡ first_one_put
unfolding everything
first_one_put_again = refl

two_tables_again : image_bytes written_version two_tables_image ≡ two_tables
unfolding everything
two_tables_again = refl

-- ---- what is no image
abbrev is_bad : Result Image ImageFault → Bool
is_bad (Err fault.Bad) = true
is_bad _ = false

-- the first n bytes, and all fewer ones, are no image
abbrev cuts_are_bad : ℕ → List ℕ → Bool
cuts_are_bad zero bytes = is_bad (image_of [])
cuts_are_bad (suc n) bytes = is_bad (image_of (take (suc n) bytes)) && cuts_are_bad n bytes

smallest_cut : cuts_are_bad 48 smallest ≡ true
unfolding everything
smallest_cut = refl

smallest_length : length smallest ≡ 49
smallest_length = refl

one_put_cut : cuts_are_bad 137 one_put ≡ true
unfolding everything
one_put_cut = refl

one_put_length : length one_put ≡ 138
one_put_length = refl

first_one_put_cut : cuts_are_bad 129 first_one_put ≡ true
unfolding everything
first_one_put_cut = refl

first_one_put_length : length first_one_put ≡ 130
first_one_put_length = refl

one_more_byte : is_bad (image_of (one_put ++ 0 ∷ [])) ≡ true
unfolding everything
one_more_byte = refl

-- other first bytes, whatever follows
other_bytes : is_bad (image_of (hex (codes "544142494d48 0002"))) ≡ true
unfolding everything
other_bytes = refl

-- ---- versions
version_none : image_of (hex (codes "544142494d47 0000")) ≡ Err (fault.Version 0)
unfolding everything
version_none = refl

version_three : image_of (in_version (codes "0003") one_put) ≡ Err (fault.Version 3)
unfolding everything
version_three = refl

-- a version of one byte is none
version_cut : is_bad (image_of (hex (codes "544142494d47 02"))) ≡ true
unfolding everything
version_cut = refl

-- the first version with a horizon, and the second one without
first_with_horizon : is_bad (image_of (in_version (codes "0001") one_put)) ≡ true
unfolding everything
first_with_horizon = refl

second_without_horizon : is_bad (image_of (in_version (codes "0002") first_one_put)) ≡ true
unfolding everything
second_without_horizon = refl

-- ---- users
-- an image of these users and no tables, where next is the number of the next write
abbrev with_users : List ℕ → List ℕ
with_users users = hex (codes "544142494d47 0002 0000000000000000 0000000000000000") ++ (hex users ++ hex (codes "00000000 454e4421"))

abbrev only_bad : List ℕ → Type 0
only_bad bytes = is_bad (image_of bytes) ≡ true

users_say : is_bad (image_of (with_users (codes "00000002 00000001 61 00 00000000 00000004 726f6f74 ff 00000000"))) ≡ false
unfolding everything
users_say = refl

-- in another order, one of them twice, none, another than root, a weak root, and another one who may grant
users_fall : only_bad (with_users (codes "00000002 00000004 726f6f74 ff 00000000 00000001 61 00 00000000"))
unfolding everything
users_fall = refl

root_twice : only_bad (with_users (codes "00000002 00000004 726f6f74 ff 00000000 00000004 726f6f74 ff 00000000"))
unfolding everything
root_twice = refl

no_users : only_bad (with_users (codes "00000000"))
unfolding everything
no_users = refl

no_root : only_bad (with_users (codes "00000001 00000004 726f6f75 ff 00000000"))
unfolding everything
no_root = refl

weak_root : only_bad (with_users (codes "00000001 00000004 726f6f74 7f 00000000"))
unfolding everything
weak_root = refl

another_grants : only_bad (with_users (codes "00000002 00000001 61 01 00000000 00000004 726f6f74 ff 00000000"))
unfolding everything
another_grants = refl

-- a name of no byte, and one with a byte that no name has
no_name : only_bad (with_users (codes "00000002 00000000 00 00000000 00000004 726f6f74 ff 00000000"))
unfolding everything
no_name = refl

bad_name : only_bad (with_users (codes "00000002 00000001 20 00 00000000 00000004 726f6f74 ff 00000000"))
unfolding everything
bad_name = refl

-- authorizations that fall, and one that stands twice
auths_fall : only_bad (with_users (codes "00000001 00000004 726f6f74 ff 00000002 00000001 42 00000001 41"))
unfolding everything
auths_fall = refl

auth_twice : only_bad (with_users (codes "00000001 00000004 726f6f74 ff 00000002 00000001 41 00000001 41"))
unfolding everything
auth_twice = refl

-- a count that says too much
too_many_users : only_bad (with_users (codes "ffffffff 00000004 726f6f74 ff 00000000"))
unfolding everything
too_many_users = refl

-- ---- tables
-- an image of root, and of one table; the next write gets the number 1
abbrev with_table : List ℕ → List ℕ
with_table table = hex (codes "544142494d47 0002 0000000000000000 0000000000000001 00000001 00000004 726f6f74 ff 00000000 00000001 00000001 74") ++ (hex table ++ hex (codes "454e4421"))

table_says : is_bad (image_of (with_table (codes "00 00000001 00 8000000000000000 00000000 00000000 0000000000000000"))) ≡ false
unfolding everything
table_says = refl

-- a time byte of 2, no versions, 1,001 of them, a fifth constraint
bad_time : only_bad (with_table (codes "02 00000001 00 8000000000000000 00000000 00000000 0000000000000000"))
unfolding everything
bad_time = refl

no_versions : only_bad (with_table (codes "00 00000000 00 8000000000000000 00000000 00000000 0000000000000000"))
unfolding everything
no_versions = refl

many_versions : only_bad (with_table (codes "00 000003e9 00 8000000000000000 00000000 00000000 0000000000000000"))
unfolding everything
many_versions = refl

fifth_constraint : only_bad (with_table (codes "00 00000001 10 8000000000000000 00000000 00000000 0000000000000000"))
unfolding everything
fifth_constraint = refl

-- a table that gives its timestamps has no horizon, which is the least one; one that takes them has any
server_says : is_bad (image_of (with_table (codes "01 00000001 00 8000000000000000 00000000 00000000 0000000000000000"))) ≡ false
unfolding everything
server_says = refl

server_horizon : only_bad (with_table (codes "01 00000001 00 8000000000000001 00000000 00000000 0000000000000000"))
unfolding everything
server_horizon = refl

greatest_says : is_bad (image_of (with_table (codes "00 00000001 00 7fffffffffffffff 00000000 00000000 0000000000000000"))) ≡ false
unfolding everything
greatest_says = refl

-- rights of a user who isn't there, none at all, a sixth, and one user's twice
of_nobody : only_bad (with_table (codes "00 00000001 00 8000000000000000 00000001 00000001 61 1f 00000000 0000000000000000"))
unfolding everything
of_nobody = refl

no_rights : only_bad (with_table (codes "00 00000001 00 8000000000000000 00000001 00000004 726f6f74 00 00000000 0000000000000000"))
unfolding everything
no_rights = refl

sixth_right : only_bad (with_table (codes "00 00000001 00 8000000000000000 00000001 00000004 726f6f74 20 00000000 0000000000000000"))
unfolding everything
sixth_right = refl

rights_twice : only_bad (with_table (codes "00 00000001 00 8000000000000000 00000002 00000004 726f6f74 01 00000004 726f6f74 02 00000000 0000000000000000"))
unfolding everything
rights_twice = refl

-- end rows that fall, and one that stands twice
ends_fall : only_bad (with_table (codes "00 00000001 00 8000000000000000 00000000 00000002 00000001 6e 00000001 6d 0000000000000000"))
unfolding everything
ends_fall = refl

end_twice : only_bad (with_table (codes "00 00000001 00 8000000000000000 00000000 00000002 00000001 6d 00000001 6d 0000000000000000"))
unfolding everything
end_twice = refl

-- ---- records
-- an image of one table with these records
abbrev with_records : List ℕ → List ℕ
with_records records = with_table (codes "00 00000001 00 8000000000000000 00000000 00000000" ++ records)

record_says : is_bad (image_of (with_records (codes "0000000000000001 00000001 72 00000001 66 00000001 71 00000000 0000000000000005 01 0000000000000000 00000000 00000001 76"))) ≡ false
unfolding everything
record_says = refl

-- the same record twice
record_twice : only_bad (with_records (codes "0000000000000002 00000001 72 00000001 66 00000001 71 00000000 0000000000000005 01 0000000000000000 00000000 00000001 76 00000001 72 00000001 66 00000001 71 00000000 0000000000000005 01 0000000000000000 00000000 00000001 76"))
unfolding everything
record_twice = refl

-- the older one first
records_fall : only_bad (with_records (codes "0000000000000002 00000001 72 00000001 66 00000001 71 00000000 0000000000000005 01 0000000000000000 00000000 00000001 76 00000001 72 00000001 66 00000001 71 00000000 0000000000000005 01 0000000000000000 00000001 00000001 76"))
unfolding everything
records_fall = refl

-- a mutation that wasn't accepted yet, a place that no mutation has, a kind of 2, a label that is none, and a marker with a value
unborn : only_bad (with_records (codes "0000000000000001 00000001 72 00000001 66 00000001 71 00000000 0000000000000005 01 0000000000000001 00000000 00000001 76"))
unfolding everything
unborn = refl

no_place : only_bad (with_records (codes "0000000000000001 00000001 72 00000001 66 00000001 71 00000000 0000000000000005 01 0000000000000000 000003e8 00000001 76"))
unfolding everything
no_place = refl

bad_kind : only_bad (with_records (codes "0000000000000001 00000001 72 00000001 66 00000001 71 00000000 0000000000000005 02 0000000000000000 00000000 00000001 76"))
unfolding everything
bad_kind = refl

bad_label : only_bad (with_records (codes "0000000000000001 00000001 72 00000001 66 00000001 71 00000002 6126 0000000000000005 01 0000000000000000 00000000 00000001 76"))
unfolding everything
bad_label = refl

full_marker : only_bad (with_records (codes "0000000000000001 00000001 72 00000001 66 00000001 71 00000000 0000000000000005 00 0000000000000000 00000000 00000001 76"))
unfolding everything
full_marker = refl
