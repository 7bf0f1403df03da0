-- For proofs. What one word says: a name, a number, a list, a bound, columns.
use Rattle.std.specs.Prelude.{ℕ, ℤ, pos, negsuc, ◌+◌, ◌-◌, ◌*◌, ◌^◌, ◌==◌, nat_le, nat_lt, Bool, ◌&&◌, List, [], ◌∷◌, length, take, drop, position, codes, Option, Some, None, if◌then◌else◌}
use Rattle.std.specs.Char.{is_ascii_digit}
use Rattle.std.specs.List.{list_all}
use Rattle.std.specs.Option.{option_map, option_and_then}
use Rattle.std.specs.Str.{bytes_eq, is_utf8}
use Rattle.tab_key.specs.Names.{is_name_byte}
use Rattle.tab_key.specs.declared.name.TheConstants.{MAX_NAME_LEN}
use Rattle.tab_history.specs.Settings.{is_version_count}
use Rattle.tab_key.specs.declared.range.Bound.{Bound}
use Rattle.tab_key.specs.declared.range.Bound.TheVariants.{Unbounded, Inclusive, Exclusive}
use Rattle.tab_key.specs.declared.column.Column.{Column}
use Rattle.tab_key.specs.declared.column.Column.TheVariants.{Family, Qualified}
use Rattle.tab_rules.specs.Constraints.{constraint_named}
use Rattle.tab_rules.specs.declared.constraint.Constraint.{Constraint}
use Rattle.tab_policy.specs.Permissions.{system_by_name, table_by_name}
use Rattle.tab_policy.specs.declared.permission.Permission.{Permission}
use Rattle.tab_policy.specs.declared.permission.Permission.TheVariants.{OfSystem, OfTable}
use Rattle.tab_cells.specs.declared.compaction.Compaction.{Compaction}
use Rattle.tab_cells.specs.declared.compaction.Compaction.TheVariants as merges
use Rattle.tab_history.specs.declared.event.Extent.{Extent}
use Rattle.tab_history.specs.declared.event.Extent.TheVariants.{Partial, Full}
use Rattle.tab_history.specs.declared.event.TimeMode.{TimeMode}
use Rattle.tab_history.specs.declared.event.TimeMode.TheVariants.{Any, Server}
use Rattle.tab_lines.specs.Words.{parts_at}
use Rattle.tab_text.specs.Reading.{bytes_of}

-- the value, where it passes the test
abbrev pub only_if : {A : Type 0} → (A → Bool) → A → Option A
only_if test x = if test x then Some x else None

-- ---- names

-- 1 to 128 bytes that a name may have
abbrev pub is_name : List ℕ → Bool
is_name bs = nat_lt 0 (length bs) && (nat_le (length bs) MAX_NAME_LEN && list_all is_name_byte bs)

-- the name that a word spells
abbrev pub name_of : List ℕ → Option (List ℕ)
name_of word = option_and_then (only_if is_name) (bytes_of word)

-- ---- numbers

-- the number that stands as n so far
abbrev pub digits_on : ℕ → List ℕ → Option ℕ
digits_on n [] = Some n
digits_on n (c ∷ cs) = if is_ascii_digit c then digits_on (10 * n + (c - 48)) cs else None

-- the number with one more digit, where it is below 2^64
abbrev pub with_digit : ℕ → ℕ → Option ℕ
with_digit n c = if is_ascii_digit c then only_if (λ m. nat_lt m (2 ^ 64)) (10 * n + (c - 48)) else None

-- the number that the digits spell; there is at least one
unfoldable pub magnitude_of : List ℕ → Option ℕ
magnitude_of digits = if length digits == 0 then None else digits_on 0 digits

-- a number below 2^64
abbrev pub unsigned_of : List ℕ → Option ℕ
unsigned_of word = option_and_then (only_if (λ n. nat_lt n (2 ^ 64))) (magnitude_of word)

-- a number below 2^32
abbrev pub small_of : List ℕ → Option ℕ
small_of word = option_and_then (only_if (λ n. nat_lt n (2 ^ 32))) (unsigned_of word)

-- a number that fits without a minus
abbrev pub positive : ℕ → Option ℤ
positive n = if nat_lt n (2 ^ 63) then Some (pos n) else None

-- a number that fits behind a minus; 0 isn't negative
abbrev pub negative : ℕ → Option ℤ
negative n = if nat_lt 0 n && nat_le n (2 ^ 63) then Some (negsuc (n - 1)) else None

-- a signed number of 64 bits
abbrev pub signed_of : List ℕ → Option ℤ
signed_of [] = None
signed_of (c ∷ cs) = if c == 45 then option_and_then negative (magnitude_of cs) else option_and_then positive (magnitude_of (c ∷ cs))

-- a timestamp that is there
abbrev pub given_timestamp : List ℕ → Option (Option ℤ)
given_timestamp word = option_map (λ t. Some t) (signed_of word)

-- a timestamp, or - for none
abbrev pub timestamp_or_dash : List ℕ → Option (Option ℤ)
timestamp_or_dash word = if bytes_eq word (codes "-") then Some None else given_timestamp word

-- a number of versions
abbrev pub version_count : List ℕ → Option ℕ
version_count word = option_and_then (only_if is_version_count) (magnitude_of word)

-- ---- words of a new table

-- who gives the timestamps
abbrev pub time_word : List ℕ → Option TimeMode
time_word word = if bytes_eq word (codes "time=any") then Some Any else if bytes_eq word (codes "time=server") then Some Server else None

-- how many versions, behind the nine bytes versions=
abbrev pub versions_word : List ℕ → Option ℕ
versions_word word = if bytes_eq (take 9 word) (codes "versions=") then version_count (drop 9 word) else None

-- ---- a word of a compaction

-- what one of a whole table merges
abbrev pub extent_word : List ℕ → Option Extent
extent_word word = if bytes_eq word (codes "partial") then Some Partial else if bytes_eq word (codes "full") then Some Full else None

-- what one of a tablet merges
abbrev pub compaction_word : List ℕ → Option Compaction
compaction_word word =
    if bytes_eq word (codes "minor") then Some merges.Minor
    else if bytes_eq word (codes "partial") then Some merges.Partial
    else if bytes_eq word (codes "full") then Some merges.Full
    else None

-- ---- files

-- the name of a file that a word spells: bytes that are UTF-8
abbrev pub file_name_of : List ℕ → Option (List ℕ)
file_name_of word = option_and_then (only_if is_utf8) (bytes_of word)

-- ---- permissions

-- the system permission of this name
unfoldable pub system_permission : List ℕ → Option Permission
system_permission word = option_map (λ p. OfSystem p) (system_by_name word)

-- the table permission of this name, on the table that the next word spells
unfoldable pub table_permission : List ℕ → List ℕ → Option Permission
table_permission word t = option_and_then (λ p. option_map (λ table. OfTable p table) (name_of t)) (table_by_name word)

-- ---- lists, bounds, columns

-- \0
abbrev pub none_word : List ℕ
none_word = 92 ∷ 48 ∷ []

-- what each part says, where each says something
abbrev pub each_of : {A : Type 0} → (List ℕ → Option A) → List (List ℕ) → Option (List A)
each_of reads [] = Some []
each_of reads (part ∷ parts) = option_and_then (λ x. option_map (λ xs. x ∷ xs) (each_of reads parts)) (reads part)

-- \0, or parts between commas
abbrev pub listed : {A : Type 0} → (List ℕ → Option A) → List ℕ → Option (List A)
listed reads word = if bytes_eq word none_word then Some [] else each_of reads (parts_at 44 word)

-- the byte strings that a word lists
unfoldable pub list_of : List ℕ → Option (List (List ℕ))
list_of word = listed bytes_of word

-- the constraint whose name a word spells
abbrev pub constraint_of : List ℕ → Option Constraint
constraint_of part = option_and_then constraint_named (bytes_of part)

-- the constraints that a word lists
unfoldable pub constraints_of : List ℕ → Option (List Constraint)
constraints_of word = listed constraint_of word

-- an end of a range, by its first byte: [ or (
abbrev pub bound_begun : List ℕ → Option Bound
bound_begun [] = None
bound_begun (c ∷ cs) =
    if c == 91 then option_map (λ bs. Inclusive bs) (bytes_of cs) else if c == 40 then option_map (λ bs. Exclusive bs) (bytes_of cs) else None

-- \0, or an end of a range
unfoldable pub bound_of : List ℕ → Option Bound
bound_of word = if bytes_eq word none_word then Some Unbounded else bound_begun word

-- the byte that parts a family from a qualifier
abbrev pub is_colon : ℕ → Bool
is_colon b = b == 58

-- a family, or a family and what stands behind the first colon
abbrev pub column_at : Option ℕ → List ℕ → Option Column
column_at None part = option_map (λ family. Family family) (bytes_of part)
column_at (Some at) part =
    option_and_then (λ family. option_map (λ qualifier. Qualified family qualifier) (bytes_of (drop (at + 1) part))) (bytes_of (take at part))

-- the column that a part spells
unfoldable pub column_of : List ℕ → Option Column
column_of part = column_at (position is_colon part) part

-- the columns that a word lists
unfoldable pub columns_of : List ℕ → Option (List Column)
columns_of word = listed column_of word
