-- To be believed by whoever relies on it. How the parts of frames and images lie in bytes, as relations between bytes and values. They say nothing of how bytes are read.
use Rattle.std.specs.Prelude.{ℕ, ℤ, ◌≡◌, ◌≤◌, ◌<◌, ◌^◌, ◌+◌, ◌-◌, ◌*◌, ◌/◌, ◌%◌, ◌==◌, Bool, cond, List, [], ◌∷◌, ◌++◌, length, get_or, map, filter, Option, Some, None}
use Rattle.std.specs.Int.{w16, w32, w64, to_be_bytes, cast_signed}
use Rattle.tab_key.specs.Names.{IsName}
use Rattle.tab_key.specs.declared.key.Kind.{Kind}
use Rattle.tab_key.specs.declared.key.Kind.TheVariants.{Delete, Put}
use Rattle.tab_key.specs.declared.range.Bound.{Bound}
use Rattle.tab_key.specs.declared.range.Bound.TheVariants.{Unbounded, Inclusive, Exclusive}
use Rattle.tab_key.specs.declared.range.Bounds.{Bounds}
use Rattle.tab_rules.specs.Constraints.{constraint_number, all_constraints, is_set, constraint_set_of}
use Rattle.tab_rules.specs.declared.constraint.Constraint.{Constraint}
use Rattle.tab_policy.specs.Permissions.{system_place, table_place, all_system, all_table}
use Rattle.tab_policy.specs.Sets.{system_contains, table_contains}
use Rattle.tab_policy.specs.declared.sets.SystemPermissions.{SystemPermissions}
use Rattle.tab_policy.specs.declared.sets.TablePermissions.{TablePermissions}
use Rattle.tab_history.specs.OwnRights.{system_set_of, table_set_of}
use Rattle.tab_history.specs.declared.event.TimeMode.{TimeMode}
use Rattle.tab_history.specs.declared.event.TimeMode.TheVariants.{Any, Server}

-- each is a byte
abbrev pub IsBytes : List ℕ → Type 0
IsBytes bytes = (i : ℕ) → get_or bytes i 0 < 256

-- ---- numbers, the most significant byte first

-- one byte
abbrev pub IsByte : List ℕ → ℕ → Type 0
IsByte bytes n = bytes ≡ n ∷ []

-- two, four and eight bytes
abbrev pub IsU16 : List ℕ → ℕ → Type 0
IsU16 bytes n = (bytes ≡ to_be_bytes w16 n) × (n < 2 ^ 16)

abbrev pub IsU32 : List ℕ → ℕ → Type 0
IsU32 bytes n = (bytes ≡ to_be_bytes w32 n) × (n < 2 ^ 32)

abbrev pub IsU64 : List ℕ → ℕ → Type 0
IsU64 bytes n = (bytes ≡ to_be_bytes w64 n) × (n < 2 ^ 64)

-- eight bytes with a sign, in two's complement
abbrev pub IsI64 : List ℕ → ℤ → Type 0
IsI64 bytes z = (n : ℕ) × IsU64 bytes n × (z ≡ cast_signed w64 n)

-- ---- byte strings and names

-- a field: four bytes of length, and that many bytes
abbrev pub IsField : List ℕ → List ℕ → Type 0
IsField bytes text = (bytes ≡ to_be_bytes w32 (length text) ++ text) × (length text < 2 ^ 32)

-- a field that is a name of a user or a table
abbrev pub IsNameField : List ℕ → List ℕ → Type 0
IsNameField bytes name = IsField bytes name × IsName name

-- ---- lists

-- one part after another
abbrev pub AreParts : {A : Type 0} → (List ℕ → A → Type 0) → List ℕ → List A → Type 0
AreParts IsPart bytes [] = bytes ≡ []
AreParts IsPart bytes (x ∷ xs) = (first : List ℕ) × (others : List ℕ) × (bytes ≡ first ++ others) × IsPart first x × AreParts IsPart others xs

-- a count, and that many parts
abbrev pub IsCounted : {A : Type 0} → (List ℕ → ℕ → Type 0) → (List ℕ → A → Type 0) → List ℕ → List A → Type 0
IsCounted IsCount IsPart bytes xs = (count : List ℕ) × (parts : List ℕ) × (bytes ≡ count ++ parts) × IsCount count (length xs) × AreParts IsPart parts xs

-- a list: four bytes of count, and that many fields
abbrev pub IsList : List ℕ → List (List ℕ) → Type 0
IsList = IsCounted IsU32 IsField

-- ---- what may be missing, and ends of ranges

-- 0, or 1 and a part
abbrev pub IsOptional : {A : Type 0} → (List ℕ → A → Type 0) → List ℕ → Option A → Type 0
IsOptional IsPart bytes None = bytes ≡ 0 ∷ []
IsOptional IsPart bytes (Some x) = (part : List ℕ) × (bytes ≡ 1 ∷ part) × IsPart part x

-- an end of a range: 0 for none, 1 and a field where its row is in the range, 2 and a field where it isn't
abbrev pub IsBound : List ℕ → Bound → Type 0
IsBound bytes Unbounded = bytes ≡ 0 ∷ []
IsBound bytes (Inclusive row) = (part : List ℕ) × (bytes ≡ 1 ∷ part) × IsField part row
IsBound bytes (Exclusive row) = (part : List ℕ) × (bytes ≡ 2 ∷ part) × IsField part row

-- the low end and the high end
abbrev pub IsBounds : List ℕ → Bounds → Type 0
IsBounds bytes bounds = (low : List ℕ) × (high : List ℕ) × (bytes ≡ low ++ high) × IsBound low bounds.low × IsBound high bounds.high

-- ---- kinds of records, and what tables are made with

-- the byte of a kind
abbrev pub kind_byte : Kind → ℕ
kind_byte Delete = 0
kind_byte Put = 1

abbrev pub IsKind : List ℕ → Kind → Type 0
IsKind bytes kind = bytes ≡ kind_byte kind ∷ []

-- who gives the timestamps
abbrev pub time_byte : TimeMode → ℕ
time_byte Any = 0
time_byte Server = 1

abbrev pub IsTime : List ℕ → TimeMode → Type 0
IsTime bytes time = bytes ≡ time_byte time ∷ []

-- a number of versions: 1 to 1,000
abbrev pub IsVersions : List ℕ → ℕ → Type 0
IsVersions bytes n = IsU32 bytes n × (1 ≤ n) × (n ≤ 1000)

-- ---- sets of at most eight members, a bit for each

-- whether the bit of this place is set; bit 0 is the lowest
abbrev pub has_bit : ℕ → ℕ → Bool
has_bit bits place = (bits / 2 ^ place) % 2 == 1

-- the number with these bits, the lowest first
abbrev pub bits_number : List Bool → ℕ
bits_number [] = 0
bits_number (b ∷ bs) = cond b 1 0 + 2 * bits_number bs

-- the constraints whose bits are set, rising; bit 0 is the constraint of number 1
abbrev pub constraints_in : ℕ → List Constraint
constraints_in bits = filter (λ c. has_bit bits (constraint_number c - 1)) all_constraints

-- the permissions whose bits are set; bit 0 is the first permission
abbrev pub system_in : ℕ → SystemPermissions
system_in bits = system_set_of (λ p. has_bit bits (system_place p))

abbrev pub table_in : ℕ → TablePermissions
table_in bits = table_set_of (λ p. has_bit bits (table_place p))

-- the bits of a set
abbrev pub constraint_bits : List Constraint → ℕ
constraint_bits set = bits_number (map (is_set set) all_constraints)

abbrev pub system_bits : SystemPermissions → ℕ
system_bits set = bits_number (map (system_contains set) all_system)

abbrev pub table_bits : TablePermissions → ℕ
table_bits set = bits_number (map (table_contains set) all_table)

-- a byte of constraints: the four lowest bits alone
abbrev pub IsConstraints : List ℕ → List Constraint → Type 0
IsConstraints bytes constraints = (bits : ℕ) × IsByte bytes bits × (bits < 16) × (constraints ≡ constraints_in bits)

-- ---- The law: a byte of bits and a set are two spellings of one thing.
pub record BitsAreSets : Type 0 where
  pub system_back : (s : SystemPermissions) → system_in (system_bits s) ≡ s
  pub system_again : (n : ℕ) → n < 256 → system_bits (system_in n) ≡ n
  pub table_back : (s : TablePermissions) → table_in (table_bits s) ≡ s
  pub table_again : (n : ℕ) → n < 32 → table_bits (table_in n) ≡ n
  pub constraint_back : (cs : List Constraint) → constraint_set_of cs ≡ cs → constraints_in (constraint_bits cs) ≡ cs
  pub constraint_again : (n : ℕ) → n < 16 → constraint_bits (constraints_in n) ≡ n
  pub system_small : (s : SystemPermissions) → system_bits s < 256
  pub table_small : (s : TablePermissions) → table_bits s < 32
  pub constraint_small : (cs : List Constraint) → constraint_bits cs < 16
