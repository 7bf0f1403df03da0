-- For proofs. Reading from left to right: a reader gives the value at the front and the bytes behind it, or nothing.
use Rattle.std.specs.Prelude.{ℕ, ℤ, zero, suc, ◌*◌, ◌==◌, nat_le, nat_lt, Bool, ◌&&◌, List, [], ◌∷◌, length, take, drop, Option, Some, None, if◌then◌else◌}
use Rattle.std.specs.List.{list_all}
use Rattle.std.specs.Int.{Width, w16, w32, w64, byte_len, from_be_bytes, cast_signed}
use Rattle.tab_key.specs.Names.{is_name_byte}
use Rattle.tab_key.specs.declared.name.TheConstants.{MAX_NAME_LEN}
use Rattle.tab_key.specs.declared.key.Kind.{Kind}
use Rattle.tab_key.specs.declared.key.Kind.TheVariants.{Delete, Put}
use Rattle.tab_key.specs.declared.range.Bound.{Bound}
use Rattle.tab_key.specs.declared.range.Bound.TheVariants.{Unbounded, Inclusive, Exclusive}
use Rattle.tab_key.specs.declared.range.Bounds.{Bounds}
use Rattle.tab_rules.specs.declared.constraint.Constraint.{Constraint}
use Rattle.tab_history.specs.Settings.{is_version_count}
use Rattle.tab_history.specs.declared.event.TimeMode.{TimeMode}
use Rattle.tab_history.specs.declared.event.TimeMode.TheVariants.{Any, Server}
use Rattle.tab_codec.specs.Parts.{constraints_in}

-- goes on with what was read, if something was
infixl 10 ◌>>=◌
abbrev pub ◌>>=◌ : {A B : Type 0} → Option A → (A → Option B) → Option B
None >>= f = None
(Some x) >>= f = f x

-- the value at the front, and the bytes behind it
abbrev pub Reader : Type 0 → Type 0
Reader A = List ℕ → Option (A × List ℕ)

-- one part, and then what it leads to
abbrev pub and_then : {A B : Type 0} → Reader A → (A → Reader B) → Reader B
and_then reads next bytes = reads bytes >>= λ x. next x.0 x.1

-- one part, changed
abbrev pub mapped : {A B : Type 0} → (A → B) → Reader A → Reader B
mapped f reads bytes = reads bytes >>= λ x. Some (f x.0, x.1)

-- one part, where something is picked by it
abbrev pub picked : {A B : Type 0} → (A → Option B) → Reader A → Reader B
picked pick reads bytes = reads bytes >>= λ x. pick x.0 >>= λ y. Some (y, x.1)

-- nothing
abbrev pub nothing_at : {A : Type 0} → Reader A
nothing_at bytes = None

-- this, without a byte
abbrev pub given : {A : Type 0} → A → Reader A
given x bytes = Some (x, bytes)

-- the value, where no byte is left
abbrev pub whole : {A : Type 0} → Option (A × List ℕ) → Option A
whole read = read >>= λ x. if length x.1 == 0 then Some x.0 else None

-- the value, where it passes the test
abbrev pub only_if : {A : Type 0} → (A → Bool) → A → Option A
only_if test x = if test x then Some x else None

-- ---- numbers, byte strings and names

abbrev pub u8_at : Reader ℕ
u8_at [] = None
u8_at (b ∷ bytes) = Some (b, bytes)

abbrev pub number_at : Width → Reader ℕ
number_at w bytes = if nat_lt (length bytes) (byte_len w) then None else Some (from_be_bytes w (take (byte_len w) bytes), drop (byte_len w) bytes)

unfoldable pub u16_at : Reader ℕ
u16_at = number_at w16

unfoldable pub u32_at : Reader ℕ
u32_at = number_at w32

unfoldable pub u64_at : Reader ℕ
u64_at = number_at w64

unfoldable pub i64_at : Reader ℤ
i64_at bytes = mapped (cast_signed w64) u64_at bytes

-- that many bytes
abbrev pub bytes_at : ℕ → Reader (List ℕ)
bytes_at n bytes = if nat_lt (length bytes) n then None else Some (take n bytes, drop n bytes)

unfoldable pub field_at : Reader (List ℕ)
field_at bytes = do
  n ← u32_at bytes
  bytes_at n.0 n.1

-- 1 to 128 bytes that a name may have
abbrev pub is_name : List ℕ → Bool
is_name bs = nat_lt 0 (length bs) && (nat_le (length bs) MAX_NAME_LEN && list_all is_name_byte bs)

unfoldable pub name_at : Reader (List ℕ)
name_at bytes = picked (only_if is_name) field_at bytes

-- ---- lists

-- that many parts
abbrev pub parts_at : {A : Type 0} → Reader A → ℕ → Reader (List A)
parts_at reads zero bytes = Some ([], bytes)
parts_at reads (suc n) bytes = do
  first ← reads bytes
  others ← parts_at reads n first.1
  Some (first.0 ∷ others.0, others.1)

-- That many parts of at least so many bytes each. A count that the rest can't hold is refused before a part is read.
abbrev pub parts_within : {A : Type 0} → ℕ → Reader A → ℕ → Reader (List A)
parts_within least reads n bytes = if nat_lt (length bytes) (n * least) then None else parts_at reads n bytes

-- a count, and that many parts
abbrev pub counted_at : {A : Type 0} → Reader ℕ → ℕ → Reader A → Reader (List A)
counted_at count least reads bytes = and_then count (λ n. parts_within least reads n) bytes

unfoldable pub list_at : Reader (List (List ℕ))
list_at bytes = counted_at u32_at 4 field_at bytes

-- ---- what a first byte decides

-- the first byte, and what it leads to
abbrev pub tagged : {A : Type 0} → (ℕ → Reader A) → Reader A
tagged next bytes = and_then u8_at next bytes

-- behind 0 nothing, behind 1 a part
abbrev pub optional_by : {A : Type 0} → Reader A → ℕ → Reader (Option A)
optional_by reads flag = if flag == 0 then given None else if flag == 1 then mapped (λ x. Some x) reads else nothing_at

abbrev pub optional_at : {A : Type 0} → Reader A → Reader (Option A)
optional_at reads bytes = tagged (optional_by reads) bytes

abbrev pub bound_by : ℕ → Reader Bound
bound_by flag = if flag == 0 then given Unbounded else if flag == 1 then mapped (λ row. Inclusive row) field_at else if flag == 2 then mapped (λ row. Exclusive row) field_at else nothing_at

unfoldable pub bound_at : Reader Bound
bound_at bytes = tagged bound_by bytes

unfoldable pub bounds_at : Reader Bounds
bounds_at bytes = do
  low ← bound_at bytes
  high ← bound_at low.1
  Some (record { low = low.0; high = high.0 }, high.1)

-- ---- kinds of records, and what tables are made with

abbrev pub kind_of : ℕ → Option Kind
kind_of b = if b == 0 then Some Delete else if b == 1 then Some Put else None

unfoldable pub kind_at : Reader Kind
kind_at bytes = picked kind_of u8_at bytes

abbrev pub time_of : ℕ → Option TimeMode
time_of b = if b == 0 then Some Any else if b == 1 then Some Server else None

unfoldable pub time_at : Reader TimeMode
time_at bytes = picked time_of u8_at bytes

unfoldable pub versions_at : Reader ℕ
versions_at bytes = picked (only_if is_version_count) u32_at bytes

-- the constraints of these bits
abbrev pub constraints_of : ℕ → Option (List Constraint)
constraints_of bits = if nat_lt bits 16 then Some (constraints_in bits) else None

unfoldable pub constraints_at : Reader (List Constraint)
constraints_at bytes = picked constraints_of u8_at bytes
