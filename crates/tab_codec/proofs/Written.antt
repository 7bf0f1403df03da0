-- Numbers, fields and names that fit are read as they are written.
use Rattle.std.proofs.Common.{ℕ, ℤ, ◌<◌, ◌≤◌, ◌^◌, List, length, FitsSigned, refl, sym, arith}
use Rattle.std.specs.Int.{w64, cast_unsigned}
use Rattle.std.proofs.Math.Facts.{Fits-of_z, Fits-lt-pow}
use Rattle.std.proofs.lemmas.Int.{to_z-of_z}
use Rattle.tab_key.specs.Names.{IsName}
use Rattle.tab_codec.specs.Parts.{IsU32, IsI64, IsField, IsNameField}
use Rattle.tab_codec.specs.Spelling.{u32, i64, field}

pub u32_written : (n : ℕ) → n < 2 ^ 32 → IsU32 (u32 n) n
unfolding u32
u32_written n low = (refl, low)

pub i64_written : (z : ℤ) → FitsSigned w64 z → IsI64 (i64 z) z
unfolding i64
i64_written z fits = (cast_unsigned w64 z, (refl, Fits-lt-pow (Fits-of_z {w = w64} {z = z} fits)), sym (to_z-of_z w64 z fits))

pub field_written : (text : List ℕ) → length text < 2 ^ 32 → IsField (field text) text
unfolding u32
field_written text low = (refl, low)

pub name_written : (name : List ℕ) → IsName name → IsNameField (field name) name
name_written name is = let short : length name ≤ 128 = is.1 in (field_written name (omega (arith, short)), is)
