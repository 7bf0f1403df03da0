-- For proofs. When a reader takes exactly what a relation says, and the law that the readers of parts do.
use Rattle.std.specs.Prelude.{ℕ, ◌≡◌, List, ◌++◌, Some}
use Rattle.tab_codec.specs.Parts.{IsBytes, IsByte, IsU16, IsU32, IsU64, IsI64, IsField, IsNameField, IsList, IsBound, IsBounds, IsKind, IsTime, IsVersions, IsConstraints}
use Rattle.tab_codec.specs.Reading.{Reader, u8_at, u16_at, u32_at, u64_at, i64_at, field_at, name_at, list_at, bound_at, bounds_at, kind_at, time_at, versions_at, constraints_at}

-- What was taken from the front of some bytes: it is spelled as the relation says, and stands there before the rest.
pub record Takes {A : Type 0} (Says : List ℕ → A → Type 0) (bytes : List ℕ) (x : A) (rest : List ℕ) : Type 0 where
  pub front : List ℕ
  pub parts : bytes ≡ front ++ rest
  pub says : Says front x
  pub fits : IsBytes rest

-- What a reader takes is spelled as the relation says, and what is spelled so is taken, whatever follows it.
pub record Exact {A : Type 0} (reads : Reader A) (Says : List ℕ → A → Type 0) : Type 0 where
  pub sound : (bytes : List ℕ) (x : A) (rest : List ℕ) → IsBytes bytes → reads bytes ≡ Some (x, rest) → Takes Says bytes x rest
  pub complete : (front rest : List ℕ) (x : A) → Says front x → reads (front ++ rest) ≡ Some (x, rest)

-- ---- The law: each part is read exactly where it stands.
pub record PartsAreExact : Type 0 where
  pub byte : Exact u8_at IsByte
  pub u16 : Exact u16_at IsU16
  pub u32 : Exact u32_at IsU32
  pub u64 : Exact u64_at IsU64
  pub i64 : Exact i64_at IsI64
  pub field : Exact field_at IsField
  pub name : Exact name_at IsNameField
  pub list : Exact list_at IsList
  pub bound : Exact bound_at IsBound
  pub bounds : Exact bounds_at IsBounds
  pub kind : Exact kind_at IsKind
  pub time : Exact time_at IsTime
  pub versions : Exact versions_at IsVersions
  pub constraints : Exact constraints_at IsConstraints
