-- For proofs. The values that a frame is put of.
use Rattle.std.specs.Prelude.{ℕ, List, [], ◌∷◌, ◌++◌, length}
use Rattle.std.specs.List.{flat_map}
use Rattle.tab_label.specs.Sets.{byte_lists}
use Rattle.tab_wire.specs.declared.value.Value.{Value}
use Rattle.tab_wire.specs.declared.value.Value.TheVariants.{Byte, Number, Long, Signed, Field, Terms, Violations}
use Rattle.tab_wire.specs.Replies.{u32, u64, i64, field, list, violation_bytes}

-- the bytes of a value
abbrev pub value_bytes : Value → List ℕ
value_bytes (Byte b) = b ∷ []
value_bytes (Number n) = u32 n
value_bytes (Long n) = u64 n
value_bytes (Signed z) = i64 z
value_bytes (Field text) = field text.now
value_bytes (Terms terms) = list (byte_lists terms.now)
value_bytes (Violations violations) = u32 (length violations.now) ++ flat_map violation_bytes violations.now

-- one after another
abbrev pub joined : List (List ℕ) → List ℕ
joined [] = []
joined (v ∷ []) = v
joined (v ∷ w ∷ vs) = v ++ joined (w ∷ vs)
