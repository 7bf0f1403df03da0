-- Opcodes by their bytes.
use Rattle.std.proofs.Common.{◌≡◌, ℕ, zero, suc, ◌-◌, ◌<◌, ap, arith}
use Rattle.std.specs.Prelude.{slice_get}
use Rattle.tab_wire.specs.Requests.{all_opcodes, opcode_of}

-- behind 0 they stand in their order
pub in_order : (byte place : ℕ) → 0 < byte → place ≡ byte - 1 → slice_get all_opcodes place ≡ opcode_of byte
in_order zero place some is = absurd (omega (arith, some))
in_order (suc n) place some is = let e : place ≡ n = omega (arith, is) in ap (slice_get all_opcodes) e
