-- For proofs. What the first byte of a record's body says.
use Rattle.std.specs.Prelude.{ℕ, ◌==◌, nat_le, Bool, false, ◌&&◌, ◌||◌, List, [], ◌∷◌}

-- whether the opcode is one of an act that leaves something
abbrev pub begins_lasting : List ℕ → Bool
begins_lasting [] = false
begins_lasting (op ∷ fields) = (nat_le 2 op && nat_le op 10) || op == 17 || op == 21 || op == 22
