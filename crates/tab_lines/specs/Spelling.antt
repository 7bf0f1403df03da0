-- For proofs. The bytes that a word spells, in the code.
use Rattle.std.specs.Prelude.{ℕ, List}
use Rattle.tab_lines.specs.declared.spelling.Spelled.{Spelled}
use Rattle.tab_lines.specs.declared.spelling.Spelled.TheVariants.{Plain, Decoded}

-- the bytes, wherever they lie
abbrev pub bytes_spelled : Spelled → List ℕ
bytes_spelled (Plain text) = text.now
bytes_spelled (Decoded bytes) = bytes.items
