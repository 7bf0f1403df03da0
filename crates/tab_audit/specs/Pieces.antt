-- For proofs. The text of one word, in the code.
use Rattle.std.specs.Prelude.{ℕ, List}
use Rattle.std.specs.Fmt.{decimal, signed_decimal}
use Rattle.tab_rules.specs.Constraints.{constraint_name}
use Rattle.tab_text.specs.Words.{word}
use Rattle.tab_audit.specs.Words.{part_word, list_word, bound_word, column_word, timestamp_word, versions_word}
use Rattle.tab_audit.specs.declared.piece.Piece.{Piece}
use Rattle.tab_audit.specs.declared.piece.Piece.TheVariants.{Text, Bytes, Number, Signed, Timestamp, Versions, Terms, Constraints, Columns, End}

-- the text of one word
abbrev pub piece_text : Piece → List ℕ
piece_text (Text text) = text.now
piece_text (Bytes bytes) = word bytes.now
piece_text (Number number) = decimal number
piece_text (Signed number) = signed_decimal number
piece_text (Timestamp timestamp) = timestamp_word timestamp
piece_text (Versions many) = versions_word many
piece_text (Terms auths) = list_word part_word auths.now
piece_text (Constraints set) = list_word constraint_name set.now
piece_text (Columns columns) = list_word column_word columns.now
piece_text (End bound) = bound_word bound.now
