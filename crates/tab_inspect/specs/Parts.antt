-- For proofs. The parts of what is shown, in the code.
use Rattle.std.specs.Prelude.{ℕ, List, [], ◌∷◌, length, codes}
use Rattle.std.specs.List.{flat_map}
use Rattle.std.specs.Fmt.{decimal, signed_decimal}
use Rattle.tab_text.specs.Lines.{line_text}
use Rattle.tab_walk.specs.Walks.{user_text, table_text}
use Rattle.tab_inspect.specs.Facts.{facts, user_parts, table_parts}
use Rattle.tab_inspect.specs.declared.image.ImagePart.{ImagePart}
use Rattle.tab_inspect.specs.declared.image.ImagePart.TheVariants.{Clock, Next, UserCount, Users, TableCount, Tables}

abbrev pub image_part : ImagePart → List ℕ
image_part (Clock i) = line_text (codes "clock" ∷ signed_decimal i.now.clock ∷ [])
image_part (Next i) = line_text (codes "next" ∷ decimal i.now.next ∷ [])
image_part (UserCount i) = line_text (codes "users" ∷ decimal (length i.now.users) ∷ [])
image_part (Users i) = flat_map (user_text facts user_parts) i.now.users
image_part (TableCount i) = line_text (codes "tables" ∷ decimal (length i.now.tables) ∷ [])
image_part (Tables i) = flat_map (table_text facts table_parts) i.now.tables
