-- For proofs. The parts of a script, in the code.
use Rattle.std.specs.Prelude.{ℕ, List}
use Rattle.std.specs.List.{flat_map}
use Rattle.tab_history.specs.declared.event.Act.TheVariants.{Rotate}
use Rattle.tab_walk.specs.Walks.{user_text, table_text}
use Rattle.tab_export.specs.Script.{act_text, at_text, placed_text, script, user_parts, table_parts, setting_parts}
use Rattle.tab_export.specs.declared.script.ScriptPart.{ScriptPart}
use Rattle.tab_export.specs.declared.script.ScriptPart.TheVariants as part

abbrev pub script_part : ScriptPart → List ℕ
script_part (part.At moment) = at_text moment
script_part (part.Users i) = flat_map (user_text script user_parts) i.now.users
script_part (part.Tables i) = flat_map (table_text script table_parts) i.now.tables
script_part (part.Placed order) = flat_map placed_text order.now
script_part (part.Settings i) = flat_map (table_text script setting_parts) i.now.tables
script_part part.Last = act_text Rotate
