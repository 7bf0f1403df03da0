-- To be believed by whoever relies on it. The lines of Accumulo's shell that make what an image says.
use Rattle.std.specs.Prelude.{ℕ, ◌==◌, ◌&&◌, Bool, List, [], ◌∷◌, ◌++◌, Option, Some, None, reverse, length, bytes_eq, codes, cond}
use Rattle.std.specs.List.{flat_map}
use Rattle.std.specs.Fmt.{signed_decimal}
use Rattle.tab_key.specs.Records.{Record}
use Rattle.tab_key.specs.declared.key.Kind.{Kind}
use Rattle.tab_key.specs.declared.key.Kind.TheVariants.{Put, Delete}
use Rattle.tab_rules.specs.Constraints.{is_set}
use Rattle.tab_rules.specs.declared.constraint.Constraint.{Constraint}
use Rattle.tab_rules.specs.declared.constraint.Constraint.TheVariants.{KeySize, Alphanumeric, Numeric, Visibility}
use Rattle.tab_policy.specs.Permissions.{system_name, table_name}
use Rattle.tab_policy.specs.Roots.{root}
use Rattle.tab_policy.specs.declared.permission.TablePermission.{TablePermission}
use Rattle.tab_history.specs.Settings.{takes_timestamps}
use Rattle.tab_text.specs.Lines.{line_text}
use Rattle.tab_image.specs.declared.table.TableHead.{TableHead}
use Rattle.tab_image.specs.declared.image.Image.{Image}
use Rattle.tab_walk.specs.Texts.{Texts}
use Rattle.tab_walk.specs.Walks.{user_text, table_text}
use Rattle.tab_walk.specs.declared.rights.ToldRights.TheVariants.{Changed}
use Rattle.tab_walk.specs.declared.users.UserPart.{UserPart}
use Rattle.tab_walk.specs.declared.users.UserPart.TheVariants as user
use Rattle.tab_walk.specs.declared.tables.TablePart.{TablePart}
use Rattle.tab_walk.specs.declared.tables.TablePart.TheVariants as table
use Rattle.tab_accumulo.specs.declared.obstacle.Obstacle.{Obstacle}
use Rattle.tab_accumulo.specs.declared.obstacle.Obstacle.TheVariants.{Setting}
use Rattle.tab_accumulo.specs.Words.{quoted, listed, term_bytes, versions_word}
use Rattle.tab_accumulo.specs.Carried.{is_table_name, name_obstacle, user_obstacle, terms_obstacle, table_obstacle, in_table, label_obstacle, lead}

-- ---- a line of these words; where something keeps it from going over, a comment
abbrev pub told : Option Obstacle → List (List ℕ) → List ℕ
told None words = line_text words
told (Some o) words = lead o ++ line_text words

-- ---- records
abbrev pub kind_words : Kind → Record → List (List ℕ)
kind_words Put r = codes "insert" ∷ codes "-l" ∷ quoted r.key.label ∷ codes "-ts" ∷ signed_decimal r.key.timestamp ∷ codes "--"
    ∷ quoted r.key.row ∷ quoted r.key.family ∷ quoted r.key.qualifier ∷ quoted r.value ∷ []
kind_words Delete r = codes "delete" ∷ codes "-l" ∷ quoted r.key.label ∷ codes "-ts" ∷ signed_decimal r.key.timestamp ∷ codes "--"
    ∷ quoted r.key.row ∷ quoted r.key.family ∷ quoted r.key.qualifier ∷ []

unfoldable pub record_text : Bool → Record → List ℕ
record_text is_made r = told (in_table is_made (label_obstacle r.key.label)) (kind_words r.kind r)

-- ---- the authorizations of a user: of root's nothing where there are none
abbrev pub terms_text : List ℕ → List (List ℕ) → List ℕ
terms_text name auths = cond (bytes_eq name root && (length auths == 0)) [] (told (terms_obstacle name auths) (codes "setauths" ∷ codes "-u" ∷ name ∷ listed term_bytes auths ∷ []))

-- ---- a table, by the context of the shell, not by its name: where it can't be made, there is none, and no line behind it goes to another one
-- out of the table before
abbrev pub leaving_text : List ℕ
leaving_text = told None (codes "notable" ∷ [])

-- into the new one, once it is made; it shows as many versions from the first
abbrev pub creating_text : TableHead → List ℕ
creating_text h = told (table_obstacle (is_table_name h.name)) (codes "createtable" ∷ h.name ∷ codes "-prop" ∷ versions_word h.versions ∷ [])

-- a new table has the first constraint
abbrev pub bare_text : TableHead → List ℕ
bare_text h = told (in_table (is_table_name h.name) None) (codes "constraint" ∷ codes "-d" ∷ codes "1" ∷ [])

-- each table takes timestamps there
abbrev pub time_text : TableHead → List ℕ
time_text h = cond (takes_timestamps h.time) [] (told (in_table (is_table_name h.name) (Some Setting)) (codes "time" ∷ codes "server" ∷ []))

-- the class that does what the constraint does
abbrev pub class_name : Constraint → List ℕ
class_name KeySize = codes "org.apache.accumulo.core.data.constraints.DefaultKeySizeConstraint"
class_name Alphanumeric = codes "org.apache.accumulo.examples.constraints.AlphaNumKeyConstraint"
class_name Numeric = codes "org.apache.accumulo.examples.constraints.NumericValueConstraint"
class_name Visibility = codes "org.apache.accumulo.core.data.constraints.VisibilityConstraint"

abbrev pub all_constraints : List Constraint
all_constraints = KeySize ∷ Alphanumeric ∷ Numeric ∷ Visibility ∷ []

abbrev pub constraint_text : TableHead → Constraint → List ℕ
constraint_text h c = cond (is_set h.constraints c) (told (in_table (is_table_name h.name) None) (codes "constraint" ∷ codes "-a" ∷ class_name c ∷ [])) []

-- a permission on the table is given or taken
abbrev pub permission_text : List ℕ → List ℕ → List ℕ → TablePermission → List ℕ
permission_text command name holder p = told (in_table (is_table_name name) (user_obstacle holder)) (command ∷ (codes "Table" ++ 46 ∷ table_name p) ∷ codes "-u" ∷ holder ∷ [])

-- ---- each thing: records of one key go from the older one to the newer one
abbrev pub shell : Texts
shell = record {
  user = λ name. told (name_obstacle name) (codes "createuser" ∷ name ∷ []);
  authorizations = terms_text;
  system = λ name p. told (user_obstacle name) (codes "grant" ∷ (codes "System" ++ 46 ∷ system_name p) ∷ codes "-s" ∷ codes "-u" ∷ name ∷ []);
  table = λ h. leaving_text ++ (creating_text h ++ (bare_text h ++ time_text h));
  constraints = λ h. flat_map (constraint_text h) all_constraints;
  horizon = λ name low. told (in_table (is_table_name name) (Some Setting)) (codes "horizon" ∷ signed_decimal low ∷ []);
  split = λ name row. told (in_table (is_table_name name) None) (codes "addsplits" ∷ codes "--" ∷ quoted row ∷ []);
  right = λ name holder p held. cond held (permission_text (codes "grant") name holder p) (permission_text (codes "revoke") name holder p);
  records = λ x. flat_map (record_text (is_table_name x.head.name)) (reverse x.records);
}

-- ---- the whole
-- a user is made, gets their authorizations, and their system permissions
abbrev pub user_parts : List UserPart
user_parts = user.Created ∷ user.Authorized ∷ user.Granted ∷ []

-- a table is made, set and split; its records are written; and then comes what would refuse some of them
abbrev pub table_parts : List TablePart
table_parts = table.Created ∷ table.Split ∷ table.Filled ∷ table.Constrained ∷ table.Bounded ∷ table.Unheld ∷ table.Held Changed ∷ []

unfoldable pub shell_text : Image → List ℕ
shell_text i = flat_map (user_text shell user_parts) i.users ++ flat_map (table_text shell table_parts) i.tables
