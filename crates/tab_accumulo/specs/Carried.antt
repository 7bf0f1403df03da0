-- To be believed by whoever relies on it. Which words go over exactly, and what keeps a line from going over.
use Rattle.std.specs.Prelude.{ℕ, ◌==◌, ◌&&◌, ◌||◌, ◌-◌, not, nat_lt, Bool, List, Option, Some, None, length, slice_index, bytes_eq, cond, codes}
use Rattle.std.specs.List.{list_all}
use Rattle.std.specs.Char.{is_ascii_alphanumeric}
use Rattle.tab_policy.specs.Roots.{root}
use Rattle.tab_accumulo.specs.declared.obstacle.Obstacle.{Obstacle}
use Rattle.tab_accumulo.specs.declared.obstacle.Obstacle.TheVariants.{UserName, Root, Terms, TableName, Setting, Label, Within}

-- ---- words
-- the first byte and the last one, 0 where there is none
abbrev pub first : List ℕ → ℕ
first word = slice_index word 0

abbrev pub last : List ℕ → ℕ
last word = slice_index word (length word - 1)

-- an option's word: bytes below 128, since others are put in UTF-8; not what may be an option itself; and no quote that may be taken off
abbrev pub is_option_word : List ℕ → Bool
is_option_word word = list_all (λ b. nat_lt b 128) word && (not (first word == 45) && (not (first word == 34) && not (last word == 34)))

-- an authorization: an option's word without a comma, which would part it, and without a byte up to a space at an end, which would be cut off;
-- not the empty one
abbrev pub is_term_word : List ℕ → Bool
is_term_word term = is_option_word term && (list_all (λ b. not (b == 44)) term && (nat_lt 32 (first term) && nat_lt 32 (last term)))

-- a user's name: one that begins with `-` may be an option, and `.` and `..` are none
abbrev pub is_user_name : List ℕ → Bool
is_user_name name = not (first name == 45 || first name == 46)

-- a table's name: letters, digits and `_`; what stands before a dot would be a namespace
abbrev pub is_table_name : List ℕ → Bool
is_table_name = list_all (λ b. is_ascii_alphanumeric b || b == 95)

-- ---- what keeps a line from going over, if anything does
abbrev pub name_obstacle : List ℕ → Option Obstacle
name_obstacle name = cond (is_user_name name) None (Some UserName)

-- of a line about a user, who is left out or not
abbrev pub user_obstacle : List ℕ → Option Obstacle
user_obstacle name = cond (is_user_name name) None (Some Within)

-- root's are never set: the cluster's root has its own
abbrev pub terms_obstacle : List ℕ → List (List ℕ) → Option Obstacle
terms_obstacle name auths = cond (bytes_eq name root) (Some Root) (cond (is_user_name name) (cond (list_all is_term_word auths) None (Some Terms)) (Some Within))

abbrev pub table_obstacle : Bool → Option Obstacle
table_obstacle is_made = cond is_made None (Some TableName)

-- of a line that goes to a table, which is left out or not
abbrev pub in_table : Bool → Option Obstacle → Option Obstacle
in_table is_made other = cond is_made other (Some Within)

abbrev pub label_obstacle : List ℕ → Option Obstacle
label_obstacle label = cond (is_option_word label) None (Some Label)

-- what stands before a line that is left out, so that it is a comment: why, or nothing more where the user or the table is left out
abbrev pub lead : Obstacle → List ℕ
lead UserName = codes "# left out, no user can have this name: "
lead Root = codes "# left out, root is somebody else there: "
lead Terms = codes "# left out, other authorizations would be set: "
lead TableName = codes "# left out, no table can have this name: "
lead Setting = codes "# left out, there is no such setting: "
lead Label = codes "# left out, its label would be another: "
lead Within = codes "# "
