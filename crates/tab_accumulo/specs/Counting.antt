-- To be believed by whoever relies on it. How many things of an image are left out: users and tables whole, authorizations of a user, settings of a
-- table, and records.
use Rattle.std.specs.Prelude.{ℕ, ◌==◌, ◌+◌, ◌-◌, ◌^◌, ◌&&◌, min, not, Bool, length, sum_by, bytes_eq, cond, is_some, int_lt}
use Rattle.tab_key.specs.Records.{Record}
use Rattle.tab_policy.specs.Roots.{root}
use Rattle.tab_history.specs.Settings.{least, takes_timestamps}
use Rattle.tab_image.specs.declared.user.ImageUser.{ImageUser}
use Rattle.tab_image.specs.declared.table.TableHead.{TableHead}
use Rattle.tab_image.specs.declared.table.ImageTable.{ImageTable}
use Rattle.tab_image.specs.declared.image.Image.{Image}
use Rattle.tab_accumulo.specs.Carried.{is_option_word, is_table_name, terms_obstacle}

-- one where it holds
abbrev pub one_if : Bool → ℕ
one_if holds = cond holds 1 0

-- a user or their authorizations; of root those, if there are any
abbrev pub left_of_user : ImageUser → ℕ
left_of_user u = cond (bytes_eq u.name root && (length u.authorizations == 0)) 0 (one_if (is_some (terms_obstacle u.name u.authorizations)))

-- a table's settings: that it gives its timestamps, or a horizon above the least one
abbrev pub left_settings : TableHead → ℕ
left_settings h = one_if (not (takes_timestamps h.time)) + one_if (int_lt least h.horizon)

-- a record whose label would be another
abbrev pub left_of_record : Record → ℕ
left_of_record r = one_if (not (is_option_word r.key.label))

-- a table, or settings and records of it
abbrev pub left_of_table : ImageTable → ℕ
left_of_table t = cond (is_table_name t.head.name) (left_settings t.head + sum_by left_of_record t.records) 1

unfoldable pub left_out : Image → ℕ
left_out i = sum_by left_of_user i.users + sum_by left_of_table i.tables

-- a number as the code has it: the greatest one stands for all that are greater
abbrev pub capped : ℕ → ℕ
capped number = min number (2 ^ 64 - 1)
