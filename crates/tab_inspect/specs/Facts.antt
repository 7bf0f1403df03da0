-- To be believed by whoever relies on it. What a person is shown of an image: one fact a line.
use Rattle.std.specs.Prelude.{ℕ, ◌+◌, ◌-◌, ◌^◌, List, [], ◌∷◌, ◌++◌, length, codes, cond, min}
use Rattle.std.specs.List.{flat_map, fold}
use Rattle.std.specs.Fmt.{decimal, signed_decimal}
use Rattle.tab_key.specs.Records.{Record}
use Rattle.tab_key.specs.declared.key.Kind.{Kind}
use Rattle.tab_key.specs.declared.key.Kind.TheVariants.{Put, Delete}
use Rattle.tab_rules.specs.Constraints.{constraint_name}
use Rattle.tab_policy.specs.Permissions.{system_name, table_name}
use Rattle.tab_text.specs.Words.{word}
use Rattle.tab_text.specs.Lines.{line_text}
use Rattle.tab_lines.specs.Forms.{time_name}
use Rattle.tab_audit.specs.Words.{part_word, list_word, versions_word}
use Rattle.tab_image.specs.declared.image.Image.{Image}
use Rattle.tab_walk.specs.Texts.{Texts}
use Rattle.tab_walk.specs.Walks.{user_text, table_text}
use Rattle.tab_walk.specs.declared.rights.ToldRights.TheVariants.{All}
use Rattle.tab_walk.specs.declared.users.UserPart.{UserPart}
use Rattle.tab_walk.specs.declared.users.UserPart.TheVariants as user
use Rattle.tab_walk.specs.declared.tables.TablePart.{TablePart}
use Rattle.tab_walk.specs.declared.tables.TablePart.TheVariants as table
use Rattle.tab_inspect.specs.declared.tally.RecordCounts.{RecordCounts}

-- texts, one after another
abbrev pub joined : List (List ℕ) → List ℕ
joined = flat_map (λ text. text)

-- ---- counts
-- the sum of two counts, or the greatest number of 64 bits where that is less
abbrev pub added : ℕ → ℕ → ℕ
added m n = min (m + n) (2 ^ 64 - 1)

-- one more record of this kind
abbrev pub counted : Kind → RecordCounts → RecordCounts
counted Put t = record t { puts = added t.puts 1 }
counted Delete t = record t { deletes = added t.deletes 1 }

-- .. with the bytes of its row, family, qualifier and label, and those of its value
abbrev pub tallied : RecordCounts → Record → RecordCounts
tallied t r = counted r.kind (record t {
  key_bytes = added t.key_bytes (length (r.key.row ++ r.key.family ++ r.key.qualifier ++ r.key.label));
  value_bytes = added t.value_bytes (length r.value);
})

-- nothing is counted yet
abbrev pub nothing_counted : RecordCounts
nothing_counted = record { puts = 0; deletes = 0; key_bytes = 0; value_bytes = 0 }

-- all records
abbrev pub tally_of : List Record → RecordCounts
tally_of rs = fold tallied nothing_counted rs

-- its records
abbrev pub tally_fact : List ℕ → ℕ → RecordCounts → List ℕ
tally_fact name many t = line_text (
    codes "table" ∷ word name ∷ codes "records" ∷ decimal many ∷ codes "puts" ∷ decimal t.puts ∷ codes "deletes" ∷ decimal t.deletes
    ∷ codes "key-bytes" ∷ decimal t.key_bytes ∷ codes "value-bytes" ∷ decimal t.value_bytes ∷ [])

-- ---- each thing
-- a permission on a table is told where it is held
abbrev pub facts : Texts
facts = record {
  user = λ name. line_text (codes "user" ∷ word name ∷ []);
  authorizations = λ name auths. line_text (codes "user" ∷ word name ∷ codes "authorizations" ∷ list_word part_word auths ∷ []);
  system = λ name p. line_text (codes "user" ∷ word name ∷ codes "system" ∷ system_name p ∷ []);
  table = λ h. line_text (codes "table" ∷ word h.name ∷ time_name h.time ∷ versions_word h.versions ∷ []);
  constraints = λ h. line_text (codes "table" ∷ word h.name ∷ codes "constraints" ∷ list_word constraint_name h.constraints ∷ []);
  horizon = λ name low. line_text (codes "table" ∷ word name ∷ codes "horizon" ∷ signed_decimal low ∷ []);
  split = λ name row. line_text (codes "table" ∷ word name ∷ codes "split" ∷ word row ∷ []);
  right = λ name holder p held. cond held (line_text (codes "table" ∷ word name ∷ codes "right" ∷ word holder ∷ table_name p ∷ [])) [];
  records = λ t. tally_fact t.head.name (length t.records) (tally_of t.records);
}

-- ---- the whole
-- of a user: who he is, what he may do, and his authorizations
abbrev pub user_parts : List UserPart
user_parts = user.Named ∷ user.System ∷ user.Authorized ∷ []

-- of a table: how it was made, its constraints, its horizon, who may what on it, where it is split, and what it holds
abbrev pub table_parts : List TablePart
table_parts = table.Created ∷ table.Constrained ∷ table.Bounded ∷ table.Held All ∷ table.Split ∷ table.Filled ∷ []

-- the clock, the number of the next mutation, and all users and tables
unfoldable pub image_facts : Image → List ℕ
image_facts i = joined (
    line_text (codes "clock" ∷ signed_decimal i.clock ∷ [])
    ∷ line_text (codes "next" ∷ decimal i.next ∷ [])
    ∷ line_text (codes "users" ∷ decimal (length i.users) ∷ [])
    ∷ flat_map (user_text facts user_parts) i.users
    ∷ line_text (codes "tables" ∷ decimal (length i.tables) ∷ [])
    ∷ flat_map (table_text facts table_parts) i.tables
    ∷ [])
