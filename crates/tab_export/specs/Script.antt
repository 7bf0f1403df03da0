-- To be believed by whoever relies on it. The lines of a script that make what an image says.
use Rattle.std.specs.Prelude.{ℕ, ℤ, List, [], ◌∷◌, ◌++◌, Option, Some, None, reverse, codes, cond}
use Rattle.std.specs.List.{flat_map}
use Rattle.std.specs.Fmt.{signed_decimal}
use Rattle.tab_key.specs.Records.{Record}
use Rattle.tab_mutation.specs.Mutations.{Update}
use Rattle.tab_policy.specs.declared.permission.Permission.TheVariants.{OfSystem, OfTable}
use Rattle.tab_history.specs.Settings.{least}
use Rattle.tab_history.specs.declared.event.Act.{Act}
use Rattle.tab_history.specs.declared.event.Act.TheVariants.{Write, CreateTable, SetConstraints, SetHorizon, CreateUser, SetAuths, Grant, Revoke, AddSplit, Rotate}
use Rattle.tab_history.specs.declared.event.TimeMode.{TimeMode}
use Rattle.tab_history.specs.declared.event.TimeMode.TheVariants.{Any, Server}
use Rattle.tab_text.specs.Lines.{line_text}
use Rattle.tab_audit.specs.Words.{act_words}
use Rattle.tab_image.specs.declared.image.Image.{Image}
use Rattle.tab_walk.specs.Texts.{Texts}
use Rattle.tab_walk.specs.Walks.{user_text, table_text}
use Rattle.tab_walk.specs.declared.rights.ToldRights.TheVariants.{Changed}
use Rattle.tab_walk.specs.declared.users.UserPart.{UserPart}
use Rattle.tab_walk.specs.declared.users.UserPart.TheVariants as user
use Rattle.tab_walk.specs.declared.tables.TablePart.{TablePart}
use Rattle.tab_walk.specs.declared.tables.TablePart.TheVariants as table
use Rattle.tab_export.specs.Places.{Place}

-- ---- lines
-- the line that asks for this
abbrev pub act_text : Act → List ℕ
act_text act = line_text (act_words act)

-- the line that gives later ones their moment
unfoldable pub at_text : ℤ → List ℕ
at_text moment = line_text (codes "at" ∷ signed_decimal moment ∷ [])

-- texts, one after another
abbrev pub joined : List (List ℕ) → List ℕ
joined = flat_map (λ text. text)

-- ---- records
-- the update that a record is of, with this timestamp
abbrev pub update_of : Option ℤ → Record → Update
update_of at r = record { kind = r.kind; family = r.key.family; qualifier = r.key.qualifier; label = r.key.label; timestamp = at; value = r.value }

-- its row gets this update alone
unfoldable pub record_text : List ℕ → Option ℤ → Record → List ℕ
record_text table at r = act_text (Write table (record { row = r.key.row; updates = update_of at r ∷ [] }))

-- .. with the timestamp that it has
abbrev pub given_text : List ℕ → Record → List ℕ
given_text table r = record_text table (Some r.key.timestamp) r

-- .. or at a moment that gives it
unfoldable pub placed_text : Place → List ℕ
placed_text p = at_text p.held.key.timestamp ++ record_text p.table None p.held

-- The records of a table that takes timestamps: the last one first, so that of those of one key the older one is written before the newer one.
abbrev pub records_text : TimeMode → List ℕ → List Record → List ℕ
records_text Any table rs = flat_map (given_text table) (reverse rs)
records_text Server table rs = []

-- ---- each thing
-- a permission on a table is granted or revoked
abbrev pub script : Texts
script = record {
  user = λ name. act_text (CreateUser name);
  authorizations = λ name auths. act_text (SetAuths name auths);
  system = λ name p. act_text (Grant name (OfSystem p));
  table = λ h. act_text (CreateTable h.name h.time h.versions);
  constraints = λ h. act_text (SetConstraints h.name h.constraints);
  horizon = λ name low. act_text (SetHorizon name low);
  split = λ name row. act_text (AddSplit name row);
  right = λ name holder p held. cond held (act_text (Grant holder (OfTable p name))) (act_text (Revoke holder (OfTable p name)));
  records = λ t. records_text t.head.time t.head.name t.records;
}

-- ---- the whole
-- a user is made, gets his authorizations, and his system permissions
abbrev pub user_parts : List UserPart
user_parts = user.Created ∷ user.Authorized ∷ user.Granted ∷ []

-- a table is made, split, and filled where it takes timestamps
abbrev pub table_parts : List TablePart
table_parts = table.Created ∷ table.Split ∷ table.Filled ∷ []

-- behind all records: its constraints, its horizon, and who may what on it
abbrev pub setting_parts : List TablePart
setting_parts = table.Constrained ∷ table.Bounded ∷ table.Unheld ∷ table.Held Changed ∷ []

-- Users and tables are made at the least moment, and what writers gave a timestamp is written. Then come the records of tables that give the
-- timestamps, in this order, each at its own moment. Behind them all is set that would refuse some of them, and at last the clock.
unfoldable pub script_text : List Place → Image → List ℕ
script_text order i = joined (at_text least ∷ flat_map (user_text script user_parts) i.users ∷ flat_map (table_text script table_parts) i.tables ∷ flat_map placed_text order ∷ flat_map (table_text script setting_parts) i.tables ∷ at_text i.clock ∷ act_text Rotate ∷ [])
