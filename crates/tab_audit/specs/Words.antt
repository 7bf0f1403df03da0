-- To be believed by whoever relies on it. Which words are written for an act.
use Rattle.std.specs.Prelude.{ℕ, ℤ, ◌==◌, List, [], ◌∷◌, ◌++◌, codes, Option, Some, None, if◌then◌else◌}
use Rattle.std.specs.List.{flat_map}
use Rattle.std.specs.Fmt.{decimal, signed_decimal}
use Rattle.tab_key.specs.declared.key.Kind.TheVariants.{Put, Delete}
use Rattle.tab_key.specs.declared.key.Kind.{Kind}
use Rattle.tab_key.specs.declared.range.Bound.{Bound}
use Rattle.tab_key.specs.declared.range.Bound.TheVariants.{Unbounded, Inclusive, Exclusive}
use Rattle.tab_key.specs.declared.column.Column.{Column}
use Rattle.tab_key.specs.declared.column.Column.TheVariants.{Family, Qualified}
use Rattle.tab_mutation.specs.Mutations.{Update}
use Rattle.tab_rules.specs.Constraints.{constraint_name}
use Rattle.tab_policy.specs.Permissions.{system_name, table_name}
use Rattle.tab_policy.specs.declared.permission.Permission.{Permission}
use Rattle.tab_policy.specs.declared.permission.Permission.TheVariants.{OfSystem, OfTable}
use Rattle.tab_history.specs.declared.event.Act.{Act}
use Rattle.tab_history.specs.declared.event.Act.TheVariants.{Open, Write, CreateTable, DropTable, SetConstraints, SetVersions, SetHorizon, CreateUser, DropUser, SetAuths, Grant, Revoke, Rights, Status, Flush, Compact, AddSplit, SplitBySize, Splits, Save, Load, Rotate, Begin, Install}
use Rattle.tab_history.specs.declared.event.Given.{Given}
use Rattle.tab_history.specs.declared.event.Given.TheVariants.{InSlot, ByHand}
use Rattle.tab_text.specs.Words.{word, empty_word}
use Rattle.tab_lines.specs.Forms.{time_name, extent_name, compaction_name}

-- a byte of a part: commas and colons, which part a word, are escaped too
abbrev pub part_byte : ℕ → List ℕ
part_byte b = if b == 44 then codes "\\x2c" else if b == 58 then codes "\\x3a" else word (b ∷ [])

-- a part of a list or a column
abbrev pub part_word : List ℕ → List ℕ
part_word [] = empty_word
part_word (b ∷ bs) = flat_map part_byte (b ∷ bs)

-- a list: what stands for each member, between commas
abbrev pub list_word : {A : Type 0} → (A → List ℕ) → List A → List ℕ
list_word f [] = codes "\\0"
list_word f (x ∷ xs) = f x ++ flat_map (λ y. 44 ∷ f y) xs

-- an end of a range
abbrev pub bound_word : Bound → List ℕ
bound_word Unbounded = codes "\\0"
bound_word (Inclusive row) = 91 ∷ word row
bound_word (Exclusive row) = 40 ∷ word row

-- a column
abbrev pub column_word : Column → List ℕ
column_word (Family family) = part_word family
column_word (Qualified family qualifier) = part_word family ++ 58 ∷ part_word qualifier

-- how many versions a new table shows
abbrev pub versions_word : ℕ → List ℕ
versions_word n = codes "versions=" ++ decimal n

-- a timestamp, or none
abbrev pub timestamp_word : Option ℤ → List ℕ
timestamp_word None = codes "-"
timestamp_word (Some timestamp) = signed_decimal timestamp

-- a permission
abbrev pub right_words : Permission → List (List ℕ)
right_words (OfSystem permission) = system_name permission ∷ []
right_words (OfTable permission table) = table_name permission ∷ word table ∷ []

-- an update of this kind
abbrev pub kind_words : Kind → Update → List (List ℕ)
kind_words Put u = codes "put" ∷ word u.family ∷ word u.qualifier ∷ word u.label ∷ word u.value ∷ timestamp_word u.timestamp ∷ []
kind_words Delete u = codes "del" ∷ word u.family ∷ word u.qualifier ∷ word u.label ∷ timestamp_word u.timestamp ∷ []

-- an update
abbrev pub update_words : Update → List (List ℕ)
update_words u = kind_words u.kind u

-- updates, parted by the word ;
abbrev pub updates_words : List Update → List (List ℕ)
updates_words [] = []
updates_words (u ∷ us) = update_words u ++ flat_map (λ v. codes ";" ∷ update_words v) us

-- the number of a job
abbrev pub job_number : Given → ℕ
job_number (InSlot slot) = slot
job_number (ByHand job) = job

-- what was asked
abbrev pub act_words : Act → List (List ℕ)
act_words (Open s) = codes "open" ∷ word s.table ∷ list_word part_word s.authorizations ∷ bound_word s.bounds.low ∷ bound_word s.bounds.high ∷ list_word column_word s.columns ∷ []
act_words (Write t m) = codes "mutate" ∷ word t ∷ word m.row ∷ updates_words m.updates
act_words (CreateTable t time many) = codes "createtable" ∷ word t ∷ time_name time ∷ versions_word many ∷ []
act_words (DropTable t) = codes "droptable" ∷ word t ∷ []
act_words (SetConstraints t set) = codes "constraints" ∷ word t ∷ list_word constraint_name set ∷ []
act_words (SetVersions t many) = codes "versions" ∷ word t ∷ decimal many ∷ []
act_words (SetHorizon t low) = codes "horizon" ∷ word t ∷ signed_decimal low ∷ []
act_words (CreateUser n) = codes "createuser" ∷ word n ∷ []
act_words (DropUser n) = codes "dropuser" ∷ word n ∷ []
act_words (SetAuths n auths) = codes "setauths" ∷ word n ∷ list_word part_word auths ∷ []
act_words (Grant n permission) = codes "grant" ∷ word n ∷ right_words permission
act_words (Revoke n permission) = codes "revoke" ∷ word n ∷ right_words permission
act_words (Rights t) = codes "rights" ∷ word t ∷ []
act_words (Status t) = codes "status" ∷ word t ∷ []
act_words (Flush t) = codes "flush" ∷ word t ∷ []
act_words (Compact t extent) = codes "compact" ∷ word t ∷ extent_name extent ∷ []
act_words (AddSplit t row) = codes "addsplit" ∷ word t ∷ word row ∷ []
act_words (SplitBySize t row limit) = codes "splitsize" ∷ word t ∷ word row ∷ decimal limit ∷ []
act_words (Splits t) = codes "splits" ∷ word t ∷ []
act_words Save = codes "save" ∷ []
act_words Load = codes "load" ∷ []
act_words Rotate = codes "rotate" ∷ []
act_words (Begin t row kind) = codes "begin" ∷ word t ∷ word row ∷ compaction_name kind ∷ []
act_words (Install t given) = codes "install" ∷ word t ∷ decimal (job_number given) ∷ []
