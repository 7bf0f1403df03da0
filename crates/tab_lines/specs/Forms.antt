-- To be believed by whoever relies on it. The lines of a script as a relation between the words of a line and what they say. It says nothing of how a line is read.
use Rattle.std.specs.Prelude.{ℕ, ℤ, pos, negsuc, ◌≡◌, ◌≢◌, ◌+◌, ◌^◌, ◌<◌, ◌≤◌, ◌==◌, ◌⊎◌, ◌↔◌, true, not, List, [], ◌∷◌, ◌++◌, replicate, codes, Option, Some, None}
use Rattle.std.specs.List.{AllZip, list_all}
use Rattle.std.specs.Fmt.{decimal}
use Rattle.std.specs.Str.{IsUtf8}
use Rattle.tab_key.specs.Names.{IsName}
use Rattle.tab_key.specs.declared.limited_part.TheConstants.{MAX_VERSIONS}
use Rattle.tab_key.specs.declared.range.Bound.{Bound}
use Rattle.tab_key.specs.declared.range.Bound.TheVariants.{Unbounded, Inclusive, Exclusive}
use Rattle.tab_key.specs.declared.range.Bounds.{Bounds}
use Rattle.tab_key.specs.declared.column.Column.{Column}
use Rattle.tab_key.specs.declared.column.Column.TheVariants.{Family, Qualified}
use Rattle.tab_label.specs.Sets.{set_of}
use Rattle.tab_mutation.specs.Mutations.{Update, put_update, delete_update}
use Rattle.tab_rules.specs.Constraints.{constraint_name, constraint_set_of}
use Rattle.tab_rules.specs.declared.constraint.Constraint.{Constraint}
use Rattle.tab_policy.specs.Permissions.{system_name, table_name}
use Rattle.tab_policy.specs.declared.permission.Permission.{Permission}
use Rattle.tab_policy.specs.declared.permission.Permission.TheVariants.{OfSystem, OfTable}
use Rattle.tab_cells.specs.declared.compaction.Compaction.{Compaction}
use Rattle.tab_cells.specs.declared.compaction.Compaction.TheVariants as merges
use Rattle.tab_history.specs.declared.event.Extent.{Extent}
use Rattle.tab_history.specs.declared.event.Extent.TheVariants.{Partial, Full}
use Rattle.tab_history.specs.declared.event.TimeMode.{TimeMode}
use Rattle.tab_history.specs.declared.event.TimeMode.TheVariants.{Any, Server}
use Rattle.tab_history.specs.declared.event.Act.TheVariants as act
use Rattle.tab_history.specs.declared.event.Given.TheVariants.{InSlot}
use Rattle.tab_history.specs.declared.event.Scan.{Scan}
use Rattle.tab_lines.specs.declared.line.Line.{Line}
use Rattle.tab_lines.specs.declared.line.Line.TheVariants as line
use Rattle.tab_lines.specs.declared.file_line.FileKind.TheVariants.{Save, Load}
use Rattle.tab_lines.specs.Words.{parts_at}
use Rattle.tab_text.specs.Words.{IsWord}
use Rattle.tab_lines.specs.Lines.{line_of}

-- ---- one word

-- the word spells a name of a user or a table
abbrev pub IsNameWord : List ℕ → List ℕ → Type 0
IsNameWord word name = IsWord word name × IsName name

-- the word spells a name of a file: bytes that are UTF-8
abbrev pub IsFileWord : List ℕ → List ℕ → Type 0
IsFileWord word name = IsWord word name × IsUtf8 name

-- zeros, and then the number as it is written in decimal
abbrev pub AreDigits : List ℕ → ℕ → Type 0
AreDigits text n = (zeros : ℕ) × (text ≡ replicate zeros 48 ++ decimal n)

-- the word is a number of 64 bits with a sign: digits, or a minus and the digits of one that isn't 0
abbrev pub IsNumber : List ℕ → ℤ → Type 0
IsNumber word (pos n) = AreDigits word n × (n < 2 ^ 63)
IsNumber word (negsuc n) = (digits : List ℕ) × (word ≡ 45 ∷ digits) × AreDigits digits (n + 1) × (n < 2 ^ 63)

-- the word is a number of 64 bits without a sign
abbrev pub IsUnsigned : List ℕ → ℕ → Type 0
IsUnsigned word n = AreDigits word n × (n < 2 ^ 64)

-- the word is a number of 32 bits without a sign
abbrev pub IsSmall : List ℕ → ℕ → Type 0
IsSmall word n = AreDigits word n × (n < 2 ^ 32)

-- the word is the timestamp of an update among several: a number, or - for none
abbrev pub IsTimestamp : List ℕ → Option ℤ → Type 0
IsTimestamp word None = word ≡ codes "-"
IsTimestamp word (Some timestamp) = IsNumber word timestamp

-- \0, or what stands between commas, each a member
abbrev pub IsList : {A : Type 0} → (List ℕ → A → Type 0) → List ℕ → List A → Type 0
IsList IsMember word members = ((word ≡ codes "\\0") × (members ≡ [])) ⊎ AllZip IsMember (parts_at 44 word) members

-- the word spells the name of the constraint
abbrev pub IsConstraint : List ℕ → Constraint → Type 0
IsConstraint word constraint = IsWord word (constraint_name constraint)

-- the word is an end of a range: \0 for none, or a byte word behind [ or (
abbrev pub IsBound : List ℕ → Bound → Type 0
IsBound word Unbounded = word ≡ codes "\\0"
IsBound word (Inclusive row) = (text : List ℕ) × (word ≡ 91 ∷ text) × IsWord text row
IsBound word (Exclusive row) = (text : List ℕ) × (word ≡ 40 ∷ text) × IsWord text row

-- no byte of the text is a colon
abbrev pub HasNoColon : List ℕ → Type 0
HasNoColon text = list_all (λ b. not (b == 58)) text ≡ true

-- the word is a column: a family, or a family and a qualifier with the first colon between them
abbrev pub IsColumn : List ℕ → Column → Type 0
IsColumn word (Family family) = HasNoColon word × IsWord word family
IsColumn word (Qualified family qualifier) =
    (front : List ℕ) × (back : List ℕ) × (word ≡ front ++ 58 ∷ back) × HasNoColon front × IsWord front family × IsWord back qualifier

-- how a line says who gives the timestamps of a table
abbrev pub time_name : TimeMode → List ℕ
time_name Any = codes "time=any"
time_name Server = codes "time=server"

-- how a line says what a compaction of a whole table merges
abbrev pub extent_name : Extent → List ℕ
extent_name Partial = codes "partial"
extent_name Full = codes "full"

-- how a line says what a compaction of a tablet merges
abbrev pub compaction_name : Compaction → List ℕ
compaction_name merges.Minor = codes "minor"
compaction_name merges.Partial = codes "partial"
compaction_name merges.Full = codes "full"

-- the word is a number from 1 to 1,000
abbrev pub IsVersionCount : List ℕ → ℕ → Type 0
IsVersionCount word n = AreDigits word n × (1 ≤ n) × (n ≤ MAX_VERSIONS)

-- the word is versions= and a number from 1 to 1,000
abbrev pub IsVersions : List ℕ → ℕ → Type 0
IsVersions word n = (digits : List ℕ) × (word ≡ codes "versions=" ++ digits) × IsVersionCount digits n

-- ---- several words

-- the settings of a new table: at most one word for the timestamps, then at most one for the versions
pub data AreSettings : List (List ℕ) → TimeMode → ℕ → Type 0 where
  neither : AreSettings [] Any 1
  time : (mode : TimeMode) → AreSettings (time_name mode ∷ []) mode 1
  versions : (v : List ℕ) (n : ℕ) → IsVersions v n → AreSettings (v ∷ []) Any n
  both : (mode : TimeMode) (v : List ℕ) (n : ℕ) → IsVersions v n → AreSettings (time_name mode ∷ v ∷ []) mode n

-- the words are a permission: the name of a system permission, or the name of a table permission and a word for the table
abbrev pub IsPermission : List (List ℕ) → Permission → Type 0
IsPermission words (OfSystem permission) = words ≡ system_name permission ∷ []
IsPermission words (OfTable permission table) = (t : List ℕ) × (words ≡ table_name permission ∷ t ∷ []) × IsNameWord t table

-- the last words of a write: a timestamp, or none
abbrev pub IsLastTimestamp : List (List ℕ) → Option ℤ → Type 0
IsLastTimestamp words None = words ≡ []
IsLastTimestamp words (Some timestamp) = (word : List ℕ) × (words ≡ word ∷ []) × IsNumber word timestamp

-- one update among several
pub data IsUpdate : List (List ℕ) → Update → Type 0 where
  put : (f q l v t family qualifier label value : List ℕ) (timestamp : Option ℤ)
      → IsWord f family → IsWord q qualifier → IsWord l label → IsWord v value → IsTimestamp t timestamp
      → IsUpdate (codes "put" ∷ f ∷ q ∷ l ∷ v ∷ t ∷ []) (put_update family qualifier label timestamp value)
  del : (f q l t family qualifier label : List ℕ) (timestamp : Option ℤ)
      → IsWord f family → IsWord q qualifier → IsWord l label → IsTimestamp t timestamp
      → IsUpdate (codes "del" ∷ f ∷ q ∷ l ∷ t ∷ []) (delete_update family qualifier label timestamp)

-- updates parted by the word ;
abbrev pub AreUpdates : List (List ℕ) → List Update → Type 0
AreUpdates words [] = words ≡ []
AreUpdates words (update ∷ []) = IsUpdate words update
AreUpdates words (update ∷ next ∷ updates) =
    (first : List (List ℕ)) × (others : List (List ℕ)) × (words ≡ first ++ codes ";" ∷ others) × IsUpdate first update × AreUpdates others (next ∷ updates)

-- the last words of a scan: nothing, both ends of the range, or both ends and columns
pub data AreLimits : List (List ℕ) → Bounds → List Column → Type 0 where
  all : AreLimits [] (record { low = Unbounded; high = Unbounded }) []
  rows : (l h : List ℕ) (low high : Bound) → IsBound l low → IsBound h high → AreLimits (l ∷ h ∷ []) (record { low = low; high = high }) []
  columns : (l h c : List ℕ) (low high : Bound) (columns : List Column) → IsBound l low → IsBound h high → IsList IsColumn c columns
      → AreLimits (l ∷ h ∷ c ∷ []) (record { low = low; high = high }) columns

-- the words behind scan or open: a table, authorizations and limits
pub data IsScan : List (List ℕ) → Scan → Type 0 where
  asks : (t a table : List ℕ) (members : List (List ℕ)) (words : List (List ℕ)) (bounds : Bounds) (columns : List Column)
      → IsNameWord t table → IsList IsWord a members → AreLimits words bounds columns
      → IsScan (t ∷ a ∷ words) (record { table = table; bounds = bounds; columns = columns; authorizations = set_of members })

-- pairs of ends, each pair a range
pub data AreRanges : List (List ℕ) → List Bounds → Type 0 where
  none : AreRanges [] []
  pair : (l h : List ℕ) (words : List (List ℕ)) (low high : Bound) (ranges : List Bounds) → IsBound l low → IsBound h high → AreRanges words ranges
      → AreRanges (l ∷ h ∷ words) (record { low = low; high = high } ∷ ranges)

-- ---- lines

-- the words are a line that says this
pub data Form : List (List ℕ) → Line → Type 0 where
  blank : Form [] line.Blank
  asker : (u user : List ℕ) → IsNameWord u user → Form (codes "as" ∷ u ∷ []) (line.As user)
  at : (t : List ℕ) (moment : ℤ) → IsNumber t moment → Form (codes "at" ∷ t ∷ []) (line.At moment)
  createtable : (t table : List ℕ) (words : List (List ℕ)) (mode : TimeMode) (versions : ℕ) → IsNameWord t table → AreSettings words mode versions
      → Form (codes "createtable" ∷ t ∷ words) (line.Act (act.CreateTable table mode versions))
  droptable : (t table : List ℕ) → IsNameWord t table → Form (codes "droptable" ∷ t ∷ []) (line.Act (act.DropTable table))
  createuser : (u user : List ℕ) → IsNameWord u user → Form (codes "createuser" ∷ u ∷ []) (line.Act (act.CreateUser user))
  dropuser : (u user : List ℕ) → IsNameWord u user → Form (codes "dropuser" ∷ u ∷ []) (line.Act (act.DropUser user))
  setauths : (u l user : List ℕ) (members : List (List ℕ)) → IsNameWord u user → IsList IsWord l members
      → Form (codes "setauths" ∷ u ∷ l ∷ []) (line.Act (act.SetAuths user (set_of members)))
  grant : (u user : List ℕ) (words : List (List ℕ)) (permission : Permission) → IsNameWord u user → IsPermission words permission
      → Form (codes "grant" ∷ u ∷ words) (line.Act (act.Grant user permission))
  revoke : (u user : List ℕ) (words : List (List ℕ)) (permission : Permission) → IsNameWord u user → IsPermission words permission
      → Form (codes "revoke" ∷ u ∷ words) (line.Act (act.Revoke user permission))
  rights : (t table : List ℕ) → IsNameWord t table → Form (codes "rights" ∷ t ∷ []) (line.Act (act.Rights table))
  constraints : (t l table : List ℕ) (members : List Constraint) → IsNameWord t table → IsList IsConstraint l members
      → Form (codes "constraints" ∷ t ∷ l ∷ []) (line.Act (act.SetConstraints table (constraint_set_of members)))
  versions : (t n table : List ℕ) (many : ℕ) → IsNameWord t table → IsVersionCount n many
      → Form (codes "versions" ∷ t ∷ n ∷ []) (line.Act (act.SetVersions table many))
  horizon : (t s table : List ℕ) (timestamp : ℤ) → IsNameWord t table → IsNumber s timestamp
      → Form (codes "horizon" ∷ t ∷ s ∷ []) (line.Act (act.SetHorizon table timestamp))
  insert : (t r f q l v table row family qualifier label value : List ℕ) (words : List (List ℕ)) (timestamp : Option ℤ)
      → IsNameWord t table → IsWord r row → IsWord f family → IsWord q qualifier → IsWord l label → IsWord v value → IsLastTimestamp words timestamp
      → Form (codes "insert" ∷ t ∷ r ∷ f ∷ q ∷ l ∷ v ∷ words)
      (line.Act (act.Write table (record { row = row; updates = put_update family qualifier label timestamp value ∷ [] })))
  delete : (t r f q l table row family qualifier label : List ℕ) (words : List (List ℕ)) (timestamp : Option ℤ)
      → IsNameWord t table → IsWord r row → IsWord f family → IsWord q qualifier → IsWord l label → IsLastTimestamp words timestamp
      → Form (codes "delete" ∷ t ∷ r ∷ f ∷ q ∷ l ∷ words)
      (line.Act (act.Write table (record { row = row; updates = delete_update family qualifier label timestamp ∷ [] })))
  mutate : (t r table row : List ℕ) (words : List (List ℕ)) (updates : List Update) → IsNameWord t table → IsWord r row → AreUpdates words updates
      → Form (codes "mutate" ∷ t ∷ r ∷ words) (line.Act (act.Write table (record { row = row; updates = updates })))
  scan : (words : List (List ℕ)) (scan : Scan) → IsScan words scan → Form (codes "scan" ∷ words) (line.Scan scan)
  opened : (words : List (List ℕ)) (scan : Scan) → IsScan words scan → Form (codes "open" ∷ words) (line.Open scan)
  next : (k n : List ℕ) (session count : ℕ) → IsSmall k session → IsSmall n count → Form (codes "next" ∷ k ∷ n ∷ []) (line.Next session count)
  many : (k : List ℕ) (words : List (List ℕ)) (session : ℕ) (ranges : List Bounds) → IsSmall k session → AreRanges words ranges
      → Form (codes "many" ∷ k ∷ words) (line.Many session ranges)
  close : (k : List ℕ) (session : ℕ) → IsSmall k session → Form (codes "close" ∷ k ∷ []) (line.Close session)
  flush : (t table : List ℕ) → IsNameWord t table → Form (codes "flush" ∷ t ∷ []) (line.Act (act.Flush table))
  compact : (t table : List ℕ) (extent : Extent) → IsNameWord t table → Form (codes "compact" ∷ t ∷ extent_name extent ∷ []) (line.Act (act.Compact table extent))
  begin : (t r table row : List ℕ) (kind : Compaction) → IsNameWord t table → IsWord r row
      → Form (codes "begin" ∷ t ∷ r ∷ compaction_name kind ∷ []) (line.Act (act.Begin table row kind))
  merge : (k : List ℕ) (job : ℕ) → IsUnsigned k job → Form (codes "merge" ∷ k ∷ []) (line.Merge job)
  install : (t k table : List ℕ) (job : ℕ) → IsNameWord t table → IsUnsigned k job
      → Form (codes "install" ∷ t ∷ k ∷ []) (line.Act (act.Install table (InSlot job)))
  status : (t table : List ℕ) → IsNameWord t table → Form (codes "status" ∷ t ∷ []) (line.Act (act.Status table))
  addsplit : (t r table row : List ℕ) → IsNameWord t table → IsWord r row → Form (codes "addsplit" ∷ t ∷ r ∷ []) (line.Act (act.AddSplit table row))
  splitsize : (t r l table row : List ℕ) (limit : ℕ) → IsNameWord t table → IsWord r row → IsUnsigned l limit
      → Form (codes "splitsize" ∷ t ∷ r ∷ l ∷ []) (line.Act (act.SplitBySize table row limit))
  splits : (t table : List ℕ) → IsNameWord t table → Form (codes "splits" ∷ t ∷ []) (line.Act (act.Splits table))
  save : (f name : List ℕ) → IsFileWord f name → Form (codes "save" ∷ f ∷ []) (line.File (record { kind = Save; name = name }))
  load : (f name : List ℕ) → IsFileWord f name → Form (codes "load" ∷ f ∷ []) (line.File (record { kind = Load; name = name }))
  rotate : Form (codes "rotate" ∷ []) (line.Act act.Rotate)

-- there is a byte, and none is a space
abbrev pub IsPlainWord : List ℕ → Type 0
IsPlainWord word = (word ≢ []) × (list_all (λ b. not (b == 32)) word ≡ true)

-- the words of a text, with spaces before the first, at least one between two, and spaces behind the last
abbrev pub AreWords : List ℕ → List (List ℕ) → Type 0
AreWords text [] = (before : ℕ) × (text ≡ replicate before 32)
AreWords text (word ∷ []) = (before : ℕ) × (behind : ℕ) × (text ≡ replicate before 32 ++ (word ++ replicate behind 32)) × IsPlainWord word
AreWords text (word ∷ second ∷ words) =
    (before : ℕ) × (rest : List ℕ) × (text ≡ replicate before 32 ++ (word ++ 32 ∷ rest)) × IsPlainWord word × AreWords rest (second ∷ words)

-- the text is a line that says this: a comment, or words that say it
pub data IsLine : List ℕ → Line → Type 0 where
  comment : (rest : List ℕ) → IsLine (35 ∷ rest) line.Blank
  words : (text : List ℕ) (words : List (List ℕ)) (line : Line) → ((rest : List ℕ) → text ≢ 35 ∷ rest) → AreWords text words → Form words line → IsLine text line

-- reading gives exactly what the forms of lines say
abbrev pub LinesAreForms : Type 0
LinesAreForms = (text : List ℕ) (line : Line) → (line_of text ≡ Some line) ↔ IsLine text line
