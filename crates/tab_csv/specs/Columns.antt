-- To be believed by whoever relies on it. The columns of a text of CSV, and where they stand by its first record.
use Rattle.std.specs.Prelude.{ℕ, Bool, true, false, List, [], ◌∷◌, ◌+◌, length, codes, bytes_eq, Option, Some, None, is_some, is_none, Result, Ok, Err, if◌then◌else◌}
use Rattle.tab_csv.specs.declared.column.CsvColumn.{CsvColumn}
use Rattle.tab_csv.specs.declared.column.CsvColumn.TheVariants.{Table, Row, Family, Qualifier, Label, Timestamp, Kind, Value}
use Rattle.tab_csv.specs.declared.header.Header.{Header}
use Rattle.tab_csv.specs.declared.header.HeaderFault.{HeaderFault}
use Rattle.tab_csv.specs.declared.header.HeaderFault.TheVariants.{Unknown, Repeated, Missing, NoTable, TwoTables}

-- ---- names
abbrev pub column_name : CsvColumn → List ℕ
column_name Table = codes "table"
column_name Row = codes "row"
column_name Family = codes "family"
column_name Qualifier = codes "qualifier"
column_name Label = codes "label"
column_name Timestamp = codes "timestamp"
column_name Kind = codes "kind"
column_name Value = codes "value"

abbrev pub column_named : List ℕ → Option CsvColumn
column_named name =
    if bytes_eq name (codes "table") then Some Table
    else if bytes_eq name (codes "row") then Some Row
    else if bytes_eq name (codes "family") then Some Family
    else if bytes_eq name (codes "qualifier") then Some Qualifier
    else if bytes_eq name (codes "label") then Some Label
    else if bytes_eq name (codes "timestamp") then Some Timestamp
    else if bytes_eq name (codes "kind") then Some Kind
    else if bytes_eq name (codes "value") then Some Value
    else None

-- ---- places
-- a record has so many fields, and none is named
abbrev pub no_columns : ℕ → Header
no_columns count = record { count = count; table = None; row = None; family = None; qualifier = None; label = None; timestamp = None; kind = None; value = None }

abbrev pub place : Header → CsvColumn → Option ℕ
place h Table = h.table
place h Row = h.row
place h Family = h.family
place h Qualifier = h.qualifier
place h Label = h.label
place h Timestamp = h.timestamp
place h Kind = h.kind
place h Value = h.value

abbrev pub with_place : Header → CsvColumn → ℕ → Header
with_place h Table i = record h { table = Some i }
with_place h Row i = record h { row = Some i }
with_place h Family i = record h { family = Some i }
with_place h Qualifier i = record h { qualifier = Some i }
with_place h Label i = record h { label = Some i }
with_place h Timestamp i = record h { timestamp = Some i }
with_place h Kind i = record h { kind = Some i }
with_place h Value i = record h { value = Some i }

-- ---- the first record
-- what is done next, unless there is a fault
abbrev pub and_then : {A B E : Type 0} → (A → Result B E) → Result A E → Result B E
and_then next (Ok x) = next x
and_then next (Err fault) = Err fault

-- one more column, at this place: none that stands at another
abbrev pub with_column : Header → ℕ → CsvColumn → Result Header HeaderFault
with_column h i c = if is_some (place h c) then Err (Repeated c) else Ok (with_place h c i)

abbrev pub with_found : Header → ℕ → Option CsvColumn → Result Header HeaderFault
with_found h i None = Err (Unknown i)
with_found h i (Some c) = with_column h i c

-- .. by its name
abbrev pub with_name : Header → ℕ → List ℕ → Result Header HeaderFault
with_name h i name = with_found h i (column_named name)

-- names from this place on, one after another, up to the first that is none or stands there a second time
abbrev pub columns_from : Header → ℕ → List (List ℕ) → Result Header HeaderFault
columns_from h i [] = Ok h
columns_from h i (name ∷ names) = and_then (λ longer. columns_from longer (i + 1) names) (with_name h i name)

-- the table's name is given besides, or has a column
abbrev pub with_one_table : Bool → Bool → Header → Result Header HeaderFault
with_one_table true true h = Err TwoTables
with_one_table false false h = Err NoTable
with_one_table true false h = Ok h
with_one_table false true h = Ok h

abbrev pub complete : Bool → Header → Result Header HeaderFault
complete given h =
    if is_none h.row then Err (Missing Row)
    else if is_none h.value then Err (Missing Value)
    else with_one_table given (is_some h.table) h

-- the columns that a first record names, or why it doesn't; `given`: the table's name is given besides
abbrev pub header_of : Bool → List (List ℕ) → Result Header HeaderFault
header_of given names = and_then (complete given) (columns_from (no_columns (length names)) 0 names)
