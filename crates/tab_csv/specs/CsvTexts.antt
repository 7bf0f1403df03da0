-- To be believed by whoever relies on it. What an image says, as a text of CSV.
use Rattle.std.specs.Prelude.{ℕ, List, [], ◌∷◌, ◌++◌, map, codes, Bool, false, ◌&&◌, if◌then◌else◌}
use Rattle.std.specs.List.{flat_map}
use Rattle.std.specs.Ordering.{int_eq}
use Rattle.std.specs.Fmt.{signed_decimal}
use Rattle.csv.specs.Writing.{default_writer, row_text}
use Rattle.tab_key.specs.Records.{Record}
use Rattle.tab_key.specs.Kept.{same_column}
use Rattle.tab_key.specs.declared.key.Kind.{Kind}
use Rattle.tab_key.specs.declared.key.Kind.TheVariants.{Put, Delete}
use Rattle.tab_image.specs.declared.image.Image.{Image}
use Rattle.tab_image.specs.declared.table.ImageTable.{ImageTable}

abbrev pub kind_name : Kind → List ℕ
kind_name Put = codes "put"
kind_name Delete = codes "delete"

-- the names of the columns
abbrev pub names : List (List ℕ)
names = codes "table" ∷ codes "row" ∷ codes "family" ∷ codes "qualifier" ∷ codes "label" ∷ codes "timestamp" ∷ codes "kind" ∷ codes "value" ∷ []

-- a record of the table of this name
abbrev pub record_fields : List ℕ → Record → List (List ℕ)
record_fields table r = table ∷ r.key.row ∷ r.key.family ∷ r.key.qualifier ∷ r.key.label ∷ signed_decimal r.key.timestamp ∷ kind_name r.kind ∷ r.value ∷ []

-- one key: the column and the timestamp
abbrev pub same_key : Record → Record → Bool
same_key r s = same_column r.key s.key && int_eq r.key.timestamp s.key.timestamp

-- Whether a record goes on with those of one key that were read before it, the last one first.
abbrev pub goes_on : List Record → Record → Bool
goes_on [] r = false
goes_on (s ∷ run) r = same_key s r

-- records in their order, but those of one key with the older one first, so that who writes them in turn leaves the newer one on top
abbrev pub older_first : List Record → List Record → List Record
older_first run [] = run
older_first run (r ∷ rs) = if goes_on run r then older_first (r ∷ run) rs else run ++ older_first (r ∷ []) rs

-- a record as CSV writes it: RFC 4180, each with a line feed behind it
abbrev pub csv_row : List (List ℕ) → List ℕ
csv_row fields = row_text default_writer fields

abbrev pub table_csv : ImageTable → List ℕ
table_csv t = flat_map (λ r. csv_row (record_fields t.head.name r)) (older_first [] t.records)

-- the whole
unfoldable pub csv_text : Image → List ℕ
csv_text i = csv_row names ++ flat_map table_csv i.tables
