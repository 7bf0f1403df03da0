-- To be believed by whoever relies on it. What a record of a text of CSV means, or why it means nothing.
use Rattle.std.specs.Prelude.{ℕ, ℤ, nat_lt, nat_le, ◌^◌, ◌==◌, Bool, not, ◌&&◌, List, [], ◌∷◌, length, codes, bytes_eq, Option, Some, None, is_none, unwrap_or, Result, Ok, Err, if◌then◌else◌}
use lib.Signed.{mag}
use Rattle.std.specs.Option.{option_map, option_and_then}
use Rattle.std.specs.List.{list_all}
use Rattle.std.specs.Char.{is_digit}
use Rattle.std.specs.Str.{is_utf8}
use Rattle.std.specs.Str.Parse.{without_leading_sign, signed_digits_value}
use Rattle.csv.specs.Records.{field_at}
use Rattle.tab_key.specs.Names.{is_name_byte}
use Rattle.tab_key.specs.declared.name.TheConstants.{MAX_NAME_LEN}
use Rattle.tab_key.specs.declared.key.Kind.{Kind}
use Rattle.tab_key.specs.declared.key.Kind.TheVariants.{Put, Delete}
use Rattle.tab_label.specs.Reading.{label_of}
use Rattle.tab_mutation.specs.Mutations.{Update}
use Rattle.tab_mutation.specs.Shape.{first_some, when, is_too_long}
use Rattle.tab_csv.specs.Columns.{place}
use Rattle.tab_csv.specs.declared.column.CsvColumn.{CsvColumn}
use Rattle.tab_csv.specs.declared.column.CsvColumn.TheVariants as column
use Rattle.tab_csv.specs.declared.header.Header.{Header}
use Rattle.tab_csv.specs.declared.record_fault.RecordFault.{RecordFault}
use Rattle.tab_csv.specs.declared.record_fault.RecordFault.TheVariants as fault

-- ---- fields
-- the field of a column, empty where the column isn't there
abbrev pub field : Header → List (List ℕ) → CsvColumn → List ℕ
field h fields c = unwrap_or (option_and_then (field_at fields) (place h c)) []

-- ---- what one field says
-- 1 to 128 bytes that a name may have
abbrev pub is_name : List ℕ → Bool
is_name bs = nat_lt 0 (length bs) && (nat_le (length bs) MAX_NAME_LEN && list_all is_name_byte bs)

-- a digit at least, and nothing else
abbrev pub is_numeral : List ℕ → Bool
is_numeral text = nat_lt 0 (length text) && list_all (λ c. is_digit c 10) text

-- a text that is digits, with a sign before them or not, and a number of 64 bits
abbrev pub is_whole : List ℕ → Bool
is_whole text = is_utf8 text && (is_numeral (without_leading_sign text) && nat_lt (mag (signed_digits_value 10 text)) (2 ^ 63))

unfoldable pub whole_number : List ℕ → Option ℤ
whole_number text = if is_whole text then Some (signed_digits_value 10 text) else None

-- nothing for none, or such a number
abbrev pub timestamp_of : List ℕ → Option (Option ℤ)
timestamp_of text = if length text == 0 then Some None else option_map (λ number. Some number) (whole_number text)

-- nothing or put, or delete
abbrev pub kind_of : List ℕ → Option Kind
kind_of text =
    if length text == 0 then Some Put
    else if bytes_eq text (codes "put") then Some Put
    else if bytes_eq text (codes "delete") then Some Delete
    else None

-- ---- what is wrong
-- a text that is no label, which goes wrong here
abbrev pub no_label : {A : Type 0} → Result A ℕ → Option RecordFault
no_label (Ok label) = None
no_label (Err offset) = Some (fault.Label offset)

-- the name of the table is given, or one has to stand in its column
abbrev pub table_fault : Header → Option (List ℕ) → List (List ℕ) → Option RecordFault
table_fault h (Some table) fields = None
table_fault h None fields = when (not (is_name (field h fields column.Table))) fault.Table

-- the field of this column is over 1,048,576 bytes
abbrev pub long_fault : Header → List (List ℕ) → CsvColumn → Option RecordFault
long_fault h fields c = when (is_too_long (field h fields c)) (fault.TooLong c)

-- a delete has a value
abbrev pub value_fault : Option Kind → List ℕ → Option RecordFault
value_fault (Some Delete) value = when (not (length value == 0)) fault.Value
value_fault (Some Put) value = None
value_fault None value = None

-- parts that are too long
abbrev pub long_checks : Header → List (List ℕ) → List (Option RecordFault)
long_checks h fields =
    long_fault h fields column.Row ∷ long_fault h fields column.Family ∷ long_fault h fields column.Qualifier
    ∷ long_fault h fields column.Label ∷ long_fault h fields column.Value ∷ []

-- fields that don't say what they are to say: the label, the timestamp, the kind, the value
abbrev pub said_checks : List ℕ → List ℕ → List ℕ → List ℕ → List (Option RecordFault)
said_checks label timestamp kind value =
    no_label (label_of label) ∷ when (is_none (timestamp_of timestamp)) fault.Timestamp ∷ when (is_none (kind_of kind)) fault.Kind ∷ value_fault (kind_of kind) value ∷ []

-- all that may be wrong with a record, in the order in which it is looked for
abbrev pub record_checks : Header → Option (List ℕ) → List (List ℕ) → List (Option RecordFault)
record_checks h given fields =
    when (not (length fields == h.count)) (fault.Fields (length fields) h.count)
    ∷ table_fault h given fields
    ∷ first_some (long_checks h fields)
    ∷ first_some (said_checks (field h fields column.Label) (field h fields column.Timestamp) (field h fields column.Kind) (field h fields column.Value))
    ∷ []

-- ---- what is meant
-- an update of a row of a table
pub record Change : Type 0 where
  pub table : List ℕ
  pub row : List ℕ
  pub update : Update

-- what a record means in which nothing is wrong
abbrev pub change : Header → Option (List ℕ) → List (List ℕ) → Change
change h given fields = record {
  table = unwrap_or given (field h fields column.Table);
  row = field h fields column.Row;
  update = record {
    kind = unwrap_or (kind_of (field h fields column.Kind)) Put;
    family = field h fields column.Family;
    qualifier = field h fields column.Qualifier;
    label = field h fields column.Label;
    timestamp = unwrap_or (timestamp_of (field h fields column.Timestamp)) None;
    value = field h fields column.Value;
  };
}

abbrev pub unless : {A E : Type 0} → Option E → A → Result A E
unless None x = Ok x
unless (Some fault) x = Err fault

-- What a record means, under a header; `given`: the table's name, where no column has it. Or the first thing that is wrong.
unfoldable pub meaning : Header → Option (List ℕ) → List (List ℕ) → Result Change RecordFault
meaning h given fields = unless (first_some (record_checks h given fields)) (change h given fields)
