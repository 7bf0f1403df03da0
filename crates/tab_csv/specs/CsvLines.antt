-- To be believed by whoever relies on it. The line of a script that does what a record means.
use Rattle.std.specs.Prelude.{ℕ, ℤ, List, [], ◌∷◌, codes, Option, Some, None}
use Rattle.std.specs.Fmt.{signed_decimal}
use Rattle.tab_key.specs.declared.key.Kind.{Kind}
use Rattle.tab_key.specs.declared.key.Kind.TheVariants.{Put, Delete}
use Rattle.tab_mutation.specs.Mutations.{Update}
use Rattle.tab_text.specs.Words.{word}
use Rattle.tab_text.specs.Lines.{line_text}
use Rattle.tab_csv.specs.Meaning.{Change}

-- the timestamp behind all other words, where there is one
abbrev pub last_words : Option ℤ → List (List ℕ)
last_words None = []
last_words (Some timestamp) = signed_decimal timestamp ∷ []

-- insert T ROW FAM QUAL LABEL VALUE [TS], or delete T ROW FAM QUAL LABEL [TS]
abbrev pub change_words : Kind → List ℕ → List ℕ → Update → List (List ℕ)
change_words Put table row u = codes "insert" ∷ word table ∷ word row ∷ word u.family ∷ word u.qualifier ∷ word u.label ∷ word u.value ∷ last_words u.timestamp
change_words Delete table row u = codes "delete" ∷ word table ∷ word row ∷ word u.family ∷ word u.qualifier ∷ word u.label ∷ last_words u.timestamp

abbrev pub change_line : Change → List ℕ
change_line c = line_text (change_words c.update.kind c.table c.row c.update)
