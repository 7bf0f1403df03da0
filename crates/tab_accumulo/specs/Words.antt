-- To be believed by whoever relies on it. Words as they are written for the shell of Apache Accumulo; `Shell` says how it reads them.
use Rattle.std.specs.Prelude.{ℕ, ◌==◌, List, [], ◌∷◌, ◌++◌, codes, if◌then◌else◌}
use Rattle.std.specs.List.{flat_map}
use Rattle.std.specs.Fmt.{decimal, signed_decimal}
use Rattle.tab_text.specs.Words.{word}
use Rattle.tab_accumulo.specs.declared.word.ShellWord.{ShellWord}
use Rattle.tab_accumulo.specs.declared.word.ShellWord.TheVariants.{Text, Qualified, Quoted, Versions, Signed, Authorizations}
use Rattle.tab_accumulo.specs.declared.versions.Scope.{Scope}
use Rattle.tab_accumulo.specs.declared.versions.Scope.TheVariants.{Scan, Minor, Major}

-- texts, one after another
abbrev pub joined : List (List ℕ) → List ℕ
joined = flat_map (λ text. text)

-- a byte between double quotes: as in a word of a script, but that a double quote is written as a number
abbrev pub shell_byte : ℕ → List ℕ
shell_byte b = if b == 34 then codes "\\x22" else word (b ∷ [])

abbrev pub shell_bytes : List ℕ → List ℕ
shell_bytes = flat_map shell_byte

-- a byte of an authorization: a comma is written as a number too, since commas stand between them
abbrev pub term_byte : ℕ → List ℕ
term_byte b = if b == 44 then codes "\\x2c" else shell_byte b

abbrev pub term_bytes : List ℕ → List ℕ
term_bytes = flat_map term_byte

-- between double quotes
abbrev pub quoted : List ℕ → List ℕ
quoted bytes = joined (codes "\"" ∷ shell_bytes bytes ∷ codes "\"" ∷ [])

-- the option of `setauths`: what stands for each, between commas, or none at all
abbrev pub listed : {A : Type 0} → (A → List ℕ) → List A → List ℕ
listed f [] = codes "-c"
listed f (x ∷ xs) = joined (codes "-s \"" ∷ f x ∷ flat_map (λ y. 44 ∷ f y) xs ∷ codes "\"" ∷ [])

-- how many versions a new table shows, and keeps in each kind of a compaction: the settings of its iterator, between commas
abbrev pub version_key : Scope → List ℕ
version_key Scan = codes "table.iterator.scan.vers.opt.maxVersions="
version_key Minor = codes ",table.iterator.minc.vers.opt.maxVersions="
version_key Major = codes ",table.iterator.majc.vers.opt.maxVersions="

abbrev pub all_scopes : List Scope
all_scopes = Scan ∷ Minor ∷ Major ∷ []

abbrev pub versions_word : ℕ → List ℕ
versions_word number = flat_map (λ scope. version_key scope ++ decimal number) all_scopes

-- the text of one word, in the code
abbrev pub shell_word : ShellWord → List ℕ
shell_word (Text text) = text.now
shell_word (Qualified kind name) = kind.now ++ 46 ∷ name.now
shell_word (Quoted bytes) = quoted bytes.now
shell_word (Versions number) = versions_word number
shell_word (Signed number) = signed_decimal number
shell_word (Authorizations auths) = listed term_bytes auths.now
