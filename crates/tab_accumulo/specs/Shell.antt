-- To be believed by whoever relies on it. How the shell of Apache Accumulo 2.1 reads a line: its `QuotedStringTokenizer`, and what its commands make of an option's word. It is
-- written from its sources; nothing of it was tried against a cluster.
use lib.Signed.{mag}
use Rattle.std.specs.Prelude.{ℕ, ◌≡◌, ◌^◌, ◌+◌, ◌-◌, ◌*◌, ◌/◌, ◌%◌, ◌<◌, ◌==◌, nat_le, nat_lt, Bool, true, false, not, ◌&&◌, ◌||◌, List, [], ◌∷◌, ◌++◌, length, map, take, drop, reverse, Option, Some, None, cond, codes, if◌then◌else◌}
use Rattle.std.specs.List.{AllByRecursion, flat_map, list_all, list_any, slice_split}
use Rattle.std.specs.Option.{option_map, option_and_then}
use Rattle.std.specs.Fmt.{signed_decimal}
use Rattle.tab_key.specs.Records.{Record}
use Rattle.tab_key.specs.declared.key.Kind.{Kind}
use Rattle.tab_key.specs.declared.key.Kind.TheVariants.{Put, Delete}
use Rattle.tab_key.specs.Names.{IsName}
use Rattle.tab_text.specs.Lines.{after_spaces}
use Rattle.tab_text.specs.Reading.{hex_value}
use Rattle.tab_text.specs.declared.escape.Escape.{Escape}
use Rattle.tab_text.specs.declared.escape.Escape.TheVariants.{Outside, Backslash, Hex, High}
use Rattle.tab_accumulo.specs.Words.{quoted, listed, term_bytes}
use Rattle.tab_accumulo.specs.Carried.{first, last, is_option_word, is_term_word}
use Rattle.tab_accumulo.specs.Lines.{kind_words}

-- ---- tokens
-- the value of a hexadecimal digit, in capitals too
abbrev pub any_hex : ℕ → Option ℕ
any_hex d = if nat_le 65 d && nat_le d 70 then Some (d - 55) else hex_value d

-- a quote, a backslash or a space may stand behind a backslash
abbrev pub may_be_escaped : ℕ → Bool
may_be_escaped b = b == 32 || (b == 39 || (b == 34 || b == 92))

-- a token that is cut off outside of quotes: none where nothing has been read
abbrev pub ended : List ℕ → List (List ℕ)
ended [] = []
ended (b ∷ bs) = (b ∷ bs) ∷ []

-- after a byte: the tokens that end with it; the quote that the next one stands between, if any; what has been read of an escape, and of a token
pub record Next : Type 0 where
  pub tokens : List (List ℕ)
  pub quote : Option ℕ
  pub escape : Escape
  pub token : List ℕ

abbrev pub goes_on : Option ℕ → Escape → List ℕ → Option Next
goes_on quote escape token = Some (record { tokens = []; quote = quote; escape = escape; token = token })

abbrev pub cuts : List (List ℕ) → Option ℕ → Option Next
cuts tokens quote = Some (record { tokens = tokens; quote = quote; escape = Outside; token = [] })

abbrev pub next : Option ℕ → Escape → List ℕ → ℕ → Option Next
next quote Backslash t b = if b == 120 then goes_on quote Hex t else if may_be_escaped b then goes_on quote Outside (t ++ b ∷ []) else None
next quote Hex t b = option_and_then (λ high. goes_on quote (High high) t) (any_hex b)
next quote (High high) t b = option_and_then (λ low. goes_on quote Outside (t ++ (16 * high + low) ∷ [])) (any_hex b)
next (Some q) Outside t b = if b == q then cuts (t ∷ []) None else if b == 92 then goes_on (Some q) Backslash t else goes_on (Some q) Outside (t ++ b ∷ [])
next None Outside t b = if b == 34 || b == 39 then cuts (ended t) (Some b) else if b == 32 then cuts (ended t) None else if b == 92 then goes_on None Backslash t else goes_on None Outside (t ++ b ∷ [])

-- at the end of the line neither a quote nor an escape may be open
abbrev pub last_tokens : Option ℕ → Escape → List ℕ → Option (List (List ℕ))
last_tokens None Outside t = Some (ended t)
last_tokens None Backslash t = None
last_tokens None Hex t = None
last_tokens None (High high) t = None
last_tokens (Some q) escape t = None

abbrev pub tokens_from : Option ℕ → Escape → List ℕ → List ℕ → Option (List (List ℕ))
tokens_from quote escape t [] = last_tokens quote escape t
tokens_from quote escape t (b ∷ bs) = option_and_then (λ (n : Next). option_map (λ later. n.tokens ++ later) (tokens_from n.quote n.escape n.token bs)) (next quote escape t b)

-- the tokens of a line, without its line feed; none where it can't be taken apart
abbrev pub tokens : List ℕ → Option (List (List ℕ))
tokens = tokens_from None Outside []

-- the line of these words, without its line feed
abbrev pub spaced : List (List ℕ) → List ℕ
spaced [] = []
spaced (w ∷ ws) = w ++ after_spaces ws

-- ---- an option's word, by commons-cli: None where it may be taken for an option itself
-- what stands between the first byte and the last one
abbrev pub inner : List ℕ → List ℕ
inner word = take (length word - 2) (drop 1 word)

-- quotes at both ends are taken off, where none stands between them
abbrev pub unquoted : List ℕ → List ℕ
unquoted word = cond (nat_lt 1 (length word) && (first word == 34 && (last word == 34 && not (list_any (λ b. b == 34) (inner word))))) (inner word) word

abbrev pub option_word : List ℕ → Option (List ℕ)
option_word word = cond (first word == 45) None (Some (unquoted word))

-- ---- what commands make of it: each of its bytes is a character, and goes over in UTF-8
abbrev pub utf8 : List ℕ → List ℕ
utf8 = flat_map (λ b. cond (nat_lt b 128) (b ∷ []) ((192 + b / 64) ∷ (128 + b % 64) ∷ []))

-- `insert -l` and `delete -l`
abbrev pub label_taken : List ℕ → Option (List ℕ)
label_taken word = option_map utf8 (option_word word)

-- without the bytes up to a space at the beginning
abbrev pub cut : List ℕ → List ℕ
cut [] = []
cut (b ∷ bs) = cond (nat_le b 32) (cut bs) (b ∷ bs)

-- .. and at the end
abbrev pub trimmed : List ℕ → List ℕ
trimmed text = reverse (cut (reverse (cut text)))

-- `setauths -s`
abbrev pub terms_taken : List ℕ → Option (List (List ℕ))
terms_taken word = option_map (λ text. map (λ term. utf8 (trimmed term)) (slice_split (λ b. b == 44) text)) (option_word word)

-- ---- what is written is read as it was, and as nothing else
abbrev pub AreBytes : List ℕ → Type 0
AreBytes = AllByRecursion (λ b. b < 256)

-- a byte that ends no token, and begins no quote and no escape
abbrev pub is_word_byte : ℕ → Bool
is_word_byte b = not (b == 34 || b == 39) && (not (b == 32) && not (b == 92))

abbrev pub is_plain_word : List ℕ → Bool
is_plain_word [] = false
is_plain_word (b ∷ bs) = list_all is_word_byte (b ∷ bs)

-- a line of such words, as all are that name no row: commands, options, names, permissions, settings, classes
abbrev pub PlainLinesAreRead : Type 0
PlainLinesAreRead = (words : List (List ℕ)) → list_all is_plain_word words ≡ true → tokens (spaced words) ≡ Some words

-- the line of a split
abbrev pub SplitsAreRead : Type 0
SplitsAreRead = (row : List ℕ) → AreBytes row → tokens (spaced (codes "addsplits" ∷ codes "--" ∷ quoted row ∷ [])) ≡ Some (codes "addsplits" ∷ codes "--" ∷ row ∷ [])

-- the words of a record's line
abbrev pub kind_tokens : Kind → Record → List (List ℕ)
kind_tokens Put r = codes "insert" ∷ codes "-l" ∷ r.key.label ∷ codes "-ts" ∷ signed_decimal r.key.timestamp ∷ codes "--" ∷ r.key.row ∷ r.key.family ∷ r.key.qualifier ∷ r.value ∷ []
kind_tokens Delete r = codes "delete" ∷ codes "-l" ∷ r.key.label ∷ codes "-ts" ∷ signed_decimal r.key.timestamp ∷ codes "--" ∷ r.key.row ∷ r.key.family ∷ r.key.qualifier ∷ []

pub record HasBytes (r : Record) : Type 0 where
  pub row : AreBytes r.key.row
  pub family : AreBytes r.key.family
  pub qualifier : AreBytes r.key.qualifier
  pub label : AreBytes r.key.label
  pub value : AreBytes r.value
  pub timestamp : mag r.key.timestamp < 2 ^ 63

-- the line of a record has its parts as words, behind `--` where they begin with a `-`
abbrev pub RecordsAreRead : Type 0
RecordsAreRead = (r : Record) → HasBytes r → tokens (spaced (kind_words r.kind r)) ≡ Some (kind_tokens r.kind r)

-- a label that goes over is taken as it is
abbrev pub LabelsAreTaken : Type 0
LabelsAreTaken = (label : List ℕ) → is_option_word label ≡ true → label_taken label ≡ Some label

-- authorizations, the first one and the others, with a comma before each
abbrev pub between_commas : List ℕ → List (List ℕ) → List ℕ
between_commas x xs = x ++ flat_map (λ y. 44 ∷ y) xs

-- the line of a user's authorizations, where there are any, has these as its option's word
abbrev pub TermsAreRead : Type 0
TermsAreRead = (name x : List ℕ) (xs : List (List ℕ)) → IsName name → AreBytes x → AllByRecursion AreBytes xs
    → tokens (spaced (codes "setauths" ∷ codes "-u" ∷ name ∷ listed term_bytes (x ∷ xs) ∷ [])) ≡ Some (codes "setauths" ∷ codes "-u" ∷ name ∷ codes "-s" ∷ between_commas x xs ∷ [])

-- those that go over are taken as they are
abbrev pub TermsAreTaken : Type 0
TermsAreTaken = (x : List ℕ) (xs : List (List ℕ)) → list_all is_term_word (x ∷ xs) ≡ true → terms_taken (between_commas x xs) ≡ Some (x ∷ xs)
