-- What a scan asks.
use Rattle.std.proofs.Common.{ℕ, ◌≡◌, Bool, true, false, cond, List, [], ◌∷◌, ◌++◌, take, drop, refl, sym, ap, ◌∙◌, subst, Option, Some, None, Result, Err}
use Rattle.std.specs.Prelude.{codes}
use Rattle.std.specs.Option.{option_map, option_and_then}
use Rattle.std.specs.Str.{bytes_eq}
use Rattle.std.proofs.lemmas.List.{take-append-drop}
use Rattle.std.proofs.lemmas.Slice.Eq.{bytes_eq-Decides}
use Rattle.tab_label.specs.Sets.{set_of}
use Rattle.tab_history.specs.declared.event.Scan.{Scan}
use Rattle.tab_text.specs.declared.parse_error.ParseError.{ParseError}
use Rattle.tab_text.specs.declared.parse_error.ParseError.TheVariants as error
use Rattle.tab_text.specs.Gives.{Gives, SaysNone}
use Rattle.tab_text.specs.Reading.{bytes_of}
use Rattle.tab_lines.specs.declared.command.Command.TheVariants as command
use Rattle.tab_lines.specs.Gives.{◌>>=◌, field, ends, optional}
use Rattle.tab_lines.specs.Words.{words_of}
use Rattle.tab_lines.specs.Fields.{list_of, columns_of, is_name, only_if}
use Rattle.tab_lines.specs.Lines.{bounds_of, scan_words, commanded, line_of}

-- a line that begins with the command and a space
begun : (rest : List ℕ) → line_of (115 ∷ 99 ∷ 97 ∷ 110 ∷ 32 ∷ rest) ≡ commanded command.Scan (words_of rest)
unfolding words_of
begun rest = refl

pub begins : (line : List ℕ) → bytes_eq (take 5 line) (codes "scan ") ≡ true → line_of line ≡ commanded command.Scan (words_of (drop 5 line))
begins line is =
    let front : take 5 line ≡ codes "scan " = (bytes_eq-Decides (take 5 line) (codes "scan ")).0 is in
    let whole : line ≡ 115 ∷ 99 ∷ 97 ∷ 110 ∷ 32 ∷ drop 5 line = sym (take-append-drop 5 line) ∙ ap (λ t. t ++ drop 5 line) front in
    ap line_of whole ∙ begun (drop 5 line)

-- what is asked of the table of this name
abbrev pub behind : List ℕ → List (List ℕ) → Option Scan
behind name words = do
  auths ← field list_of words
  bounds ← bounds_of auths.1
  columns ← optional [] columns_of bounds.1
  end ← ends columns.1
  Some (record { table = name; bounds = bounds.0; columns = columns.0; authorizations = set_of auths.0 })

abbrev of_named : List ℕ × List (List ℕ) → Option Scan
of_named named = behind named.0 named.1

at_name : (b : Bool) (table : List ℕ) (words : List (List ℕ)) → (option_map (λ (x : List ℕ). (x, words)) (cond b (Some table) None) >>= of_named) ≡ cond b (behind table words) None
at_name true table words = refl
at_name false table words = refl

-- whether the bytes are a name can be asked last
by_name : (word table : List ℕ) (words : List (List ℕ)) → bytes_of word ≡ Some table → scan_words (word ∷ words) ≡ cond (is_name table) (behind table words) None
unfolding scan_words
by_name word table words spells =
    ap (λ (bytes : Option (List ℕ)). option_map (λ (x : List ℕ). (x, words)) (option_and_then (only_if is_name) bytes) >>= of_named) spells ∙ at_name (is_name table) table words

-- a word that spells nothing
pub unread : (word : List ℕ) (words : List (List ℕ)) (e : ParseError) → SaysNone e (bytes_of word) → SaysNone e (scan_words (word ∷ words))
unfolding scan_words
unread word words error.NoMemory none = tt
unread word words error.Malformed none = ap (λ (bytes : Option (List ℕ)). option_map (λ (x : List ℕ). (x, words)) (option_and_then (only_if is_name) bytes) >>= of_named) none

late : (b : Bool) (asked : Option Scan) (e : ParseError) → SaysNone e asked → SaysNone e (cond b asked None)
late true asked e none = none
late false asked error.NoMemory none = tt
late false asked error.Malformed none = refl

-- nothing is asked
pub unasked : (word table : List ℕ) (words : List (List ℕ)) (r : Result Scan ParseError) (e : ParseError) → bytes_of word ≡ Some table → r ≡ Err e
    → Gives (λ x. x) r (behind table words) → Gives (λ x. x) r (scan_words (word ∷ words))
unasked word table words r e spells is gives =
    let none : SaysNone e (behind table words) = subst (λ (x : Result Scan ParseError). Gives (λ x. x) x (behind table words)) is gives in
    let said : SaysNone e (scan_words (word ∷ words)) = subst (λ (o : Option Scan). SaysNone e o) (sym (by_name word table words spells)) (late (is_name table) (behind table words) e none) in
    subst (λ (x : Result Scan ParseError). Gives (λ x. x) x (scan_words (word ∷ words))) (sym is) said

mapped : (f : List ℕ → Scan) (table : List ℕ) (b : Bool) → option_map f (cond b (Some table) None) ≡ cond b (Some (f table)) None
mapped f table true = refl
mapped f table false = refl

-- this is asked, if the bytes are a name
pub asked : (word table : List ℕ) (words : List (List ℕ)) (f : List ℕ → Scan) (r : Result Scan ParseError) → bytes_of word ≡ Some table → behind table words ≡ Some (f table)
    → Gives (λ x. x) r (option_map f (only_if is_name table)) → Gives (λ x. x) r (scan_words (word ∷ words))
asked word table words f r spells is gives =
    subst (λ (o : Option Scan). Gives (λ x. x) r o) (mapped f table (is_name table) ∙ sym (ap (λ (o : Option Scan). cond (is_name table) o None) is) ∙ sym (by_name word table words spells)) gives
