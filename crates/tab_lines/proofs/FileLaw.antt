-- The lines that name a file are exactly what is read of their words.
use Rattle.std.proofs.Common.{ℕ, ◌≡◌, true, false, cond, List, [], ◌∷◌, refl, ap, ◌∙◌, subst, Some, None, Option}
use Rattle.std.specs.Option.{option_and_then}
use Rattle.std.specs.Str.{is_utf8}
use Rattle.std.proofs.lemmas.Str.{IsUtf8-from_is_utf8, is_utf8-from_IsUtf8}
use Rattle.tab_lines.specs.declared.file_line.FileKind.{FileKind}
use Rattle.tab_lines.specs.declared.line.Line.{Line}
use Rattle.tab_lines.specs.declared.line.Line.TheVariants as says
use Rattle.tab_lines.specs.Gives.{field}
use Rattle.tab_text.specs.Reading.{bytes_of}
use Rattle.tab_lines.specs.Fields.{only_if, file_name_of}
use Rattle.tab_lines.specs.Lines.{file_of}
use Rattle.tab_lines.specs.Forms.{IsFileWord, Form}
use Rattle.tab_lines.proofs.WordLaw.{words_read}
use Rattle.tab_lines.proofs.Inverting.{Words, ReadsExactly, some_inj, bind_some, field_some, on_then, on_field, on_ends}

-- ---- names of files

file_name_sound : (word name : List ℕ) → file_name_of word ≡ Some name → IsFileWord word name
file_name_sound word name is = on_then (only_if is_utf8) (bytes_of word) name (IsFileWord word name) is (λ bytes read one.
    elim (is_utf8 bytes) as (λ b. is_utf8 bytes ≡ b → cond b (Some bytes) None ≡ Some name → IsFileWord word name) [
      | true ↦ λ yes e. subst (λ (n : List ℕ). IsFileWord word n) (some_inj bytes name e) (words_read.sound word bytes read, IsUtf8-from_is_utf8 bytes yes)
      | false ↦ λ no e. absurd cc
    ] refl one)

file_name_complete : (word name : List ℕ) → IsFileWord word name → file_name_of word ≡ Some name
file_name_complete word name is =
    ap (λ (o : Option (List ℕ)). option_and_then (only_if is_utf8) o) (words_read.complete word name is.0)
    ∙ ap (λ b. cond b (Some name) None) (is_utf8-from_IsUtf8 name is.1)

-- a name of a file is exactly what is read of its word
pub file_names_read : ReadsExactly file_name_of IsFileWord
file_names_read = record { sound = file_name_sound; complete = file_name_complete }

-- ---- the lines, whatever the command is

abbrev asks_with : FileKind → List ℕ → Line
asks_with kind name = says.File (record { kind = kind; name = name })

pub file_sound : (text : List ℕ) (kind : FileKind) (words : Words) (line : Line) → ((f name : List ℕ) → IsFileWord f name → Form (text ∷ f ∷ []) (asks_with kind name))
    → file_of kind words ≡ Some line → Form (text ∷ words) line
unfolding file_of
file_sound text kind words line form is =
    on_field file_name_of words _ line (λ ws. Form (text ∷ ws) line) is (λ f ws name e1 f1.
    on_ends ws _ line (λ ws. Form (text ∷ f ∷ ws) line) f1 (λ f2.
    subst (λ (y : Line). Form (text ∷ f ∷ []) y) (some_inj (asks_with kind name) line f2) (form f name (file_names_read.sound f name e1))))

pub file_complete : (kind : FileKind) (f name : List ℕ) → IsFileWord f name → file_of kind (f ∷ []) ≡ Some (asks_with kind name)
unfolding file_of
file_complete kind f name is = bind_some (field file_name_of (f ∷ [])) (name, []) _ _ (field_some file_name_of f [] name (file_names_read.complete f name is)) refl
