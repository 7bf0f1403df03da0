-- No line is a bare act that opens a session.
use Rattle.std.proofs.Common.{ℕ, true, false, cond, List, [], ◌∷◌, refl, ap, subst, Option, Some, None, Result, Ok, Err}
use Rattle.std.specs.Prelude.{Result, option_map}
use Rattle.tab_lines.specs.declared.line.Line.{Line}
use Rattle.tab_lines.specs.declared.line.Line.TheVariants as line
use Rattle.tab_text.specs.declared.parse_error.ParseError.{ParseError}
use Rattle.tab_text.specs.declared.parse_error.ParseError.TheVariants as stop
use Rattle.tab_history.specs.declared.event.Scan.{Scan}
use Rattle.tab_lines.specs.declared.command.Command.{Command}
use Rattle.tab_lines.specs.declared.command.Command.TheVariants as command
use Rattle.tab_lines.specs.declared.file_line.FileKind.{FileKind}
use Rattle.tab_lines.specs.declared.file_line.FileKind.TheVariants.{Save, Load}
use Rattle.tab_lines.specs.declared.updates.TimestampForm.TheVariants.{Optional}
use Rattle.tab_text.specs.Gives.{Gives}
use Rattle.tab_lines.specs.Gives.{◌>>=◌, field, ends}
use Rattle.tab_lines.specs.Words.{words_of}
use Rattle.tab_lines.specs.Fields.{name_of, unsigned_of, small_of, signed_of, version_count, extent_word, compaction_word, file_name_of, list_of, constraints_of}
use Rattle.tab_lines.specs.Updates.{row_of, put_of, delete_of, updates_of}
use Rattle.tab_text.specs.Reading.{bytes_of}
use Rattle.tab_lines.specs.Lines.{settings, createtable_of, setauths_of, constraints_line_of, versions_line_of, horizon_of, insert_of, delete_line_of, mutate_of, scan_words, next_of, ranges_of, many_of, close_of, compact_of, begin_of, merge_of, install_of, addsplit_of, splitsize_of, file_of, rotate_of, at_of, name_alone, grant_of, command_of, commanded, said, is_comment, line_of}
use Rattle.tab_shell.specs.Ahead.{OpensNoSession, scan_line}

-- nothing is read, or what is read is no bare act that opens a session
abbrev IsShut : Option Line → Type 0
IsShut None = Unit {0}
IsShut (Some l) = OpensNoSession (Ok l)

after : {A : Type 0} (o : Option A) (f : A → Option Line) → ((a : A) → IsShut (f a)) → IsShut (o >>= f)
after None f h = tt
after (Some a) f h = h a

mapped : {A : Type 0} (o : Option A) (f : A → Line) → ((a : A) → OpensNoSession (Ok (f a))) → IsShut (option_map f o)
mapped None f h = tt
mapped (Some a) f h = h a

createtable_shut : (words : List (List ℕ)) → IsShut (createtable_of words)
unfolding createtable_of
createtable_shut words = after (field name_of words) _ (λ t. after (settings t.1) _ (λ s. refl))

setauths_shut : (words : List (List ℕ)) → IsShut (setauths_of words)
unfolding setauths_of
setauths_shut words = after (field name_of words) _ (λ u. after (field list_of u.1) _ (λ a. after (ends a.1) _ (λ e. refl)))

constraints_shut : (words : List (List ℕ)) → IsShut (constraints_line_of words)
unfolding constraints_line_of
constraints_shut words = after (field name_of words) _ (λ t. after (field constraints_of t.1) _ (λ c. after (ends c.1) _ (λ e. refl)))

versions_shut : (words : List (List ℕ)) → IsShut (versions_line_of words)
unfolding versions_line_of
versions_shut words = after (field name_of words) _ (λ t. after (field version_count t.1) _ (λ n. after (ends n.1) _ (λ e. refl)))

horizon_shut : (words : List (List ℕ)) → IsShut (horizon_of words)
unfolding horizon_of
horizon_shut words = after (field name_of words) _ (λ t. after (field signed_of t.1) _ (λ s. after (ends s.1) _ (λ e. refl)))

insert_shut : (words : List (List ℕ)) → IsShut (insert_of words)
unfolding insert_of
insert_shut words = after (field name_of words) _ (λ t. after (field row_of t.1) _ (λ m. after (put_of Optional m.1) _ (λ u. after (ends u.1) _ (λ e. refl))))

delete_shut : (words : List (List ℕ)) → IsShut (delete_line_of words)
unfolding delete_line_of
delete_shut words = after (field name_of words) _ (λ t. after (field row_of t.1) _ (λ m. after (delete_of Optional m.1) _ (λ u. after (ends u.1) _ (λ e. refl))))

mutate_shut : (words : List (List ℕ)) → IsShut (mutate_of words)
unfolding mutate_of
mutate_shut words = after (field name_of words) _ (λ t. after (field row_of t.1) _ (λ m. after (updates_of m.1) _ (λ u. refl)))

next_shut : (words : List (List ℕ)) → IsShut (next_of words)
unfolding next_of
next_shut words = after (field small_of words) _ (λ k. after (field small_of k.1) _ (λ n. after (ends n.1) _ (λ e. tt)))

many_shut : (words : List (List ℕ)) → IsShut (many_of words)
unfolding many_of
many_shut words = after (field small_of words) _ (λ k. after (ranges_of k.1) _ (λ rs. tt))

close_shut : (words : List (List ℕ)) → IsShut (close_of words)
unfolding close_of
close_shut words = after (field small_of words) _ (λ k. after (ends k.1) _ (λ e. tt))

compact_shut : (words : List (List ℕ)) → IsShut (compact_of words)
unfolding compact_of
compact_shut words = after (field name_of words) _ (λ t. after (field extent_word t.1) _ (λ x. after (ends x.1) _ (λ e. refl)))

begin_shut : (words : List (List ℕ)) → IsShut (begin_of words)
unfolding begin_of
begin_shut words = after (field name_of words) _ (λ t. after (field bytes_of t.1) _ (λ r. after (field compaction_word r.1) _ (λ k. after (ends k.1) _ (λ e. refl))))

merge_shut : (words : List (List ℕ)) → IsShut (merge_of words)
unfolding merge_of
merge_shut words = after (field unsigned_of words) _ (λ k. after (ends k.1) _ (λ e. tt))

install_shut : (words : List (List ℕ)) → IsShut (install_of words)
unfolding install_of
install_shut words = after (field name_of words) _ (λ t. after (field unsigned_of t.1) _ (λ k. after (ends k.1) _ (λ e. refl)))

addsplit_shut : (words : List (List ℕ)) → IsShut (addsplit_of words)
unfolding addsplit_of
addsplit_shut words = after (field name_of words) _ (λ t. after (field bytes_of t.1) _ (λ r. after (ends r.1) _ (λ e. refl)))

splitsize_shut : (words : List (List ℕ)) → IsShut (splitsize_of words)
unfolding splitsize_of
splitsize_shut words = after (field name_of words) _ (λ t. after (field bytes_of t.1) _ (λ r. after (field unsigned_of r.1) _ (λ l. after (ends l.1) _ (λ e. refl))))

file_shut : (kind : FileKind) (words : List (List ℕ)) → IsShut (file_of kind words)
unfolding file_of
file_shut kind words = after (field file_name_of words) _ (λ n. after (ends n.1) _ (λ e. tt))

rotate_shut : (words : List (List ℕ)) → IsShut (rotate_of words)
unfolding rotate_of
rotate_shut words = after (ends words) _ (λ e. refl)

at_shut : (words : List (List ℕ)) → IsShut (at_of words)
unfolding at_of
at_shut words = after (field signed_of words) _ (λ m. after (ends m.1) _ (λ e. tt))

commanded_shut : (c : Command) (words : List (List ℕ)) → IsShut (commanded c words)
commanded_shut command.As words = mapped (name_alone words) _ (λ user. tt)
commanded_shut command.CreateTable words = createtable_shut words
commanded_shut command.DropTable words = mapped (name_alone words) _ (λ table. refl)
commanded_shut command.CreateUser words = mapped (name_alone words) _ (λ user. refl)
commanded_shut command.DropUser words = mapped (name_alone words) _ (λ user. refl)
commanded_shut command.Grant words = mapped (grant_of words) _ (λ grant. refl)
commanded_shut command.Revoke words = mapped (grant_of words) _ (λ grant. refl)
commanded_shut command.Rights words = mapped (name_alone words) _ (λ table. refl)
commanded_shut command.SetAuths words = setauths_shut words
commanded_shut command.Constraints words = constraints_shut words
commanded_shut command.Versions words = versions_shut words
commanded_shut command.Horizon words = horizon_shut words
commanded_shut command.Insert words = insert_shut words
commanded_shut command.Delete words = delete_shut words
commanded_shut command.Mutate words = mutate_shut words
commanded_shut command.Scan words = mapped (scan_words words) _ (λ scan. tt)
commanded_shut command.Open words = mapped (scan_words words) _ (λ scan. tt)
commanded_shut command.Next words = next_shut words
commanded_shut command.Many words = many_shut words
commanded_shut command.Close words = close_shut words
commanded_shut command.Flush words = mapped (name_alone words) _ (λ table. refl)
commanded_shut command.Compact words = compact_shut words
commanded_shut command.Begin words = begin_shut words
commanded_shut command.Merge words = merge_shut words
commanded_shut command.Install words = install_shut words
commanded_shut command.Status words = mapped (name_alone words) _ (λ table. refl)
commanded_shut command.AddSplit words = addsplit_shut words
commanded_shut command.SplitSize words = splitsize_shut words
commanded_shut command.Splits words = mapped (name_alone words) _ (λ table. refl)
commanded_shut command.Save words = file_shut Save words
commanded_shut command.Load words = file_shut Load words
commanded_shut command.Rotate words = rotate_shut words
commanded_shut command.At words = at_shut words

said_shut : (words : List (List ℕ)) → IsShut (said words)
said_shut [] = tt
said_shut (word ∷ words) = after (command_of word) (λ c. commanded c words) (λ c. commanded_shut c words)

line_shut : (text : List ℕ) → IsShut (line_of text)
line_shut text = elim (is_comment text) as (λ b. IsShut (cond b (Some line.Blank) (said (words_of text)))) [ true ↦ tt | false ↦ said_shut (words_of text) ]

shut : (said : Result Line ParseError) (o : Option Line) → IsShut o → Gives (λ x. x) said o → OpensNoSession said
shut (Ok l) o h is = subst IsShut is h
shut (Err e) o h is = tt

-- what a line says is no bare act that opens a session
pub line_opens_none : (said : Result Line ParseError) (text : List ℕ) → Gives (λ x. x) said (line_of text) → OpensNoSession said
line_opens_none said text is = shut said (line_of text) (line_shut text) is

-- what was read of a whole scan says what the line says
pub scan_reads : (asked : Result Scan ParseError) (read : Option Scan) → Gives (λ x. x) asked read → Gives (λ x. x) (scan_line asked) (option_map (λ scan. line.Scan scan) read)
scan_reads (Ok scan) read is = ap (option_map (λ s. line.Scan s)) is
scan_reads (Err stop.NoMemory) read is = tt
scan_reads (Err stop.Malformed) read is = ap (option_map (λ s. line.Scan s)) is
