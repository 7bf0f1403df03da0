use Rattle.std.proofs.Common.{◌≡◌, rules, ap, sym, subst, ℕ, List, [], ◌∷◌, Err, Result}
use Rattle.tab_history.specs.declared.event.Scan.{Scan}
use Rattle.tab_text.specs.declared.parse_error.ParseError.{ParseError}
use Rattle.tab_text.specs.Gives.{Gives, SaysNone}
use Rattle.tab_text.specs.Reading.{bytes_of}
use Rattle.tab_lines.specs.Words.{words_left}
use Rattle.tab_lines.specs.Lines.{scan_words}
use Rattle.tab_lines.proofs.ScanLemmas.{unread}
use Rattle.tab_lines.proofs.scan.read_scan.Goals as goal

pub returns-in_default : goal.returns-in_default
unfolding scan_words
returns-in_default c =
    let none : words_left c.args.words.now ≡ [] = search rules in
    ap scan_words none

pub returns-in_err-table : goal.returns-in_err-table
returns-in_err-table c =
    let e : ParseError = c.in_err-table.field-0.0 in
    let is : c.from_residual.result ≡ Err e = search rules in
    let words : words_left c.args.words.now ≡ c.in-Some.word.now ∷ words_left c.next.new.self = search rules in
    let none : SaysNone e (bytes_of c.in-Some.word.now) = search rules in
    let said : SaysNone e (scan_words (words_left c.args.words.now)) = subst (λ (ws : List (List ℕ)). SaysNone e (scan_words ws)) (sym words) (unread c.in-Some.word.now (words_left c.next.new.self) e none) in
    subst (λ (x : Result Scan ParseError). Gives (λ x. x) x (scan_words (words_left c.args.words.now))) (sym is) said
