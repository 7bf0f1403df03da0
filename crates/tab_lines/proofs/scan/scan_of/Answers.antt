use Rattle.std.proofs.Common.{◌≡◌, rules, ℕ, List, Some, Err}
use Rattle.tab_history.specs.declared.event.Scan.{Scan}
use Rattle.tab_text.specs.Gives.{Gives}
use Rattle.tab_lines.specs.Words.{words_left}
use Rattle.tab_lines.proofs.ScanLemmas.{behind, unasked, asked}
use Rattle.tab_lines.proofs.scan.scan_of.Goals as goal

pub returns-in_err-members : goal.returns-in_err-members
returns-in_err-members c word spells =
    let is : c.from_residual.result ≡ Err c.in_err-members.field-0.0 = search rules in
    let gives : Gives (λ x. x) c.from_residual.result (behind c.args.table.now (words_left c.args.words.now)) = search rules in
    unasked word c.args.table.now (words_left c.args.words.now) c.from_residual.result c.in_err-members.field-0.0 spells is gives

pub returns-in_err-bounds : goal.returns-in_err-bounds
returns-in_err-bounds c word spells =
    let is : c.from_residual-in_err-bounds.result ≡ Err c.in_err-bounds.field-0.0 = search rules in
    let gives : Gives (λ x. x) c.from_residual-in_err-bounds.result (behind c.args.table.now (words_left c.args.words.now)) = search rules in
    unasked word c.args.table.now (words_left c.args.words.now) c.from_residual-in_err-bounds.result c.in_err-bounds.field-0.0 spells is gives

pub returns-in_err-columns : goal.returns-in_err-columns
returns-in_err-columns c word spells =
    let is : c.from_residual-in_err-columns.result ≡ Err c.in_err-columns.field-0.0 = search rules in
    let gives : Gives (λ x. x) c.from_residual-in_err-columns.result (behind c.args.table.now (words_left c.args.words.now)) = search rules in
    unasked word c.args.table.now (words_left c.args.words.now) c.from_residual-in_err-columns.result c.in_err-columns.field-0.0 spells is gives

pub returns-in_err-ends : goal.returns-in_err-ends
returns-in_err-ends c word spells =
    let is : c.from_residual-in_err-ends.result ≡ Err c.in_err-ends.field-0.0 = search rules in
    let gives : Gives (λ x. x) c.from_residual-in_err-ends.result (behind c.args.table.now (words_left c.args.words.now)) = search rules in
    unasked word c.args.table.now (words_left c.args.words.now) c.from_residual-in_err-ends.result c.in_err-ends.field-0.0 spells is gives

pub returns : goal.returns
returns c word spells =
    let scan : List ℕ → Scan = λ name. record { table = name; bounds = c.in_ok-bounds.bounds; columns = c.in_ok-columns.columns; authorizations = c.new.result } in
    let is : behind c.args.table.now (words_left c.args.words.now) ≡ Some (scan c.args.table.now) = search rules in
    asked word c.args.table.now (words_left c.args.words.now) scan c.of_table.result spells is c.of_table.ensures
