-- Columns of parts of the same lengths are the same where they are in one piece.
use Rattle.std.proofs.Common.{rules, ◌≡◌, ◌≢◌, ℕ, ◌-◌, List, ◌++◌, sym, ◌∙◌, ap, length}
use Rattle.std.specs.Prelude.{bytes_eq}
use Rattle.std.specs.List.{slice_range}
use Rattle.tab_key.specs.Records.{Key}
use Rattle.tab_key.proofs.Columns.{same_pieces, other_rows, other_families, other_qualifiers}
use Rattle.tab_iter.specs.LastColumn.{parts_in}
use Rattle.tab_iter.proofs.LastColumn.{row_width, family_width, qualifier_width, in_one_piece}
use Rattle.tab_iter.proofs.last_column.is_column.Goals as goal

pub returns-then-key-ends : goal.returns-then-key-ends
returns-then-key-ends c =
    let n : length c.args.next.now.key.row ≢ c.args.ends.now.row = search rules in
    sym (other_rows (parts_in c.args.body.now c.args.ends.now) c.args.next.now.key (λ e. n (sym e ∙ row_width c.args.body.now c.args.ends.now c.requires)))

pub returns-then-key-ends-2 : goal.returns-then-key-ends-2
returns-then-key-ends-2 c =
    let n : length c.args.next.now.key.family ≢ c.args.ends.now.family - c.args.ends.now.row = search rules in
    sym (other_families (parts_in c.args.body.now c.args.ends.now) c.args.next.now.key (λ e. n (sym e ∙ family_width c.args.body.now c.args.ends.now c.requires)))

pub returns-then-key-ends-3 : goal.returns-then-key-ends-3
returns-then-key-ends-3 c =
    let n : length c.args.next.now.key.qualifier ≢ c.args.ends.now.qualifier - c.args.ends.now.family = search rules in
    sym (other_qualifiers (parts_in c.args.body.now c.args.ends.now) c.args.next.now.key (λ e. n (sym e ∙ qualifier_width c.args.body.now c.args.ends.now c.requires)))

pub returns : goal.returns
returns c =
    let a : Key = parts_in c.args.body.now c.args.ends.now in
    let b : Key = c.args.next.now.key in
    let row : length b.row ≡ c.args.ends.now.row = search rules in
    let family : length b.family ≡ c.args.ends.now.family - c.args.ends.now.row = search rules in
    let qualifier : length b.qualifier ≡ c.args.ends.now.qualifier - c.args.ends.now.family = search rules in
    let piece : List ℕ = b.row ++ b.family ++ b.qualifier ++ b.label in
    let same : c.eq.result ≡ bytes_eq (slice_range c.args.body.now 0 c.args.ends.now.label) piece = search rules in
    same ∙ ap (λ l. bytes_eq l piece) (in_one_piece c.args.body.now c.args.ends.now c.requires)
    ∙ same_pieces a b (row_width c.args.body.now c.args.ends.now c.requires ∙ sym row) (family_width c.args.body.now c.args.ends.now c.requires ∙ sym family) (qualifier_width c.args.body.now c.args.ends.now c.requires ∙ sym qualifier)
