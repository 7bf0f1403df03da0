use Rattle.std.proofs.Common.{rules, ◌≡◌, ◌∙◌, ◌++◌, ◌∷◌, [], ap, sym}
use Rattle.std.specs.Prelude.{true, false}
use Rattle.std.specs.Ordering.{is_lt}
use Rattle.tab_key.specs.Bytes.{bytes_cmp}
use Rattle.tab_mem.specs.Groups.{row_of}
use Rattle.tab_mem.proofs.Bounded.{group_taken, group_left}
use Rattle.tab_mem.proofs.Spanned.{rows_more}
use Rattle.tab_mem.proofs.sorting.grouping.push_before.Goals as goal

pub returns-then-is_lt-clause-records : goal.returns-then-is_lt-clause-records
returns-then-is_lt-clause-records c =
    let ws = c.args.groups.now.items in
    let low : is_lt (bytes_cmp (row_of c.args.group) c.args.bound.now.key.row) ≡ true = ap is_lt (sym c.cmp_bound.ensures) ∙ sym c.is_lt.ensures ∙ c.if-is_lt.true in
    let pushed : c.push.new.self.items ≡ ws ++ c.args.group ∷ [] = search rules in
    group_taken c.args.bound.now ws c.push.new.self.items c.args.group c.requires.row low pushed

pub returns-then-is_lt-clause-rows : goal.returns-then-is_lt-clause-rows
returns-then-is_lt-clause-rows c =
    let ws = c.args.groups.now.items in
    let pushed : c.push.new.self.items ≡ ws ++ c.args.group ∷ [] = search rules in
    rows_more ws c.push.new.self.items c.args.group pushed c.requires.row c.requires.rows

pub returns-clause-records : goal.returns-clause-records
returns-clause-records c =
    let high : is_lt (bytes_cmp (row_of c.args.group) c.args.bound.now.key.row) ≡ false = ap is_lt (sym c.cmp_bound.ensures) ∙ sym c.is_lt.ensures ∙ c.if-is_lt.false in
    group_left c.args.bound.now c.args.groups.now.items c.args.group c.requires.row high
