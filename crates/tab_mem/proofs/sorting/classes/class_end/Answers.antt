use Rattle.std.proofs.Common.{rules, ◌≡◌, ◌<◌, ◌≤◌, ◌∙◌, sym, length, arith}
use Rattle.std.specs.Prelude.{true, false}
use Rattle.tab_mem.specs.Groups.{row_at}
use Rattle.tab_mem.proofs.ByClass.{alike_rows, other_rows, class_first, class_more}
use Rattle.tab_mem.proofs.sorting.classes.class_end.Goals as goal

pub loop-end-init : goal.loop-end-init
loop-end-init c = record { some = omega arith; inside = omega (arith, c.requires); same = class_first c.args.groups.now c.args.at }

pub loop-end-preserved : goal.loop-end-preserved
loop-end-preserved c =
    let ws = c.args.groups.now in
    let end = c.loop-end.end in
    let inv = c.loop-end.invariant in
    let alike : c.are_alike.result ≡ true = search rules in
    let next : row_at ws end ≡ row_at ws c.args.at = alike_rows (row_at ws c.args.at) (row_at ws end) (sym c.are_alike.ensures ∙ alike) in
    let low : end < length ws = omega arith in
    record { some = omega (arith, inv.some); inside = omega (arith, low); same = class_more ws c.args.at end inv.same next }

pub returns-then-not-are_alike : goal.returns-then-not-are_alike
returns-then-not-are_alike c =
    let ws = c.args.groups.now in
    let end = c.loop-end.end in
    let inv = c.loop-end.invariant in
    let apart : c.are_alike.result ≡ false = search rules in
    record { some = inv.some; inside = inv.inside; same = inv.same; next = λ lt. other_rows (row_at ws c.args.at) (row_at ws end) (sym c.are_alike.ensures ∙ apart) }

pub returns : goal.returns
returns c =
    let ws = c.args.groups.now in
    let inv = c.loop-end.invariant in
    let past : length ws ≤ c.loop-end.end = omega arith in
    record { some = inv.some; inside = inv.inside; same = inv.same; next = λ lt. absurd (omega (arith, lt, past)) }
