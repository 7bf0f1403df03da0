use Rattle.std.proofs.Common.{◌≡◌, ◌∙◌, ◌-◌, ◌*◌, ◌+◌, ◌≤◌, ◌++◌, sym, ap, subst, arith, length, take, append-nil}
use Rattle.std.specs.Prelude.{true, false, not}
use Rattle.std.proofs.lemmas.List.{length-take}
use Rattle.tab_key.specs.Encoding.{record_at}
use Rattle.tab_key.proofs.Sequence.{many_fit}
use Rattle.tab_key.proofs.Windows.{ends_behind}
use Rattle.tab_mem.specs.Parting.{records_in, row_below}
use Rattle.tab_mem.proofs.Moved.{moved_filled, moved_records}
use Rattle.tab_mem.proofs.Picking.{it_passes, it_fails}
use Rattle.tab_mem.proofs.partitions.parting.keep_one.Goals as goal

pub returns-then-is_before-clause-records : goal.returns-then-is_before-clause-records
returns-then-is_before-clause-records c =
    let old = c.args.body.now in
    let bound = c.args.bound.now in
    let xs = records_in (take c.args.kept.bytes old) c.args.kept.count in
    let fails : not (row_below (record_at old c.args.place) bound) ≡ false = ap not (sym c.is_before.ensures ∙ c.if-is_before.true) in
    sym (ap (λ l. xs ++ l) (it_fails (λ u. not (row_below u bound)) (record_at old c.args.place) fails) ∙ append-nil xs)

pub returns-clause-filled : goal.returns-clause-filled
returns-clause-filled c =
    moved_filled c.args.body.now (take (c.args.kept.bytes + (c.args.end - c.args.place)) c.move_piece.new.body) (take c.args.kept.bytes c.args.body.now) c.args.place c.args.end c.args.kept.count c.requires.within c.requires.end c.move_piece.ensures.moved c.requires.filled

pub returns-clause-records : goal.returns-clause-records
returns-clause-records c =
    let old = c.args.body.now in
    let bound = c.args.bound.now in
    let kept = take c.args.kept.bytes old in
    let passes : not (row_below (record_at old c.args.place) bound) ≡ true = ap not (sym c.is_before.ensures ∙ c.if-is_before.false) in
    moved_records old (take (c.args.kept.bytes + (c.args.end - c.args.place)) c.move_piece.new.body) kept c.args.place c.args.end c.args.kept.count c.requires.within c.requires.end c.move_piece.ensures.moved c.requires.filled
    ∙ ap (λ l. records_in kept c.args.kept.count ++ l) (sym (it_passes (λ u. not (row_below u bound)) (record_at old c.args.place) passes))

pub returns-then-is_before-clause-order : goal.returns-then-is_before-clause-order
returns-then-is_before-clause-order c = omega (arith, c.requires.order, c.requires.end, ends_behind c.args.body.now c.args.place)

pub move_piece-requires-clause-order : goal.move_piece-requires-clause-order
move_piece-requires-clause-order c = omega (arith, c.requires.end, ends_behind c.args.body.now c.args.place)

pub overflow_sub-result : goal.overflow_sub-result
overflow_sub-result c = omega (arith, c.requires.end, ends_behind c.args.body.now c.args.place)

pub overflow_add-result-2 : goal.overflow_add-result-2
overflow_add-result-2 c =
    let kept = take c.args.kept.bytes c.args.body.now in
    let count = c.args.kept.count in
    let all : 0 + 41 * count ≤ length kept = subst (λ n. 0 + 41 * count ≤ n) c.requires.filled.ends (many_fit kept 0 count) in
    omega (arith, all, length-take c.args.kept.bytes c.args.body.now, c.requires.order, c.ranges.place.fits)

pub returns-clause-order : goal.returns-clause-order
returns-clause-order c = omega (arith, c.requires.order, c.requires.end, ends_behind c.args.body.now c.args.place)
