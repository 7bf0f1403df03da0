use Rattle.std.proofs.Common.{◌≡◌, ◌∙◌, ◌++◌, ap, sym, subst, List}
use Rattle.std.specs.Prelude.{IfOk}
use Rattle.tab_key.specs.Records.{Record}
use Rattle.tab_key.specs.Sorted.{sorted, IsDistinct}
use Rattle.tab_key.proofs.Rising.{rising_sorted}
use Rattle.tab_iter.specs.Lists.{IsRising}
use Rattle.tab_mem.proofs.Writing.{held_distinct, parts_moved, run_moved, same_moved}
use Rattle.tab_mem.proofs.freezing.frozen.Goals as goal

pub returns-in_err-gather-clause-moved : goal.returns-in_err-gather-clause-moved
returns-in_err-gather-clause-moved c = same_moved c.args.written.now c.args.kept.now _ _ c.in_err-gather.ensures.err c.in_err-gather.ensures.left

pub sort_all-requires-clause-distinct : goal.sort_all-requires-clause-distinct
sort_all-requires-clause-distinct c =
    let all = c.args.written.now ++ c.args.kept.now in
    subst IsDistinct (sym c.in_ok-gather.ensures.ok) (held_distinct all c.requires)

pub returns-in_err-parts-clause-moved : goal.returns-in_err-parts-clause-moved
returns-in_err-parts-clause-moved c =
    let all = c.args.written.now ++ c.args.kept.now in
    parts_moved all c.sort_all.new.written c.sort_all.new.kept (c.in_err-parts.ensures.kept ∙ ap sorted c.in_ok-gather.ensures.ok)

pub finish-requires : goal.finish-requires
finish-requires c =
    let all = c.args.written.now ++ c.args.kept.now in
    subst IsRising (sym (c.in_ok-parts.ensures.ok ∙ ap sorted c.in_ok-gather.ensures.ok)) (rising_sorted all (held_distinct all c.requires))

pub returns-clause-ok : goal.returns-clause-ok
returns-clause-ok c =
    subst (λ (l : List Record). IfOk c.finish.result (λ made. made.value ≡ l)) (c.in_ok-parts.ensures.ok ∙ ap sorted c.in_ok-gather.ensures.ok) c.finish.ensures.ok

pub returns-clause-moved : goal.returns-clause-moved
returns-clause-moved c =
    let all = c.args.written.now ++ c.args.kept.now in
    run_moved all c.sort_all.new.written c.finish.new.kept c.in_ok-parts.ensures.empty (c.finish.ensures.kept ∙ c.in_ok-parts.ensures.ok ∙ ap sorted c.in_ok-gather.ensures.ok)
