use Rattle.std.proofs.Common.{◌≡◌, ◌≤◌, ◌∙◌, ◌++◌, refl, ap, sym, length, take, slice_range, append-nil, arith}
use Rattle.std.proofs.Math.Seq.{take-append_seam}
use Rattle.std.proofs.lemmas.List.{take_all, drop_all}
use Rattle.tab_key.specs.Sorted.{sorted}
use Rattle.tab_iter.specs.Bags.{flat}
use Rattle.tab_mem.proofs.ByClass.{class_put}
use Rattle.tab_mem.proofs.KeptFront.{same_front}
use Rattle.tab_mem.proofs.sorting.classes.put_classes.Goals as goal

pub loop-at-init : goal.loop-at-init
loop-at-init c = record { rest = refl; front = take_all (length c.args.records.now) c.args.records.now (omega arith) }

pub loop-at-preserved : goal.loop-at-preserved
loop-at-preserved c =
    let ws = c.args.groups.now in
    let old = c.loop-at.records in
    let new = c.put_class.new.records in
    let init = c.args.records.now in
    let end = c.class_end-end.result in
    let put : new ≡ old ++ sorted (flat (slice_range ws c.loop-at.at end)) = c.in-Ok.ensures.ok in
    record {
      rest = class_put ws c.loop-at.at end c.class_end-end.ensures c.requires.rows c.requires.rising old new (init ++ sorted (flat ws)) c.requires.distinct put c.loop-at.invariant.rest;
      front = same_front init old new c.loop-at.invariant.front (ap (take (length old)) put ∙ take-append_seam old (sorted (flat (slice_range ws c.loop-at.at end))));
    }

pub returns-in-Err-clause-front : goal.returns-in-Err-clause-front
returns-in-Err-clause-front c = ap (take (length c.args.records.now)) c.in-Err.ensures.err ∙ c.loop-at.invariant.front

pub returns-clause-ok : goal.returns-clause-ok
returns-clause-ok c =
    let ws = c.args.groups.now in
    let old = c.loop-at.records in
    let past : length ws ≤ c.loop-at.at = omega arith in
    sym (append-nil old) ∙ ap (λ l. old ++ sorted (flat l)) (sym (drop_all c.loop-at.at ws past)) ∙ c.loop-at.invariant.rest

pub returns-clause-front : goal.returns-clause-front
returns-clause-front c = c.loop-at.invariant.front
