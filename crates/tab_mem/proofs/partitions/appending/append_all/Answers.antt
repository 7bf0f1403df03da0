use Rattle.std.proofs.Common.{rules, ◌≡◌, ◌<◌, ◌^◌, ◌*◌, ◌≤◌, length, ◌+◌, ◌-◌, ◌∷◌, [], ◌++◌, ◌∙◌, ap, sym, subst, map, reverse, take, arith, w64, to_z, of_z}
use Rattle.std.proofs.lemmas.Int.{to_z-of_z}
use Rattle.tab_key.specs.Encoding.{record_at, records_at, places_from, IsShort}
use Rattle.tab_key.proofs.Placed.{pushed_at, pushed_records}
use Rattle.tab_cells.specs.Written.{timed, record_of, records_of}
use Rattle.tab_iter.specs.Lists.{HasI64Timestamps}
use Rattle.tab_cells.proofs.Written.{records_step, records_all}
use Rattle.tab_key.proofs.Sequence.{grown_places, grown_end, many_fit}
use Rattle.tab_mem.proofs.KeptFront.{same_front}
use Rattle.tab_mem.proofs.ShortParts.{record_short}
use Rattle.tab_mem.proofs.Written.{timestamps_more, timestamps_none}
use Rattle.tab_mem.proofs.partitions.appending.append_all.Goals as goal

pub append_one-requires : goal.append_one-requires
append_one-requires c =
    let clock = to_z w64 (of_z w64 c.args.clock) in
    let before = c.loop-index.index - 1 in
    let low : before < length c.args.mutation.now.updates = omega (arith, c.loop-index.invariant.left, c.loop-index-test.true) in
    subst (λ r. IsShort (record_of c.args.seq r before (timed clock c.update-update.result))) (sym c.row.ensures) (record_short c.args.seq clock c.args.mutation.now before c.update-update.result c.keeps.ensures low c.update-update.ensures)

pub overflow_add-count : goal.overflow_add-count
overflow_add-count c =
    let old = c.loop-index.body.items in
    let all : 0 + 41 * c.loop-index.count ≤ length old = subst (λ n. 0 + 41 * c.loop-index.count ≤ n) c.loop-index.invariant.filled.ends (many_fit old 0 c.loop-index.count) in
    let low : c.in_ok-append_one.field-0 < 2 ^ 64 = search rules in
    omega (arith, all, low, c.in_ok-append_one.ensures.place)

pub loop-index-preserved : goal.loop-index-preserved
loop-index-preserved c =
    let seq = c.args.seq in
    let row = c.args.mutation.now.row in
    let us = c.args.mutation.now.updates in
    let clock = to_z w64 (of_z w64 c.args.clock) in
    let inv = c.loop-index.invariant in
    let before = c.loop-index.index - 1 in
    let next : before + 1 ≡ c.loop-index.index = omega (arith, c.loop-index-test.true) in
    let old = c.loop-index.body.items in
    let new = c.append_one.new.body.items in
    let count = c.loop-index.count in
    let place = c.in_ok-append_one.field-0 in
    let made = c.in_ok-append_one.ensures in
    let front = c.append_one.ensures.front in
    let one : record_at new place ≡ record_of seq row before (timed clock c.update-update.result) = made.record ∙ (λ i. record_of seq (c.row.ensures i) before (timed clock c.update-update.result)) in
    let grown : places_from new 0 (count + 1) ≡ places_from old 0 count ++ place ∷ [] = grown_places old new front count place inv.filled.at inv.filled.ends made.place in
    record {
      left = omega (arith, inv.left);
      bytes = same_front c.args.body.now.items old new inv.bytes front;
      filled = record {
        at = pushed_at old new (places_from old 0 count) (places_from new 0 (count + 1)) place grown front inv.filled.at made.within;
        ends = grown_end old new front count place inv.filled.at inv.filled.ends made.place made.end;
      };
      timestamps = λ t. inv.timestamps (subst (λ i. HasI64Timestamps (records_of seq row (reverse (map (timed clock) (take i us))))) next (timestamps_more seq row clock us before c.update-update.result (omega (arith, inv.left, c.loop-index-test.true)) c.update-update.ensures c.append_one.ensures.timestamp t));
      records =
          ap (λ l. l ++ records_of seq row (reverse (map (timed clock) (take before us)))) (pushed_records old new (places_from old 0 count) (places_from new 0 (count + 1)) place _ grown front inv.filled.at one)
          ∙ records_step seq row clock us before c.update-update.result (records_at old (places_from old 0 count)) _ (omega (arith, inv.left, c.loop-index-test.true)) c.update-update.ensures
          (ap (λ i. records_at old (places_from old 0 count) ++ records_of seq row (reverse (map (timed clock) (take i us)))) next ∙ inv.records);
    }

pub returns-clause-records : goal.returns-clause-records
returns-clause-records c =
    let seq = c.args.seq in
    let row = c.args.mutation.now.row in
    let us = c.args.mutation.now.updates in
    let clock = to_z w64 (of_z w64 c.args.clock) in
    let same : clock ≡ c.args.clock = to_z-of_z w64 c.args.clock c.ranges.clock in
    records_all seq row clock us c.loop-index.index (records_at c.loop-index.body.items (places_from c.loop-index.body.items 0 c.loop-index.count)) _ c.loop-index-test.false c.loop-index.invariant.records ∙ ap (λ k. records_at c.args.body.now.items (places_from c.args.body.now.items 0 c.args.count) ++ records_of seq row (reverse (map (timed k) us))) same

pub returns-clause-timestamps : goal.returns-clause-timestamps
returns-clause-timestamps c =
    let row = c.args.mutation.now.row in
    let us = c.args.mutation.now.updates in
    let same : to_z w64 (of_z w64 c.args.clock) ≡ c.args.clock = to_z-of_z w64 c.args.clock c.ranges.clock in
    subst (λ k. HasI64Timestamps (records_of c.args.seq row (reverse (map (timed k) us)))) same (c.loop-index.invariant.timestamps (timestamps_none c.args.seq row _ us c.loop-index.index c.loop-index-test.false))
