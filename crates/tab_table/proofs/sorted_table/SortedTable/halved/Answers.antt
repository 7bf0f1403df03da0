-- The half in which what is sought lies.
use Rattle.std.proofs.Common.{◌≡◌, ◌<◌, ◌+◌, ◌-◌, ◌/◌, true, false, ap, sym, ◌∙◌, length, arith}
use Rattle.std.specs.List.{slice_index_or}
use Rattle.tab_mem.specs.Starts.{is_before}
use Rattle.tab_mem.proofs.Seeking.{blank, before_earlier, before_later}
use Rattle.tab_table.specs.Blocks.{no_key, block_records}
use Rattle.tab_table.proofs.Laid.{length_listed}
use Rattle.tab_table.proofs.sorted_table.SortedTable.halved.Goals as goal

pub precedes-requires : goal.precedes-requires
precedes-requires c =
    let packed = c.args.self.now.packed in
    omega (arith, c.requires.inside, c.loop-high.invariant.end, length_listed packed.bytes 0 no_key 0 packed.count)

pub loop-high-preserved-then-precedes : goal.loop-high-preserved-then-precedes
loop-high-preserved-then-precedes c =
    let packed = c.args.self.now.packed in
    let rs = block_records packed.bytes packed.count in
    let mid = c.loop-high.low + (c.loop-high.high - c.loop-high.low) / 2 in
    let inside : mid < length rs = omega (arith, c.requires.inside, c.loop-high.invariant.end) in
    let here : is_before c.args.target.now.start (slice_index_or rs mid blank) ≡ true = ap (λ s. is_before s (slice_index_or rs mid blank)) (sym c.start.ensures) ∙ sym (c.precedes.ensures blank) ∙ cc in
    let more = before_earlier c.args.target.now.start rs c.args.self.now.rising mid blank inside here in
    record { low_in = omega (arith, more); high_in = c.loop-high.invariant.high_in; start = omega arith; end = c.loop-high.invariant.end }

pub loop-high-preserved : goal.loop-high-preserved
loop-high-preserved c =
    let packed = c.args.self.now.packed in
    let rs = block_records packed.bytes packed.count in
    let mid = c.loop-high.low + (c.loop-high.high - c.loop-high.low) / 2 in
    let inside : mid < length rs = omega (arith, c.requires.inside, c.loop-high.invariant.end) in
    let here : is_before c.args.target.now.start (slice_index_or rs mid blank) ≡ false = ap (λ s. is_before s (slice_index_or rs mid blank)) (sym c.start.ensures) ∙ sym (c.precedes.ensures blank) ∙ cc in
    let more = before_later c.args.target.now.start rs mid blank here inside in
    record { low_in = c.loop-high.invariant.low_in; high_in = omega (arith, more); start = c.loop-high.invariant.start; end = omega arith }
