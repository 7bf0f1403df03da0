-- Near the place, or anywhere behind it.
use Rattle.std.proofs.Common.{◌≡◌, ◌<◌, false, ap, sym, ◌∙◌, length, arith}
use Rattle.std.specs.List.{slice_index_or}
use Rattle.tab_mem.specs.Starts.{is_before}
use Rattle.tab_mem.proofs.Seeking.{blank, before_later}
use Rattle.tab_table.specs.Blocks.{no_key, block_records}
use Rattle.tab_table.proofs.Laid.{length_listed}
use Rattle.tab_table.proofs.sorted_table.SortedTable.behind.Goals as goal

pub precedes-requires : goal.precedes-requires
precedes-requires c =
    let packed = c.args.self.now.packed in
    omega (arith, c.requires.inside, c.min-near.ensures, c.if-end-near.false, length_listed packed.bytes 0 no_key 0 packed.count)

pub returns-clause-count : goal.returns-clause-count
returns-clause-count c =
    let packed = c.args.self.now.packed in
    let rs = block_records packed.bytes packed.count in
    let near = c.min-near.result in
    let inside : near < length rs = omega (arith, c.requires.inside, c.if-end-near.false) in
    let here : is_before c.args.target.now.start (slice_index_or rs near blank) ≡ false = ap (λ s. is_before s (slice_index_or rs near blank)) (sym c.start.ensures) ∙ sym (c.precedes.ensures blank) ∙ c.if-precedes.false in
    let no_more = before_later c.args.target.now.start rs near blank here inside in
    omega (arith, no_more, c.if-end-near.false)
