-- One record more fills the body.
use Rattle.std.proofs.Common.{refl, arith}
use Rattle.tab_key.specs.Encoding.{record_at}
use Rattle.tab_table.specs.Blocks.{base_of, last_key}
use Rattle.tab_table.specs.Counts.{AreShared}
use Rattle.tab_table.proofs.Blocked.{blocks_more, records_more, there_still, counts_there}
use Rattle.tab_table.proofs.Shares.{shared_second}
use Rattle.tab_table.proofs.entry.put_next.Goals as goal

pub put_entry-requires-clause-row : goal.put_entry-requires-clause-row
put_entry-requires-clause-row c =
    let shares : AreShared c.counts_behind-counts.result (base_of c.args.count (last_key c.args.count c.args.last.now)) (record_at c.args.next.now 0) = c.counts_behind-counts.ensures in
    omega (arith, shares.row, shared_second (base_of c.args.count (last_key c.args.count c.args.last.now)).row (record_at c.args.next.now 0).key.row)

pub put_entry-requires-clause-family : goal.put_entry-requires-clause-family
put_entry-requires-clause-family c =
    let shares : AreShared c.counts_behind-counts.result (base_of c.args.count (last_key c.args.count c.args.last.now)) (record_at c.args.next.now 0) = c.counts_behind-counts.ensures in
    omega (arith, shares.family, shared_second (base_of c.args.count (last_key c.args.count c.args.last.now)).family (record_at c.args.next.now 0).key.family)

pub put_entry-requires-clause-qualifier : goal.put_entry-requires-clause-qualifier
put_entry-requires-clause-qualifier c =
    let shares : AreShared c.counts_behind-counts.result (base_of c.args.count (last_key c.args.count c.args.last.now)) (record_at c.args.next.now 0) = c.counts_behind-counts.ensures in
    omega (arith, shares.qualifier, shared_second (base_of c.args.count (last_key c.args.count c.args.last.now)).qualifier (record_at c.args.next.now 0).key.qualifier)

pub put_entry-requires-clause-label : goal.put_entry-requires-clause-label
put_entry-requires-clause-label c =
    let shares : AreShared c.counts_behind-counts.result (base_of c.args.count (last_key c.args.count c.args.last.now)) (record_at c.args.next.now 0) = c.counts_behind-counts.ensures in
    omega (arith, shares.label, shared_second (base_of c.args.count (last_key c.args.count c.args.last.now)).label (record_at c.args.next.now 0).key.label)

pub returns-clause-blocks : goal.returns-clause-blocks
returns-clause-blocks c =
    let base = base_of c.args.count (last_key c.args.count c.args.last.now) in
    let shares : AreShared c.counts_behind-counts.result (base_of c.args.count (last_key c.args.count c.args.last.now)) (record_at c.args.next.now 0) = c.counts_behind-counts.ensures in
    blocks_more c.args.body.now.items c.put_entry.new.body.items c.args.count (last_key c.args.count c.args.last.now) base c.in_ok-put_entry.field-0 (record_at c.args.next.now 0) c.requires.blocks refl c.in_ok-put_entry.ensures.place (c.in_ok-put_entry.ensures.put base shares)

pub returns-clause-records : goal.returns-clause-records
returns-clause-records c =
    let base = base_of c.args.count (last_key c.args.count c.args.last.now) in
    let shares : AreShared c.counts_behind-counts.result (base_of c.args.count (last_key c.args.count c.args.last.now)) (record_at c.args.next.now 0) = c.counts_behind-counts.ensures in
    records_more c.args.body.now.items c.put_entry.new.body.items c.args.count (last_key c.args.count c.args.last.now) base c.in_ok-put_entry.field-0 (record_at c.args.next.now 0) c.requires.blocks refl c.in_ok-put_entry.ensures.place (c.in_ok-put_entry.ensures.put base shares)

pub returns-clause-there : goal.returns-clause-there
returns-clause-there c =
    let base = base_of c.args.count (last_key c.args.count c.args.last.now) in
    let shares : AreShared c.counts_behind-counts.result (base_of c.args.count (last_key c.args.count c.args.last.now)) (record_at c.args.next.now 0) = c.counts_behind-counts.ensures in
    there_still c.args.body.now.items c.put_entry.new.body.items c.args.count (last_key c.args.count c.args.last.now) base c.in_ok-put_entry.field-0 (record_at c.args.next.now 0) c.requires.blocks refl c.in_ok-put_entry.ensures.place (c.in_ok-put_entry.ensures.put base shares)

pub returns-clause-counts : goal.returns-clause-counts
returns-clause-counts c =
    let base = base_of c.args.count (last_key c.args.count c.args.last.now) in
    let shares : AreShared c.counts_behind-counts.result (base_of c.args.count (last_key c.args.count c.args.last.now)) (record_at c.args.next.now 0) = c.counts_behind-counts.ensures in
    counts_there c.args.body.now.items c.put_entry.new.body.items c.args.count (last_key c.args.count c.args.last.now) base c.in_ok-put_entry.field-0 (record_at c.args.next.now 0) c.requires.blocks refl c.in_ok-put_entry.ensures.place (c.in_ok-put_entry.ensures.put base shares)
