-- A block's first record shares nothing.
use Rattle.std.proofs.Common.{◌%◌, sym, subst, cond, eq-eqb}
use Rattle.tab_table.specs.Blocks.{no_key, last_key}
use Rattle.tab_key.specs.Encoding.{record_at}
use Rattle.tab_table.specs.Counts.{AreShared}
use Rattle.tab_table.proofs.entry.counts_behind.Goals as goal

pub returns-then-index-eq0 : goal.returns-then-index-eq0
returns-then-index-eq0 c = subst (λ v. AreShared c.none.result (cond v no_key (last_key c.args.index c.args.last.now)) (record_at c.args.next.now 0)) (sym (eq-eqb (c.args.index % 64) 0 c.if-index-eq0.true)) (c.none.ensures (record_at c.args.next.now 0))
