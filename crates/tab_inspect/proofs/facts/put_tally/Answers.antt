use Rattle.std.proofs.Common.{ℕ, subst}
use Rattle.tab_io.specs.Writing.{Puts}
use Rattle.tab_inspect.specs.Facts.{tally_fact, tally_of}
use Rattle.tab_inspect.specs.declared.tally.RecordCounts.{RecordCounts}
use Rattle.tab_inspect.proofs.facts.put_tally.Goals as goal

pub returns : goal.returns
returns g c =
    let P : ℕ → RecordCounts → Type 0 = λ n t. Puts g.W.Output c.args.output.now c.put_counts.new.output (tally_fact c.args.table.now.head.name n t) c.put_counts.result in
    subst (λ (n : ℕ). P n (tally_of c.args.table.now.records)) c.len-many.ensures.len (subst (λ (t : RecordCounts). P c.len-many.result t) c.of.ensures c.put_counts.ensures)
