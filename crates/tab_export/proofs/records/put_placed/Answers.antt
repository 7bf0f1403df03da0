use Rattle.std.proofs.Common.{ℕ, List, None, ◌++◌, subst}
use Rattle.tab_key.specs.Records.{Record}
use Rattle.tab_io.specs.Writing.{Puts}
use Rattle.tab_export.specs.Script.{at_text, record_text, placed_text}
use Rattle.tab_export.proofs.records.put_placed.Goals as goal

pub returns : goal.returns
unfolding placed_text
returns g c =
    let P : List ℕ → Record → Type 0 = λ t r. Puts g.W.Output c.args.output.now c.put_timed.new.output (at_text r.key.timestamp ++ record_text t None r) c.put_timed.result in
    subst (λ (r : Record). P c.args.placed.now.table r) c.held.ensures
    (subst (λ (t : List ℕ). P t c.held.result.now) c.table.ensures c.put_timed.ensures)
