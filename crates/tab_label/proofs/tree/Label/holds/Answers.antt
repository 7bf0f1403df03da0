use Rattle.tab_label.specs.Views.{meaning_of}
use Rattle.tab_label.proofs.HoldingLemmas.{holds_test}
use Rattle.tab_label.proofs.tree.Label.holds.Goals as goal

pub returns-in-Only-clause-test : goal.returns-in-Only-clause-test
returns-in-Only-clause-test c = holds_test c.holds.result (meaning_of c.args.self.now) c.args.auths.now (rw c.in-Only.is c.holds.ensures)
