use Rattle.std.proofs.Common.{arith}
use Rattle.tab_label.proofs.ReadAs.{is_read, is_read_by}
use Rattle.tab_label.proofs.tree.Label.parse.Goals as goal

pub returns-clause-only : goal.returns-clause-only
returns-clause-only c = λ m h. is_read c.parse.result c.args.text.now m c.parse.ensures.label c.parse.ensures.malformed h

pub returns-clause-exact : goal.returns-clause-exact
returns-clause-exact c = is_read_by c.parse.result c.args.text.now (λ k. omega (arith, c.type_inv.text k)) c.parse.ensures.label c.parse.ensures.malformed
