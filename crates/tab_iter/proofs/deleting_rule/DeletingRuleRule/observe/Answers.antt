-- One record more was observed, a put or a marker.
use Rattle.std.proofs.Common.{ap, sym, ◌∙◌, not}
use Rattle.std.proofs.Math.Logic.{∥∥₁_map, ∥∥₁_elim}
use Rattle.std.specs.Coded.{Coded-set, coded_bool}
use Rattle.tab_key.specs.Kept.{is_put, hides}
use Rattle.tab_iter.proofs.ColumnLaws.{hiding, put_left, marker_left, passes_put, passes_marker}
use Rattle.tab_iter.proofs.deleting_rule.DeletingRuleRule.observe.Goals as goal

pub returns-in-Put-clause-judged : goal.returns-in-Put-clause-judged
returns-in-Put-clause-judged c = λ w rs up end t. ∥∥₁_elim t (Coded-set coded_bool _ _) (λ t. ap not c.is_of.ensures ∙ put_left c.args.self.now.keeps c.args.self.now.column w c.args.next.now rs up end (ap is_put (sym c.kind.ensures ∙ c.in-Put.is)) t)

pub returns-in-Put-clause-observed : goal.returns-in-Put-clause-observed
returns-in-Put-clause-observed c = λ w rs up end t. ∥∥₁_map t (passes_put hides hiding c.args.self.now.column w c.args.next.now rs (ap is_put (sym c.kind.ensures ∙ c.in-Put.is)))

pub returns-in_ok-remember-in-Delete-clause-judged : goal.returns-in_ok-remember-in-Delete-clause-judged
returns-in_ok-remember-in-Delete-clause-judged c = λ w rs up end t. marker_left c.args.self.now.keeps w c.args.next.now (ap is_put (sym c.kind.ensures ∙ c.in-Delete.is))

pub returns-in_ok-remember-in-Delete-clause-observed : goal.returns-in_ok-remember-in-Delete-clause-observed
returns-in_ok-remember-in-Delete-clause-observed c = λ w rs up end t. ∥∥₁_map t (passes_marker hides hiding c.args.self.now.column c.remember.new.self w c.args.next.now rs up end (ap is_put (sym c.kind.ensures ∙ c.in-Delete.is)) c.in_ok-remember-in-Delete.ensures.column)
