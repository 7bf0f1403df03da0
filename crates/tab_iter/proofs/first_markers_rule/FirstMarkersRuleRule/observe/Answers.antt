-- One record more was observed, a put or a marker.
use Rattle.std.proofs.Common.{ap, sym, ◌∙◌, not, ◌&&◌}
use Rattle.std.specs.Prelude.{int_lt}
use Rattle.std.proofs.Math.Logic.{∥∥₁_map, ∥∥₁_elim}
use Rattle.std.specs.Coded.{Coded-set, coded_bool}
use Rattle.tab_key.specs.Kept.{is_put}
use Rattle.tab_iter.specs.Columns.{leads}
use Rattle.tab_iter.proofs.ColumnLaws.{leading, put_needed, marker_needed, passes_put, passes_marker}
use Rattle.tab_iter.proofs.first_markers_rule.FirstMarkersRuleRule.observe.Goals as goal

pub returns-in-Put-clause-judged : goal.returns-in-Put-clause-judged
returns-in-Put-clause-judged c = λ w rs up end t. put_needed c.args.self.now.full c.args.self.now.floor w c.args.next.now (ap is_put (sym c.kind.ensures ∙ c.in-Put.is))

pub returns-in-Put-clause-observed : goal.returns-in-Put-clause-observed
returns-in-Put-clause-observed c = λ w rs up end t. ∥∥₁_map t (passes_put leads leading c.args.self.now.column w c.args.next.now rs (ap is_put (sym c.kind.ensures ∙ c.in-Put.is)))

pub returns-then-branch-clause-judged : goal.returns-then-branch-clause-judged
returns-then-branch-clause-judged c = λ w rs up end t. ∥∥₁_elim t (Coded-set coded_bool _ _) (λ t.
    ap (λ v. not v && not (c.args.self.now.full && int_lt c.args.next.now.key.timestamp c.args.self.now.floor)) (sym (sym c.in_ok-remember-in-Delete.ensures.same ∙ c.if-branch.true))
    ∙ marker_needed c.args.self.now.full c.args.self.now.floor c.args.self.now.column w c.args.next.now rs up end (ap is_put (sym c.kind.ensures ∙ c.in-Delete.is)) t)

pub returns-then-branch-clause-observed : goal.returns-then-branch-clause-observed
returns-then-branch-clause-observed c = λ w rs up end t. ∥∥₁_map t (passes_marker leads leading c.args.self.now.column c.remember.new.self w c.args.next.now rs up end (ap is_put (sym c.kind.ensures ∙ c.in-Delete.is)) c.in_ok-remember-in-Delete.ensures.column)

pub returns-else-branch-clause-judged : goal.returns-else-branch-clause-judged
returns-else-branch-clause-judged c = λ w rs up end t. ∥∥₁_elim t (Coded-set coded_bool _ _) (λ t.
    ap not c.drops.ensures
    ∙ ap (λ v. not v && not (c.args.self.now.full && int_lt c.args.next.now.key.timestamp c.args.self.now.floor)) (sym (sym c.in_ok-remember-in-Delete.ensures.same ∙ c.if-branch.false))
    ∙ marker_needed c.args.self.now.full c.args.self.now.floor c.args.self.now.column w c.args.next.now rs up end (ap is_put (sym c.kind.ensures ∙ c.in-Delete.is)) t)

pub returns-else-branch-clause-observed : goal.returns-else-branch-clause-observed
returns-else-branch-clause-observed c = λ w rs up end t. ∥∥₁_map t (passes_marker leads leading c.args.self.now.column c.remember.new.self w c.args.next.now rs up end (ap is_put (sym c.kind.ensures ∙ c.in-Delete.is)) c.in_ok-remember-in-Delete.ensures.column)
