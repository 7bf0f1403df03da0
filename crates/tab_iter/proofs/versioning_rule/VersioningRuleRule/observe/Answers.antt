-- One record more was observed, and counted if it is a put.
use Rattle.std.proofs.Common.{◌≡◌, ℕ, ◌-◌, Bool, true, false, cond, ap, sym, subst, ◌∙◌, nat_lt}
use Rattle.std.proofs.Math.Logic.{∥∥₁_map, ∥∥₁_elim}
use Rattle.std.specs.Coded.{Coded-set, coded_bool}
use Rattle.tab_key.specs.Kept.{is_put}
use Rattle.tab_iter.specs.Columns.{left_of, KnowsCount}
use Rattle.tab_iter.proofs.ColumnLaws.{put_among, marker_among, counts_put, counts_marker}
use Rattle.tab_iter.proofs.versioning_rule.VersioningRuleRule.observe.Goals as goal
use Rattle.tab_iter.proofs.versioning_rule.VersioningRuleRule.observe.Goals.{then-branch, else-branch}

pub returns-in-Delete-clause-judged : goal.returns-in-Delete-clause-judged
returns-in-Delete-clause-judged c = λ w rs up end t. marker_among c.args.self.now.keeps c.args.self.now.most w c.args.next.now (ap is_put (sym c.kind.ensures ∙ c.in-Delete.is))

pub returns-in-Delete-clause-observed : goal.returns-in-Delete-clause-observed
returns-in-Delete-clause-observed c = λ w rs up end t. ∥∥₁_map t (counts_marker c.args.self.now.most c.args.self.now.left c.args.self.now.column w c.args.next.now rs up end (ap is_put (sym c.kind.ensures ∙ c.in-Delete.is)))

same_left : {b : Bool} (n left : ℕ) → b ≡ true → left ≡ cond b left n
same_left n left e = ap (λ v. cond v left n) (sym e)

other_left : {b : Bool} (n left : ℕ) → b ≡ false → n ≡ cond b left n
other_left n left e = ap (λ v. cond v left n) (sym e)

pub returns-after-branch-clause-judged : goal.returns-after-branch-clause-judged
returns-after-branch-clause-judged c =
    let left : c.if-branch.left ≡ left_of c.args.self.now.most c.args.self.now.column c.args.self.now.left c.args.next.now.key = elim c.if-branch.branch [
      | then-branch w ↦ w.left-is ∙ same_left c.args.self.now.most c.args.self.now.left (sym c.in_ok-remember-in-Put.ensures.same ∙ w.if-branch.true)
      | else-branch w ↦ w.left-is ∙ other_left c.args.self.now.most c.args.self.now.left (sym c.in_ok-remember-in-Put.ensures.same ∙ w.if-branch.false)
    ] in
    λ w rs up end t. ∥∥₁_elim t (Coded-set coded_bool _ _) (λ t. ap (nat_lt 0) left ∙ put_among c.args.self.now.keeps c.args.self.now.most c.args.self.now.left c.args.self.now.column w c.args.next.now rs up end (ap is_put (sym c.kind.ensures ∙ c.in-Put.is)) t)

pub returns-after-branch-clause-observed : goal.returns-after-branch-clause-observed
returns-after-branch-clause-observed c =
    let left : c.if-branch.left ≡ left_of c.args.self.now.most c.args.self.now.column c.args.self.now.left c.args.next.now.key = elim c.if-branch.branch [
      | then-branch w ↦ w.left-is ∙ same_left c.args.self.now.most c.args.self.now.left (sym c.in_ok-remember-in-Put.ensures.same ∙ w.if-branch.true)
      | else-branch w ↦ w.left-is ∙ other_left c.args.self.now.most c.args.self.now.left (sym c.in_ok-remember-in-Put.ensures.same ∙ w.if-branch.false)
    ] in
    λ w rs up end t. ∥∥₁_map t (λ t.
    subst (λ k. KnowsCount c.args.self.now.most c.remember.new.self k w rs) (sym (c.saturating_sub-self.ensures ∙ ap (λ k. k - 1) left))
    (counts_put c.args.self.now.most c.args.self.now.left c.args.self.now.column c.remember.new.self w c.args.next.now rs up end (ap is_put (sym c.kind.ensures ∙ c.in-Put.is)) c.in_ok-remember-in-Put.ensures.column t))
