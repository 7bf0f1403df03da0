use Rattle.std.proofs.Common.{◌≡◌, List, map}
use Rattle.std.proofs.lemmas.Result.{IfOk-at_ok}
use Rattle.tab_key.specs.Records.{Cell, cell_of}
use Rattle.tab_key.specs.declared.range.Bounds.{Bounds}
use Rattle.tab_cells.specs.SessionState.{cells_within}
use Rattle.tab_version.specs.Shown.{shown}
use Rattle.tab_session.proofs.Shares.{both_answered}
use Rattle.tab_session.proofs.chunks.+read_by_threads.Goals as goal

pub returns : goal.returns
returns g t c =
    let asked = c.args.asked.now in
    let answer : Bounds → List Cell = λ rows. cells_within rows (map cell_of (shown c.args.version.now asked.versions asked.columns asked.auths)) in
    both_answered answer c.args.ranges.now _ _ _ _ _ c.split_at.ensures.by_index.0
    (IfOk-at_ok (λ v. v.items ≡ map answer _) c.in_ok-answers.was c.join-answers.ensures.first)
    (IfOk-at_ok (λ v. v.items ≡ map answer _) c.in_ok-more.was c.join-answers.ensures.second)
    c.in_ok-append.ensures.items
