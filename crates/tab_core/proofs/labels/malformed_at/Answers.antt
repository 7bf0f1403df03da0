use Rattle.std.proofs.Common.{◌≡◌, ◌<◌, ◌≤◌, ℕ, List, length, arith, Err, subst, sym}
use Rattle.tab_label.specs.Holding.{judged}
use Rattle.tab_core.proofs.Limits.{judged_within}
use Rattle.tab_core.proofs.labels.malformed_at.Goals as goal

pub overflow_cast-result : goal.overflow_cast-result
overflow_cast-result c =
    let is : judged c.label.result.now c.args.auths.now ≡ Err c.in-Err.offset = sym c.in-Err.ensures in
    let text : c.label.result.now ≡ c.args.update.now.label = c.label.ensures in
    let w : c.in-Err.offset ≤ length c.args.update.now.label = judged_within c.args.update.now.label c.args.auths.now c.in-Err.offset (subst (λ (t : List ℕ). judged t c.args.auths.now ≡ Err c.in-Err.offset) text is) in
    let small : length c.args.update.now.label < 4294967296 = c.requires in
    omega (arith, w, small)
