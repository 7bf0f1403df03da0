use Rattle.std.proofs.Common.{◌≡◌, ◌∙◌, ◌+◌, ◌-◌, ◌++◌, List, ℕ, ap, take, drop, arith}
use Rattle.std.specs.List.{slice_range}
use Rattle.tab_mem.proofs.Pasted.{apart_behind}
use borrow.Rule.Slice.PartMut.{put_mid}
use Rattle.tab_mem.proofs.partitions.moving.move_apart.Goals as goal

pub returns-clause-behind : goal.returns-clause-behind
returns-clause-behind c =
    let old = c.args.body.now in
    let place = c.args.place in
    let end = c.args.end in
    let to = c.args.to in
    let k = to + (end - place) - to in
    let ys = c.copy_from_slice.new.self in
    let parts = c.split_at_mut-front.ensures in
    let is : ys ≡ slice_range old place end = c.copy_from_slice.ensures.after ∙ ap (take (end - place)) parts.back in
    ap (λ (f : List ℕ). drop end (put_mid to k f ys ++ c.split_at_mut-front.result.1.now)) parts.front
    ∙ ap (λ (b : List ℕ). drop end (put_mid to k (take place old) ys ++ b)) parts.back
    ∙ apart_behind old place end to c.requires.order c.requires.inside (omega (arith, c.requires.earlier)) k ys (omega arith) c.requires.earlier is
