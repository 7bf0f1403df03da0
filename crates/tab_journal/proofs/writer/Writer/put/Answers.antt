use Rattle.std.proofs.Common.{rules, ◌≡◌, ◌≤◌, ◌<◌, ◌^◌, ◌+◌, ◌++◌, ◌∷◌, [], ℕ, List, false, length, refl, sym, subst, ◌∙◌, ap, arith}
use Rattle.std.proofs.lemmas.List.{length-append}
use Rattle.std.proofs.Math.Logic.{∥∥₁_map}
use Rattle.tab_wire.specs.Replies.{u64}
use Rattle.tab_journal.specs.Spelling.{batch_bytes}
use Rattle.tab_journal.specs.Writing.{around, KeepFirst}
use Rattle.tab_journal.proofs.Appending.{put_keeps, put_as, something_keeps}
use Rattle.tab_journal.proofs.Lengths.{length_batch, length_head, made_as}
use Rattle.tab_journal.proofs.Moments.{weaker}
use Rattle.tab_journal.proofs.Three.{Something}
use Rattle.tab_journal.proofs.writer.Writer.put.Goals as goal

pub returns-in_default-clause-refused : goal.returns-in_default-clause-refused
returns-in_default-clause-refused g c =
    let w = c.args.self.now in
    let over : 2 ^ 64 ≤ w.written + (length c.in_ok-head.head.items + 8 + length c.args.body.now) = search rules in
    (omega (arith, over, ap length c.in_ok-head.ensures, length_head w.seal w.settled (length c.args.body.now)), refl)

pub invariant_of-self-2 : goal.invariant_of-self-2
unfolding u64
invariant_of-self-2 g c =
    let w = c.args.self.now in
    let ok : w.has_failed ≡ false = search rules in
    let file = g.D.Device.seen w.device in
    let now = g.D.Device.seen c.put_three.new.device in
    let low : w.settled ≤ length file = omega (arith, w.ordered, w.counted ok) in
    let sum : ℕ = c.batch_sum-sum.result in
    let tail : c.to_be_bytes.result ≡ u64 sum = search rules in
    let text_is = made_as w.seal w.sum w.settled sum c.args.body.now c.as_slice.result.now c.to_be_bytes.result (c.as_slice.ensures.value ∙ c.in_ok-head.ensures) c.batch_sum-sum.ensures tail in
    let now_is : now ≡ file ++ batch_bytes w.seal w.sum w.settled c.args.body.now = c.in_ok-put_three.ensures.written ∙ ap (λ (z : List ℕ). file ++ z) text_is in
    let fits : w.settled < 2 ^ 64 = search rules in
    let short : length c.args.body.now < 2 ^ 32 = search rules in
    let right : sum < 2 ^ 64 = search rules in
    let grown : length now ≡ length file + length (batch_bytes w.seal w.sum w.settled c.args.body.now) = ap length now_is ∙ length-append file (batch_bytes w.seal w.sum w.settled c.args.body.now) in
    let long : length (batch_bytes w.seal w.sum w.settled c.args.body.now) ≡ around w.seal.form + length c.args.body.now = length_batch w.seal w.sum w.settled c.args.body.now in
    let head : length c.in_ok-head.head.items + 8 ≡ around w.seal.form = ap (λ (z : List ℕ). length z + 8) c.in_ok-head.ensures ∙ length_head w.seal w.settled (length c.args.body.now) in
    let count : c.in-Some.written ≡ w.written + (length c.in_ok-head.head.items + 8 + length c.args.body.now) = search rules in
    let all : length c.as_slice.result.now + (length c.args.body.now + length c.to_be_bytes.result) ≡ length (batch_bytes w.seal w.sum w.settled c.args.body.now) =
    omega (arith, ap length text_is, length-append c.as_slice.result.now (c.args.body.now ++ c.to_be_bytes.result), length-append c.args.body.now c.to_be_bytes.result) in
    record {
      usable = λ good. c.in_ok-put_three.ensures.usable;
      counted = λ good. omega (arith, count, w.counted ok, grown, long, head);
      ordered = omega (arith, w.ordered, count);
      kept = λ good. subst (λ (z : List ℕ). KeepFirst w.settled z (g.D.Device.may_leave c.put_three.new.device)) (sym now_is)
          (put_keeps w.settled _ file _ _ (w.kept ok) low c.put_three.ensures.crash (batch_bytes w.seal w.sum w.settled c.args.body.now) (sym all));
      journal = λ good. ∥∥₁_map (w.journal ok)
          (λ j. (j.0, j.1 ++ record { settled = w.settled; body = c.args.body.now; sum = sum } ∷ [], j.2, put_as file now c.args.body.now w.seal w.sum w.settled sum j.0 j.1 j.2 now_is c.batch_sum-sum.ensures low fits short right j.3));
    }

pub returns-clause-batch : goal.returns-clause-batch
unfolding u64
returns-clause-batch g c header bs k is =
    let w = c.args.self.now in
    let ok : w.has_failed ≡ false = search rules in
    let file = g.D.Device.seen w.device in
    let now = g.D.Device.seen c.put_three.new.device in
    let low : w.settled ≤ length file = omega (arith, w.ordered, w.counted ok) in
    let sum : ℕ = c.batch_sum-sum.result in
    let tail : c.to_be_bytes.result ≡ u64 sum = search rules in
    let text_is = made_as w.seal w.sum w.settled sum c.args.body.now c.as_slice.result.now c.to_be_bytes.result (c.as_slice.ensures.value ∙ c.in_ok-head.ensures) c.batch_sum-sum.ensures tail in
    let now_is : now ≡ file ++ batch_bytes w.seal w.sum w.settled c.args.body.now = c.in_ok-put_three.ensures.written ∙ ap (λ (z : List ℕ). file ++ z) text_is in
    let fits : w.settled < 2 ^ 64 = search rules in
    let short : length c.args.body.now < 2 ^ 32 = search rules in
    let right : sum < 2 ^ 64 = search rules in
    put_as file now c.args.body.now w.seal w.sum w.settled sum header bs k now_is c.batch_sum-sum.ensures low fits short right is

pub returns-clause-written : goal.returns-clause-written
unfolding u64
returns-clause-written g c =
    let w = c.args.self.now in
    let sum : ℕ = c.batch_sum-sum.result in
    let tail : c.to_be_bytes.result ≡ u64 sum = search rules in
    let text_is = made_as w.seal w.sum w.settled sum c.args.body.now c.as_slice.result.now c.to_be_bytes.result (c.as_slice.ensures.value ∙ c.in_ok-head.ensures) c.batch_sum-sum.ensures tail in
    c.in_ok-put_three.ensures.written ∙ ap (λ (z : List ℕ). g.D.Device.seen w.device ++ z) text_is

pub returns-in_err-put_three-clause-any_moment : goal.returns-in_err-put_three-clause-any_moment
returns-in_err-put_three-clause-any_moment g c ok =
    let w = c.args.self.now in
    let file = g.D.Device.seen w.device in
    let low : w.settled ≤ length file = omega (arith, w.ordered, w.counted ok) in
    let head = length c.as_slice.result.now in
    let body = length c.args.body.now in
    let tail = length c.to_be_bytes.result in
    weaker g.D.Device.moment g.D.Device.left_since w.device c.put_three.new.device (Something (length file) head body tail (g.D.Device.may_leave w.device)) _
    (something_keeps w.settled w.written head body tail file (g.D.Device.may_leave w.device) (w.kept ok) low (w.counted ok)) c.put_three.ensures.any_moment

pub returns-clause-any_moment : goal.returns-clause-any_moment
returns-clause-any_moment g c ok =
    let w = c.args.self.now in
    let file = g.D.Device.seen w.device in
    let low : w.settled ≤ length file = omega (arith, w.ordered, w.counted ok) in
    let head = length c.as_slice.result.now in
    let body = length c.args.body.now in
    let tail = length c.to_be_bytes.result in
    weaker g.D.Device.moment g.D.Device.left_since w.device c.put_three.new.device (Something (length file) head body tail (g.D.Device.may_leave w.device)) _
    (something_keeps w.settled w.written head body tail file (g.D.Device.may_leave w.device) (w.kept ok) low (w.counted ok)) c.put_three.ensures.any_moment
