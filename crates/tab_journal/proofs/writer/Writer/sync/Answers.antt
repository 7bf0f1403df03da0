use Rattle.std.proofs.Common.{rules, ◌≡◌, ℕ, List, false, length, sym, subst, ◌∙◌, ap, arith}
use Rattle.std.proofs.Math.Logic.{∥∥₁_map}
use Rattle.tab_journal.specs.Device.{Only}
use Rattle.tab_journal.specs.Writing.{KeepFirst}
use Rattle.tab_journal.proofs.Appending.{only_keeps, settled_as}
use Rattle.tab_journal.proofs.writer.Writer.sync.Goals as goal

pub invariant_of-self-2 : goal.invariant_of-self-2
invariant_of-self-2 g c =
    let w = c.args.self.now in
    let ok : w.has_failed ≡ false = search rules in
    let file = g.D.Device.seen w.device in
    let now = g.D.Device.seen c.sync.new.self in
    let same : now ≡ file = c.in_ok-sync.ensures.seen in
    let long : w.written ≡ length now = w.counted ok ∙ ap length (sym same) in
    let durable : Only now (g.D.Device.may_leave c.sync.new.self) = subst (λ (z : List ℕ). Only z (g.D.Device.may_leave c.sync.new.self)) (sym same) c.in_ok-sync.ensures.durable in
    record {
      usable = λ good. c.in_ok-sync.ensures.usable;
      counted = λ good. long;
      ordered = omega arith;
      kept = λ good. subst (λ (n : ℕ). KeepFirst n now (g.D.Device.may_leave c.sync.new.self)) (sym long) (only_keeps now (g.D.Device.may_leave c.sync.new.self) durable);
      journal = λ good. ∥∥₁_map (w.journal ok) (λ j. (j.0, j.1, length j.1, settled_as file now w.seal w.sum w.settled w.written j.0 j.1 j.2 same (w.counted ok) j.3));
    }

pub returns-clause-batches : goal.returns-clause-batches
returns-clause-batches g c header bs k is =
    let w = c.args.self.now in
    let ok : w.has_failed ≡ false = search rules in
    settled_as (g.D.Device.seen w.device) (g.D.Device.seen c.sync.new.self) w.seal w.sum w.settled w.written header bs k c.in_ok-sync.ensures.seen (w.counted ok) is
