use Rattle.std.proofs.Common.{rules, ◌≡◌, ℕ, true, length, sym, subst, ◌∙◌, arith}
use Rattle.tab_codec.proofs.Exact.{some_inj}
use Rattle.tab_journal.specs.Reading.{Journal}
use Rattle.tab_journal.specs.Writing.{KeepFirst, IsWritten}
use Rattle.tab_journal.proofs.Appending.{only_keeps}
use Rattle.tab_journal.proofs.Resuming.{length_is, resumed}
use Rattle.tab_journal.proofs.writer.Writer.resume.Goals as goal

pub invariant_of-result : goal.invariant_of-result
invariant_of-result g c =
    let file = g.D.Device.seen c.args.device in
    let e = c.args.end.now in
    let timely : e.is_timely ≡ true = search rules in
    let ends = c.requires.read in
    let long = length_is file e ends c.requires.whole in
    record {
      usable = λ ok. c.requires.usable;
      counted = λ ok. long;
      ordered = omega arith;
      kept = λ ok. subst (λ (n : ℕ). KeepFirst n file (g.D.Device.may_leave c.args.device)) (sym long) (only_keeps file (g.D.Device.may_leave c.args.device) c.requires.durable);
      journal = λ ok. ∣ (ends.journal.header, ends.journal.batches, length ends.journal.batches, resumed file e ends c.requires.whole timely) ∣₁;
    }

pub returns-clause-batches : goal.returns-clause-batches
returns-clause-batches g c j is =
    let file = g.D.Device.seen c.args.device in
    let e = c.args.end.now in
    let timely : e.is_timely ≡ true = search rules in
    let ends = c.requires.read in
    let same : ends.journal ≡ j = some_inj ends.journal j (sym ends.read ∙ is) in
    subst (λ (x : Journal). IsWritten file e.header.seal e.sum e.length x.header x.batches (length x.batches)) same (resumed file e ends c.requires.whole timely)
