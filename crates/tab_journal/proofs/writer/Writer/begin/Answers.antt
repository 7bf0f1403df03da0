use Rattle.std.proofs.Common.{rules, ◌≡◌, ℕ, [], length, FitsSigned, w64, sym, subst, ◌∙◌, ap, arith}
use Rattle.std.proofs.Math.Facts.{Fits-of_z, Fits-lt-pow}
use Rattle.tab_journal.specs.Laws.{FitsFront}
use Rattle.tab_journal.specs.Said.{header_in}
use Rattle.tab_journal.specs.Writing.{KeepFirst}
use Rattle.tab_journal.proofs.Appending.{begun_as, only_keeps}
use Rattle.tab_journal.proofs.Lengths.{length_header}
use Rattle.tab_journal.proofs.writer.Writer.begin.Goals as goal

pub invariant_of-result : goal.invariant_of-result
invariant_of-result g c =
    let file = g.D.Device.seen c.put_header.new.device in
    let clock : FitsSigned w64 c.args.header.clock = search rules in
    let fits : FitsFront (header_in c.args.header) =
    record { generation = search rules; next = search rules; clock = clock; bits = Fits-lt-pow (Fits-of_z {w = w64} {z = c.args.header.clock} clock); salt = search rules; sum = search rules; right = c.requires.right } in
    let long : length file ≡ 48 = ap length c.in-Ok.ensures.written ∙ length_header (header_in c.args.header) in
    let written = begun_as file (header_in c.args.header) c.in-Ok.ensures.written fits in
    record {
      usable = λ ok. c.in-Ok.ensures.usable;
      counted = λ ok. sym long;
      ordered = omega arith;
      kept = λ ok. subst (λ (n : ℕ). KeepFirst n file (g.D.Device.may_leave c.put_header.new.device)) long (only_keeps file (g.D.Device.may_leave c.put_header.new.device) c.in-Ok.ensures.durable);
      journal = λ ok. ∣ (header_in c.args.header, [], 0, written) ∣₁;
    }

pub returns-in-Ok-clause-none : goal.returns-in-Ok-clause-none
returns-in-Ok-clause-none g c =
    let file = g.D.Device.seen c.put_header.new.device in
    let clock : FitsSigned w64 c.args.header.clock = search rules in
    let fits : FitsFront (header_in c.args.header) =
    record { generation = search rules; next = search rules; clock = clock; bits = Fits-lt-pow (Fits-of_z {w = w64} {z = c.args.header.clock} clock); salt = search rules; sum = search rules; right = c.requires.right } in
    begun_as file (header_in c.args.header) c.in-Ok.ensures.written fits
