-- Equal bytes hold the same record.
use Rattle.std.proofs.Common.{sym, ◌∙◌}
use Rattle.tab_key.proofs.SameRecords.{bytes_same}
use Rattle.tab_key.proofs.record_ref.RecordRef.same_record.Goals as goal

pub returns-then-eq : goal.returns-then-eq
returns-then-eq c =
    c.if-eq.true
    ∙ sym (bytes_same c.encoded.result.now c.encoded-2.result.now c.args.self.now c.args.other.now c.encoded.ensures.record c.encoded-2.ensures.record (sym c.eq.ensures ∙ c.if-eq.true))
