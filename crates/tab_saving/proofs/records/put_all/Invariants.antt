-- What was put, and what is left.
use Rattle.std.proofs.Common.{length}
use Rattle.std.specs.List.{AllByRecursion}
use Rattle.tab_image.specs.Spelling.{record_bytes}
use Rattle.tab_saving.specs.Typed.{IsTypedRecord}
use Rattle.tab_saving.proofs.Texts.{PutSome}
use Rattle.tab_saving.proofs.records.put_all.Given as goal

abbrev pub invariant-loop-next : goal.invariant-loop-next
invariant-loop-next g l = record {
  put : PutSome g.W.Output l.initial.output l.output record_bytes (g.S.Source.rest l.initial.source) (g.S.Source.rest l.source);
  typed : AllByRecursion IsTypedRecord (g.S.Source.rest l.source) → AllByRecursion IsTypedRecord (g.S.Source.rest l.initial.source);
}

abbrev pub decreases-loop-next : goal.decreases-loop-next
decreases-loop-next g l = length (g.S.Source.rest l.source)
