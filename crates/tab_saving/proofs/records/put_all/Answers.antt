use Rattle.std.proofs.Common.{sym, subst}
use Rattle.std.specs.List.{AllByRecursion}
use Rattle.tab_iter.specs.Lists.{tail}
use Rattle.tab_image.specs.Spelling.{record_bytes}
use Rattle.tab_saving.specs.Typed.{IsTypedRecord}
use Rattle.tab_saving.proofs.Gathered.{one_less}
use Rattle.tab_saving.proofs.Texts.{PutSome, front_is, some_none, some_more, some_part, some_begun}
use Rattle.tab_saving.proofs.records.put_all.Goals as goal

pub loop-next-init : goal.loop-next-init
loop-next-init g c = record { put = some_none g.W.Output record_bytes c.args.output.now (g.S.Source.rest c.args.source.now); typed = λ a. a }

pub returns-in-Err-clause-put : goal.returns-in-Err-clause-put
returns-in-Err-clause-put g c =
    let left = g.S.Source.rest c.loop-next.source in
    some_part g.W.Output record_bytes c.args.output.now c.loop-next.output c.put_record.new.output (g.S.Source.rest c.args.source.now) left (tail left) c.in-Some.next c.loop-next.invariant.put (front_is left c.in-Some.next c.in-Some.ensures) c.in-Err.ensures

pub returns-in-Err-advance-clause-put : goal.returns-in-Err-advance-clause-put
returns-in-Err-advance-clause-put g c =
    let left = g.S.Source.rest c.loop-next.source in
    let all = g.S.Source.rest c.args.source.now in
    some_begun g.W.Output record_bytes c.args.output.now c.put_record.new.output all (tail left)
    (some_more g.W.Output record_bytes c.args.output.now c.loop-next.output c.put_record.new.output all left (tail left) c.in-Some.next c.loop-next.invariant.put (front_is left c.in-Some.next c.in-Some.ensures) c.in-Ok.ensures)

pub loop-next-preserved : goal.loop-next-preserved
loop-next-preserved g c =
    let left = g.S.Source.rest c.loop-next.source in
    let all = g.S.Source.rest c.args.source.now in
    let front = front_is left c.in-Some.next c.in-Some.ensures in
    record {
      put = subst (λ rest. PutSome g.W.Output c.args.output.now c.put_record.new.output record_bytes all rest) (sym c.in-Ok-advance.ensures.rest)
          (some_more g.W.Output record_bytes c.args.output.now c.loop-next.output c.put_record.new.output all left (tail left) c.in-Some.next c.loop-next.invariant.put front c.in-Ok.ensures);
      typed = λ more. one_less IsTypedRecord all left (tail left) c.in-Some.next c.loop-next.invariant.typed front c.keep_types.ensures (subst (AllByRecursion IsTypedRecord) c.in-Ok-advance.ensures.rest more);
    }
