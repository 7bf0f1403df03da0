use Rattle.std.proofs.Common.{◌≡◌, ◌∙◌, length, sym, ap, subst}
use Rattle.std.specs.List.{flat_map}
use Rattle.std.proofs.lemmas.Result.{on_ok_weaker}
use Rattle.tab_key.specs.Sorted.{sorted}
use Rattle.tab_history.specs.declared.counts.Counts.{Counts}
use Rattle.tab_image.specs.Spelling.{u64, record_bytes, records_bytes}
use Rattle.tab_io.specs.Writing.{HasPut, HasPutPart}
use Rattle.tab_store.specs.ByRow.{records_of_all}
use Rattle.tab_saving.proofs.Listings.{as_many, counted, few_counted}
use Rattle.tab_saving.proofs.Texts.{saves_more, write_fails}
use Rattle.tab_saving.proofs.records.put_records.Goals as goal

pub returns-in_err-put_record_count-clause-put : goal.returns-in_err-put_record_count-clause-put
unfolding records_bytes
returns-in_err-put_record_count-clause-put g c =
    let us = records_of_all c.args.table.now.tablets in
    let count : c.counts-count.result.records ≡ length (sorted us) = counted (length us) c.counts-count.result.records (ap (λ (k : Counts). k.records) c.counts-count.ensures) c.if-count.false ∙ sym (as_many us) in
    write_fails g.W.Output c.args.output.now c.put_record_count.new.output (u64 (length (sorted us))) (flat_map record_bytes (sorted us)) c.from_residual.result
    (subst (λ n. HasPutPart g.W.Output c.args.output.now c.put_record_count.new.output (u64 n)) count c.in_err-put_record_count.ensures) c.from_residual.ensures

pub returns-clause-put : goal.returns-clause-put
unfolding records_bytes
returns-clause-put g c =
    let us = records_of_all c.args.table.now.tablets in
    let count : c.counts-count.result.records ≡ length (sorted us) = counted (length us) c.counts-count.result.records (ap (λ (k : Counts). k.records) c.counts-count.ensures) c.if-count.false ∙ sym (as_many us) in
    saves_more g.W.Output c.args.output.now c.put_record_count.new.output c.put_tablets.new.output (u64 (length (sorted us))) (flat_map record_bytes (sorted us)) c.put_tablets.result
    (subst (λ n. HasPut g.W.Output c.args.output.now c.put_record_count.new.output (u64 n)) count c.in_ok-put_record_count.ensures) c.put_tablets.ensures.put

pub returns-clause-typed : goal.returns-clause-typed
returns-clause-typed g c =
    let us = records_of_all c.args.table.now.tablets in
    on_ok_weaker c.put_tablets.result
    (λ numbers. record { numbers = numbers; few = few_counted us c.counts-count.result.records (ap (λ (k : Counts). k.records) c.counts-count.ensures) c.if-count.false })
    c.put_tablets.ensures.typed
