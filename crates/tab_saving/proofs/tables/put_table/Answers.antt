use Rattle.std.proofs.lemmas.Result.{on_ok_weaker}
use Rattle.tab_image.specs.Spelling.{table_bytes}
use Rattle.tab_saving.proofs.Texts.{saves_more}
use Rattle.tab_saving.proofs.tables.put_table.Goals as goal

pub returns-clause-put : goal.returns-clause-put
unfolding table_bytes
returns-clause-put g c = λ names users.
    saves_more g.W.Output c.args.output.now c.put_head.new.output c.put_records.new.output _ _ c.put_records.result (c.in_ok-put_head.ensures names users) c.put_records.ensures.put

pub returns-clause-typed : goal.returns-clause-typed
returns-clause-typed g c = on_ok_weaker c.put_records.result (λ records. record { head = c.keep_types.ensures; records = records }) c.put_records.ensures.typed
