use Rattle.tab_image.specs.Images.{written_version}
use Rattle.tab_image.specs.Spelling.{counted, table_bytes, end_bytes}
use Rattle.tab_io.proofs.Putting.{put_more}
use Rattle.tab_saving.specs.ImageOf.{table_of}
use Rattle.tab_saving.proofs.Texts.{saves_more, last_fails}
use Rattle.tab_saving.proofs.saving.put_rest.Goals as goal

pub returns-in_err-put_end-clause-put : goal.returns-in_err-put_end-clause-put
returns-in_err-put_end-clause-put g c = λ names users.
    saves_more g.W.Output c.args.output.now c.put_tables.new.output c.put_end.new.output
    (counted (λ t. table_bytes written_version (table_of c.args.policy.now names t)) c.args.tables.now) end_bytes c.from_residual-in_err-put_end.result
    (c.in_ok-put_tables.ensures.put names users)
    (last_fails g.W.Output c.put_tables.new.output c.put_end.new.output end_bytes c.from_residual-in_err-put_end.result c.in_err-put_end.ensures c.from_residual-in_err-put_end.ensures)

pub returns-clause-put : goal.returns-clause-put
returns-clause-put g c = λ names users. put_more (c.in_ok-put_tables.ensures.put names users) c.in_ok-put_end.ensures
