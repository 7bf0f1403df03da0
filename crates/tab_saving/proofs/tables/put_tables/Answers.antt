use Rattle.std.proofs.Common.{length, rules}
use Rattle.std.specs.List.{flat_map}
use Rattle.tab_image.specs.Images.{written_version}
use Rattle.tab_image.specs.Spelling.{u32, table_bytes}
use Rattle.tab_saving.specs.ImageOf.{table_of}
use Rattle.tab_saving.proofs.Texts.{saves_more}
use Rattle.tab_saving.proofs.tables.put_tables.Goals as goal

pub returns-clause-put : goal.returns-clause-put
returns-clause-put g c = λ names users.
    saves_more g.W.Output c.args.output.now c.put_count.new.output c.put_each_table.new.output
    (u32 (length c.args.tables.now)) (flat_map (λ t. table_bytes written_version (table_of c.args.policy.now names t)) c.args.tables.now) c.put_each_table.result
    (search rules) (c.put_each_table.ensures.put names users)
