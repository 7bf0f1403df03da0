use Rattle.std.proofs.Common.{◌++◌}
use Rattle.tab_image.specs.Images.{written_version}
use Rattle.tab_image.specs.Spelling.{counted, user_bytes, table_bytes, end_bytes}
use Rattle.tab_saving.specs.ImageOf.{user_of, table_of}
use Rattle.tab_saving.proofs.Texts.{saves_more}
use Rattle.tab_saving.proofs.saving.put_held.Goals as goal

pub returns-clause-put : goal.returns-clause-put
returns-clause-put g c =
    let s = c.args.policy.now in
    let names = c.args.users.now in
    saves_more g.W.Output c.args.output.now c.put_users.new.output c.put_rest.new.output
    (counted (λ n. user_bytes (user_of s n)) names) (counted (λ t. table_bytes written_version (table_of s names t)) c.args.tables.now ++ end_bytes) c.put_rest.result
    c.in_ok-put_users.ensures.put (c.put_rest.ensures.put names c.requires.users)
