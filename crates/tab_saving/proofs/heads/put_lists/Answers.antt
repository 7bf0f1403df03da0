use Rattle.tab_image.specs.Spelling.{field, counted, right_bytes}
use Rattle.tab_store.specs.ByRow.{ends_of}
use Rattle.tab_saving.specs.ImageOf.{rights_of}
use Rattle.tab_saving.proofs.Texts.{saves_more}
use Rattle.tab_saving.proofs.heads.put_lists.Goals as goal

pub returns : goal.returns
returns g c = λ names users.
    saves_more g.W.Output c.args.output.now c.put_rights.new.output c.put_ends.new.output
    (counted right_bytes (rights_of c.args.policy.now names c.args.name.now)) (counted field (ends_of c.args.table.now.tablets)) c.put_ends.result
    (c.in_ok-put_rights.ensures names users) c.put_ends.ensures
