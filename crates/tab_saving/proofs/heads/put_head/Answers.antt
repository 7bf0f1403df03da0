use Rattle.std.proofs.Common.{◌++◌, append_assoc}
use Rattle.tab_image.specs.Images.{written_version}
use Rattle.tab_image.specs.Spelling.{field, counted, right_bytes, settings_bytes, head_bytes}
use Rattle.tab_store.specs.ByRow.{ends_of}
use Rattle.tab_saving.specs.ImageOf.{rights_of}
use Rattle.tab_saving.proofs.Texts.{saves_same, saves_more, write_fails}
use Rattle.tab_saving.proofs.heads.put_head.Goals as goal

pub returns-in_err-put_front_of : goal.returns-in_err-put_front_of
unfolding head_bytes
returns-in_err-put_front_of g c = λ names users.
    let t = c.args.table.now in
    let name = field c.args.name.now in
    let settings = settings_bytes written_version t.settings.time t.settings.versions t.settings.constraints t.settings.horizon in
    let lists = counted right_bytes (rights_of c.args.policy.now names c.args.name.now) ++ counted field (ends_of t.tablets) in
    saves_same g.W.Output c.args.output.now c.put_front_of.new.output _ _ c.from_residual.result (append_assoc name settings lists)
    (write_fails g.W.Output c.args.output.now c.put_front_of.new.output (name ++ settings) lists c.from_residual.result c.in_err-put_front_of.ensures c.from_residual.ensures)

pub returns : goal.returns
unfolding head_bytes
returns g c = λ names users.
    let t = c.args.table.now in
    let name = field c.args.name.now in
    let settings = settings_bytes written_version t.settings.time t.settings.versions t.settings.constraints t.settings.horizon in
    let lists = counted right_bytes (rights_of c.args.policy.now names c.args.name.now) ++ counted field (ends_of t.tablets) in
    saves_same g.W.Output c.args.output.now c.put_lists.new.output _ _ c.put_lists.result (append_assoc name settings lists)
    (saves_more g.W.Output c.args.output.now c.put_front_of.new.output c.put_lists.new.output (name ++ settings) lists c.put_lists.result c.in_ok-put_front_of.ensures (c.put_lists.ensures names users))
