use Rattle.std.proofs.Common.{rules, ◌≡◌, ◌∙◌, List, ℕ, subst, w64, to_z, of_z}
use Rattle.tab_io.specs.Writing.{HasPut, Puts}
use Rattle.tab_io.proofs.Putting.{puts_more}
use Rattle.tab_image.specs.Images.{written_version}
use Rattle.tab_image.specs.Spelling.{field, settings_bytes}
use Rattle.tab_saving.proofs.heads.put_front_of.Goals as goal

pub returns : goal.returns
returns g c =
    let s = c.args.table.now.settings in
    let trip : to_z w64 (of_z w64 c.horizon.result) ≡ c.horizon.result = search rules in
    let settings : settings_bytes written_version c.time.result c.versions.result c.constraints.result.now (to_z w64 (of_z w64 c.horizon.result)) ≡ settings_bytes written_version s.time s.versions s.constraints s.horizon =
    λ i. settings_bytes written_version (c.time.ensures i) (c.versions.ensures i) (c.constraints.ensures i) ((trip ∙ c.horizon.ensures) i) in
    puts_more g.W.Output c.args.output.now c.put_field.new.output c.put_settings.new.output (field c.args.name.now) (settings_bytes written_version s.time s.versions s.constraints s.horizon) c.put_settings.result
    (subst (λ (t : List ℕ). HasPut g.W.Output c.args.output.now c.put_field.new.output (field t)) c.as_bytes.ensures.value c.in_ok-put_field.ensures)
    (subst (λ (t : List ℕ). Puts g.W.Output c.put_field.new.output c.put_settings.new.output t c.put_settings.result) settings c.put_settings.ensures)
