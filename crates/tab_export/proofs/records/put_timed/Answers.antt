use Rattle.std.proofs.Common.{ℤ, None, ◌≡◌, ◌∙◌, ◌++◌, subst, rules, to_z, of_z, w64}
use Rattle.tab_io.specs.Writing.{Puts}
use Rattle.tab_export.specs.Script.{at_text, record_text}
use Rattle.tab_export.proofs.records.put_timed.Goals as goal

pub returns : goal.returns
returns g c =
    let trip : to_z w64 (of_z w64 c.timestamp.result) ≡ c.timestamp.result = search rules in
    subst (λ (m : ℤ). Puts g.W.Output c.args.output.now c.put_at_moment.new.output (at_text m ++ record_text c.args.table.now None c.args.written.now) c.put_at_moment.result)
    (trip ∙ c.timestamp.ensures) c.put_at_moment.ensures
