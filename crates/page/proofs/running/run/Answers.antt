use Rattle.std.proofs.Common.{sym, ◌∙◌, inr}
use Rattle.page.proofs.running.run.Goals as goal

pub returns : goal.returns
returns c =
    inr (
      c.bytes.result.now,
      (
        _,
        _,
        c.in-Ok.input,
        c.script.new.input,
        c.in-Ok-new.output,
        c.script.new.output,
        c.in-Ok.ensures.bytes ∙ c.new.ensures,
        c.in-Ok-new.ensures.bytes ∙ c.new-3.ensures,
        c.in-Ok-new.ensures.held,
        sym c.get_ref.ensures ∙ c.bytes.ensures,
        c.in-Ok-script.ensures,
      ),
      c.fill.ensures,
    )
