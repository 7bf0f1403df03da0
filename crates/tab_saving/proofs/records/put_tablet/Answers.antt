use Rattle.std.proofs.Common.{◌∙◌, subst}
use Rattle.std.specs.Prelude.{OnOk}
use Rattle.std.specs.List.{AllByRecursion, flat_map}
use Rattle.tab_image.specs.Spelling.{record_bytes}
use Rattle.tab_saving.specs.Saves.{Saves}
use Rattle.tab_saving.specs.Typed.{IsTypedRecord}
use Rattle.tab_saving.proofs.Texts.{lacks_first}
use Rattle.tab_saving.proofs.records.put_tablet.Goals as goal

pub returns-clause-put : goal.returns-clause-put
returns-clause-put g c =
    subst (λ us. Saves g.W.Output c.args.output.now c.put_all.new.output (flat_map record_bytes us) c.put_all.result)
    (c.in_ok-records.ensures.rest ∙ c.in_ok-records.ensures.whole ∙ c.in_ok-version.ensures) c.put_all.ensures.put

pub returns-clause-typed : goal.returns-clause-typed
returns-clause-typed g c =
    subst (λ us. OnOk c.put_all.result (AllByRecursion IsTypedRecord us))
    (c.in_ok-records.ensures.rest ∙ c.in_ok-records.ensures.whole ∙ c.in_ok-version.ensures) c.put_all.ensures.typed

pub returns-in_err-records-clause-put : goal.returns-in_err-records-clause-put
returns-in_err-records-clause-put g c = lacks_first g.W.Output c.args.output.now _ c.from_residual-in_err-records.result c.from_residual-in_err-records.ensures
