use Rattle.std.proofs.Common.{[], ◌∷◌, ◌++◌, rules}
use Rattle.std.specs.Prelude.{codes}
use Rattle.tab_io.specs.Writing.{HasPutPart}
use Rattle.tab_io.proofs.Putting.{puts_more, part_longer}
use Rattle.tab_text.specs.Words.{word}
use Rattle.tab_text.specs.Lines.{after_spaces}
use Rattle.tab_audit.specs.Words.{updates_words}
use Rattle.tab_audit.proofs.updates.put_mutation.Goals as goal

pub returns : goal.returns
returns g c = puts_more g.W.Output c.args.output.now c.put.new.self c.put_from_table.new.output (codes "mutate") (after_spaces (word c.args.table.now ∷ word c.args.mutation.now.row ∷ updates_words c.args.mutation.now.updates) ++ 10 ∷ []) c.put_from_table.result (record { bytes = c.in_ok-put.ensures.bytes; faults = c.in_ok-put.ensures.faults }) c.put_from_table.ensures

pub returns-in_err-put : goal.returns-in_err-put
returns-in_err-put g c =
    let rest = after_spaces (word c.args.table.now ∷ word c.args.mutation.now.row ∷ updates_words c.args.mutation.now.updates) ++ 10 ∷ [] in
    let part : HasPutPart g.W.Output c.args.output.now c.put.new.self (codes "mutate" ++ rest) = part_longer {t = codes "mutate"} rest (record { bytes = c.in_err-put.ensures.bytes; failed = c.in_err-put.ensures.faults }) in
    search (rules, part)
