use Rattle.std.proofs.Common.{rules, ◌++◌, length}
use Rattle.std.specs.List.{flat_map}
use Rattle.tab_io.specs.Writing.{HasPutPart}
use Rattle.tab_io.proofs.Putting.{puts_more, part_longer}
use Rattle.tab_label.specs.Sets.{byte_lists}
use Rattle.tab_wire.specs.Replies.{u32, field}
use Rattle.tab_wire.proofs.value.put_terms.Goals as goal

pub returns : goal.returns
returns g c = puts_more g.W.Output c.args.output.now c.put_count_of_terms.new.output c.put_each_term.new.output (u32 (length (byte_lists c.args.terms.now))) (flat_map field (byte_lists c.args.terms.now)) c.put_each_term.result c.in_ok-put_count_of_terms.ensures c.put_each_term.ensures

pub returns-in_err-put_count_of_terms : goal.returns-in_err-put_count_of_terms
returns-in_err-put_count_of_terms g c =
    let part : HasPutPart g.W.Output c.args.output.now c.put_count_of_terms.new.output ((u32 (length (byte_lists c.args.terms.now))) ++ (flat_map field (byte_lists c.args.terms.now))) = part_longer {t = u32 (length (byte_lists c.args.terms.now))} (flat_map field (byte_lists c.args.terms.now)) c.in_err-put_count_of_terms.ensures in
    search (rules, part)
