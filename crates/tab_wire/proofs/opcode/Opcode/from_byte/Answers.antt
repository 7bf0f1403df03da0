use Rattle.std.proofs.Common.{◌-◌, ◌<◌, refl, ◌∙◌, arith}
use Rattle.std.proofs.lemmas.Bool.Decides.{nat_tests}
use Rattle.tab_wire.proofs.OpcodeLemmas.{in_order}
use Rattle.tab_wire.proofs.opcode.Opcode.from_byte.Goals as goal

pub returns : goal.returns
returns c =
    let some : 0 < c.args.byte = grind (arith, nat_tests, c.if-byte-eq0.false) in
    c.nth.ensures ∙ in_order c.args.byte (c.args.byte - 1) some refl
