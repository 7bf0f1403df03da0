use Rattle.std.proofs.Common.{◌∙◌}
use Rattle.tab_codec.proofs.BitSteps.{table_steps}
use Rattle.tab_codec.proofs.bits.table_in.Goals as goal

pub returns : goal.returns
returns c =
    table_steps _ _ _ _ _ _ _ _ _ _ _ c.with_table-first.ensures c.with_table-second.ensures c.with_table-third.ensures c.with_table-fourth.ensures c.with_table.ensures
    ∙ (λ i. record { read = c.has_bit.ensures i; write = c.has_bit-2.ensures i; alter_table = c.has_bit-3.ensures i; grant = c.has_bit-4.ensures i; drop_table = c.has_bit-5.ensures i })
