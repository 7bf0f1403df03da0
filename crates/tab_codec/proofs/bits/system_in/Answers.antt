use Rattle.std.proofs.Common.{◌∙◌}
use Rattle.tab_codec.proofs.BitSteps.{system_steps}
use Rattle.tab_codec.proofs.bits.system_in.Goals as goal

pub returns : goal.returns
returns c =
    system_steps _ _ _ _ _ _ _ _ _ _ _ _ _ _ _ _ _ c.with_system-first.ensures c.with_system-second.ensures c.with_system-third.ensures c.with_system-fourth.ensures c.with_system-fifth.ensures c.with_system-sixth.ensures c.with_system-seventh.ensures c.with_system.ensures
    ∙ (λ i. record { grant = c.has_bit.ensures i; create_table = c.has_bit-2.ensures i; drop_table = c.has_bit-3.ensures i; alter_table = c.has_bit-4.ensures i; create_user = c.has_bit-5.ensures i; drop_user = c.has_bit-6.ensures i; alter_user = c.has_bit-7.ensures i; system = c.has_bit-8.ensures i })
