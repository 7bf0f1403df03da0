-- So many steps behind the restart.
use Rattle.std.proofs.Common.{◌+◌, ◌*◌, ◌/◌}
use Rattle.tab_key.specs.KeyOf.{key_of}
use Rattle.tab_table.specs.Agreements.{AreInside, IsWalked}
use Rattle.tab_table.proofs.packed.Packed.walk.Given as goal

abbrev pub invariant-loop-step : goal.invariant-loop-step
invariant-loop-step l = record {
  walked : IsWalked l.self.bytes l.self.count l.walked.agreement l.walked.place (16 * (l.index / 16) + l._step) (key_of l.sought);
  inside : AreInside l.walked.agreement (key_of l.sought);
}
