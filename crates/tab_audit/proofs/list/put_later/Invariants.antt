use Rattle.std.proofs.Common.{take, ◌∷◌}
use Rattle.std.specs.List.{flat_map}
use Rattle.tab_io.specs.Writing.{HasPut}
use Rattle.tab_audit.proofs.list.put_later.Given as goal

abbrev pub invariant-loop-member : goal.invariant-loop-member
invariant-loop-member g l = HasPut g.W.Output l.initial.output l.output (flat_map (λ x. 44 ∷ g.P.PutItem.text l.how x) (take l.member-index l.later))
