use Rattle.std.proofs.Common.{◌≡◌, ◌++◌, length}
use Rattle.std.specs.Prelude.{map}
use Rattle.std.specs.Option.{option_map}
use Rattle.tab_lines.specs.Words.{parts_at}
use Rattle.tab_lines.specs.Fields.{each_of}
use Rattle.tab_lines.proofs.lists.members.Given as goal

abbrev pub invariant-loop-members : goal.invariant-loop-members
invariant-loop-members g l =
    option_map (λ xs. map g.T.ListMember.meaning_of l.members.items ++ xs) (each_of g.T.ListMember.reads (parts_at 44 l.left))
    ≡ each_of g.T.ListMember.reads (parts_at 44 l.word)

abbrev pub decreases-loop-members : goal.decreases-loop-members
decreases-loop-members g l = length l.left
