use Rattle.std.proofs.Common.{◌≡◌, length}
use Rattle.std.specs.Option.{option_map}
use Rattle.tab_lines.specs.Words.{words_left}
use Rattle.tab_lines.specs.Updates.{with_updates, updates_from}
use Rattle.tab_lines.proofs.updates.add_some.Given as goal

abbrev pub invariant-updates : goal.invariant-updates
invariant-updates l = option_map (with_updates l.mutation) (updates_from (words_left l.words)) ≡ option_map (with_updates l.fn.mutation) (updates_from (words_left l.fn.words))

abbrev pub decreases-updates : goal.decreases-updates
decreases-updates l = length (words_left l.words)
