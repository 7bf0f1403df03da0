use Rattle.std.proofs.Common.{◌≡◌, ◌++◌, length}
use Rattle.std.specs.Option.{option_map}
use Rattle.tab_lines.specs.Words.{words_left}
use Rattle.tab_lines.specs.Lines.{ranges_of}
use Rattle.tab_lines.proofs.line.ranges.Given as goal

abbrev pub invariant-loop-word : goal.invariant-loop-word
invariant-loop-word l = option_map (λ rs. l.ranges.items ++ rs) (ranges_of (words_left l.words)) ≡ ranges_of (words_left l.initial.words)

abbrev pub decreases-loop-word : goal.decreases-loop-word
decreases-loop-word l = length (words_left l.words)
