-- The words so far are shared.
use Rattle.std.proofs.Common.{◌≡◌, ◌+◌, ◌*◌, drop}
use Rattle.tab_table.specs.Sizes.{shared}
use Rattle.tab_table.proofs.sharing.shared_words.Given as goal

abbrev pub invariant-loop-word : goal.invariant-loop-word
invariant-loop-word l = shared l.first l.second ≡ 8 * l.word + shared (drop (8 * l.word) l.first) (drop (8 * l.word) l.second)
