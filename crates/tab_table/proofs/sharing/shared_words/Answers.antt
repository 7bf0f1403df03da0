use Rattle.std.proofs.Common.{◌+◌, ◌≤◌, rules, arith}
use Rattle.tab_table.proofs.Shares.{same_words}
use Rattle.tab_table.proofs.sharing.shared_words.Goals as goal

pub loop-word-preserved : goal.loop-word-preserved
loop-word-preserved c =
    let i = c.loop-word.word in
    let more : i + 1 ≤ c.args.words = search rules in
    same_words c.args.first.now c.args.second.now i c.word_at-one.result c.word_at-other.result (omega (arith, more, c.requires.first)) (omega (arith, more, c.requires.second)) c.word_at-one.ensures c.word_at-other.ensures (search rules) c.loop-word.invariant
