use Rattle.std.proofs.Common.{◌≡◌, ◌∷◌, List, ℕ, ◌∙◌, rules, [], ◌++◌, Some}
use Rattle.tab_lines.specs.Gives.{field}
use Rattle.tab_lines.specs.Words.{words_left}
use Rattle.tab_lines.specs.Fields.{bound_of}
use Rattle.tab_lines.proofs.RangeLemmas.{one_taken}
use Rattle.tab_lines.proofs.line.ranges.Goals as goal

pub loop-word-preserved : goal.loop-word-preserved
loop-word-preserved c =
    let words : List (List ℕ) = words_left c.loop-word.words in
    let rest : List (List ℕ) = words_left c.next.new.self in
    let left : List (List ℕ) = words_left c.a_bound.new.words in
    let word : List ℕ = c.in-Some.word.now in
    let first : words ≡ word ∷ rest = search rules in
    let low : bound_of word ≡ Some c.in_ok-low.low = search rules in
    let high : field bound_of rest ≡ Some (c.in_ok-high.high, left) = search rules in
    let added : c.push.new.self.items ≡ c.loop-word.ranges.items ++ record { low = c.in_ok-low.low; high = c.in_ok-high.high } ∷ [] = search rules in
    one_taken c.loop-word.ranges.items c.push.new.self.items word words rest left c.in_ok-low.low c.in_ok-high.high first low high added ∙ c.loop-word.invariant
