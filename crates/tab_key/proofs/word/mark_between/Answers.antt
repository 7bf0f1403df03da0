use Rattle.std.proofs.Common.{◌∙◌, rules, ◌≡◌, ◌≤◌, ◌+◌, ℕ, sym}
use Rattle.tab_key.proofs.WordLaws.{few_marked, many_marked}
use Rattle.tab_key.specs.Encoding.{number_at}
use Rattle.tab_key.proofs.word.mark_between.Goals as goal

pub returns-then-end-start-lt8 : goal.returns-then-end-start-lt8
returns-then-end-start-lt8 c = few_marked c.args.body.now c.args.start c.args.end c.requires.order c.requires.within (search rules)

pub returns : goal.returns
unfolding number_at
returns c = c.number_at.ensures ∙ many_marked c.args.body.now c.args.start c.args.end (search rules) c.requires.within
