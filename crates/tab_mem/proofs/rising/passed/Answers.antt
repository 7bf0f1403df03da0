use Rattle.std.proofs.Common.{◌≡◌, ◌⊎◌, ◌+◌, ◌*◌, ◌≤◌, ◌<◌, sym, subst}
use Rattle.tab_mem.specs.Numbers.{count_below}
use Rattle.tab_mem.proofs.Searched.{passed_parts, parts_below, parts_most}
use Rattle.tab_mem.proofs.rising.passed.Goals as goal

pub returns-clause-below : goal.returns-clause-below
returns-clause-below c =
    subst (λ n. c.args.from + n * c.args.part ≤ count_below c.args.bound c.args.numbers.now) (sym (passed_parts c.args.bound c.args.numbers.now c.args.from c.args.part c.requires.rising c.requires.some c.requires.inside))
    (parts_below c.args.from c.args.part (count_below c.args.bound c.args.numbers.now) c.requires.some c.requires.below)

pub returns-clause-most : goal.returns-clause-most
returns-clause-most c =
    subst (λ n. (n * c.args.part ≡ 3 * c.args.part) ⊎ (count_below c.args.bound c.args.numbers.now < c.args.from + n * c.args.part + c.args.part)) (sym (passed_parts c.args.bound c.args.numbers.now c.args.from c.args.part c.requires.rising c.requires.some c.requires.inside))
    (parts_most c.args.from c.args.part (count_below c.args.bound c.args.numbers.now) c.requires.some)
