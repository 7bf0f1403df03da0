use Rattle.std.proofs.Common.{rules}
use Rattle.tab_iter.proofs.verdicts.Verdicts.none.Goals as goal

pub returns : goal.returns
returns c = λ auths. (search rules, search rules)
