use Rattle.std.proofs.Common.{◌≡◌, ◌++◌}
use Rattle.tab_policy.specs.Lives.{name_among}
use Rattle.tab_policy.specs.Holders.{holders_in}
use Rattle.tab_policy.proofs.rights.TableRights.holders.Given as goal

abbrev pub invariant-loop-life : goal.invariant-loop-life
invariant-loop-life l =
    l.holders.items ++ holders_in (name_among l.lives.living.entries) l.life-iterator ≡ holders_in (name_among l.lives.living.entries) l.self
