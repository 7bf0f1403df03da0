use Rattle.std.proofs.Common.{sym, subst}
use Rattle.tab_iter.specs.Verdicts.{IsSound}
use Rattle.tab_session.proofs.kept_verdicts.KeptVerdicts.take.Goals as goal

pub returns-in-Some-clause-left : goal.returns-in-Some-clause-left
returns-in-Some-clause-left c = λ auths. subst (IsSound auths) (sym c.replace.ensures.after) (c.none.ensures auths)

pub returns-in-None-clause-taken : goal.returns-in-None-clause-taken
returns-in-None-clause-taken c = λ auths sound. c.none-in-None.ensures auths
