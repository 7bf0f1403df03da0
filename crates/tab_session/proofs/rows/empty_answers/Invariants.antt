use Rattle.std.proofs.Common.{◌≡◌, length}
use Rattle.tab_session.proofs.rows.empty_answers.Given as goal

abbrev pub invariant-loop : goal.invariant-loop
invariant-loop l = length l.answers.items ≡ l.counter
