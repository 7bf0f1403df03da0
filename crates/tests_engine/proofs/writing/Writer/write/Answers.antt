-- A mutation more has a number above those before, and below the next one.
use Rattle.std.proofs.Common.{rules}
use Rattle.std.specs.Prelude.{pos}
use Rattle.tests_engine.proofs.Numbers.{appended_below}
use Rattle.tests_engine.proofs.writing.Writer.write.Goals as goal

pub invariant_of-self : goal.invariant_of-self
invariant_of-self g c = appended_below c.self.inside.active c.write.new.self c.self.inside.next c.args.seq (pos 2) c.args.mutation.now (search rules) (search rules) c.self.invariant
