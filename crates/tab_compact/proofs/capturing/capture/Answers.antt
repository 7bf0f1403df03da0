-- What is read stands at places of its own.
use Rattle.std.proofs.Common.{sym, subst}
use Rattle.tab_key.specs.Sorted.{IsDistinct}
use Rattle.tab_version.specs.Sources.{records_of}
use Rattle.tab_compact.proofs.Inputs.{inputs_distinct}
use Rattle.tab_compact.proofs.capturing.capture.Goals as goal

pub new-requires : goal.new-requires
new-requires c = subst (λ s. IsDistinct (records_of s)) (sym c.in_ok-inputs.ensures) (inputs_distinct c.args.kind c.args.sources.now c.requires)
