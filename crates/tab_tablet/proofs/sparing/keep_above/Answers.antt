use Rattle.std.proofs.Common.{rules}
use Rattle.std.proofs.lemmas.Fn.{filter_same}
use Rattle.tab_tablet.proofs.Larger.{above}
use Rattle.tab_tablet.proofs.sparing.keep_above.Goals as goal

pub returns : goal.returns
returns c = filter_same _ _ _ (λ x b f' k. search (rules, above c.args.limit x.size)) _ _ c.retain.ensures.filtered
