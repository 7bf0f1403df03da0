use Rattle.std.proofs.Common.{◌≡◌, IfOk, subst}
use Rattle.std.specs.Ordering.{is_le, is_gt}
use Rattle.tab_key.specs.Bytes.{bytes_cmp}
use Rattle.tab_version.specs.Sources.{clipped}
use Rattle.tab_tablet.specs.Tablets.{Tablet, no_jobs}
use Rattle.tab_tablet.proofs.tablet.Tablet.split.Goals as goal

pub returns-clause-lower : goal.returns-clause-lower
returns-clause-lower c = subst (λ (f : Tablet). IfOk c.halves.result (λ p. p.0 ≡ record f { number = c.args.lower_number; sources = clipped (λ r. is_le (bytes_cmp r c.args.row.now)) f.sources; jobs = no_jobs })) c.in_ok-frozen.ensures c.halves.ensures.lower

pub returns-clause-upper : goal.returns-clause-upper
returns-clause-upper c = subst (λ (f : Tablet). IfOk c.halves.result (λ p. p.1 ≡ record f { number = c.args.upper_number; sources = clipped (λ r. is_gt (bytes_cmp r c.args.row.now)) f.sources; jobs = no_jobs })) c.in_ok-frozen.ensures c.halves.ensures.upper
