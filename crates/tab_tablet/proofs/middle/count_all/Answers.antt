use Rattle.std.proofs.Common.{◌∙◌, ap, length}
use Rattle.tab_version.specs.Sources.{records_of}
use Rattle.tab_tablet.proofs.Selected.{all_pass}
use Rattle.tab_tablet.proofs.middle.count_all.Goals as goal

pub returns : goal.returns
returns c = c.count_rows.ensures ∙ ap length (all_pass (records_of c.args.sources.now))
