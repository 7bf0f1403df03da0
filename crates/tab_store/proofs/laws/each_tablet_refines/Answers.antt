use Rattle.tab_store.proofs.EachTablet.{each_tablet_refines}
use Rattle.tab_store.proofs.laws.each_tablet_refines.Goals as goal

pub returns : goal.returns
returns c = each_tablet_refines
