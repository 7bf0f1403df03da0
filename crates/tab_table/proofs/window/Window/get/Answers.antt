use Rattle.std.proofs.Common.{refl}
use Rattle.tab_table.proofs.Seen.{seen}
use Rattle.tab_table.proofs.window.Window.get.Goals as goal

pub returns : goal.returns
returns c = λ blocks count u is. seen c.args.self.now blocks count c.args.index _ u c.get.result is c.requires refl (c.get.ensures u)
