-- No verdict is wrong under any authorizations.
use Rattle.tab_iter.proofs.system_iterators.visible.Goals as goal

pub new-requires : goal.new-requires
new-requires g c = c.none.ensures c.args.auths.now
