use Rattle.tab_work.proofs.Following.{unchanged, one}
use Rattle.tab_work.proofs.compactor_seat.CompactorSeat.install.Goals as goal

pub returns-in-Some : goal.returns-in-Some
returns-in-Some g c = one _ _ _ _ c.in-Some.ensures.asks c.keep_done.ensures

pub returns-in-None : goal.returns-in-None
returns-in-None g c = unchanged _ _ c.in-None.ensures.none
