use Rattle.tab_work.proofs.Following.{unchanged, one}
use Rattle.tab_work.proofs.compactor_seat.CompactorSeat.end_of.Goals as goal

pub returns-in_err-receipt : goal.returns-in_err-receipt
returns-in_err-receipt g c = unchanged _ _ c.in_err-receipt.ensures.none

pub returns : goal.returns
returns g c = one _ _ _ _ c.in_ok-receipt.ensures.asks c.keep.ensures
