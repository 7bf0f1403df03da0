use Rattle.tab_lasting.proofs.Lasting.{lasting_is_all}
use Rattle.tab_lasting.proofs.laws.lasting_is_all.Goals as goal

pub returns : goal.returns
returns c = lasting_is_all
