use Rattle.tab_image.proofs.ImageLaw.{versions_are_told}
use Rattle.tab_image.proofs.laws.versions_are_told.Goals as goal

pub returns : goal.returns
returns c = versions_are_told
