use Rattle.tab_image.proofs.ImageLaw.{what_fits_is_spelled}
use Rattle.tab_image.proofs.laws.what_fits_is_spelled.Goals as goal

pub returns : goal.returns
returns c = what_fits_is_spelled
