use Rattle.tab_image.proofs.ImageLaw.{images_are_read}
use Rattle.tab_image.proofs.laws.images_are_read.Goals as goal

pub returns : goal.returns
returns c = images_are_read
