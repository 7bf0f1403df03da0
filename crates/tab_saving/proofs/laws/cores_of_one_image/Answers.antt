use Rattle.tab_saving.proofs.OneImage.{cores_of_one_image}
use Rattle.tab_saving.proofs.laws.cores_of_one_image.Goals as goal

pub returns : goal.returns
returns c = cores_of_one_image
