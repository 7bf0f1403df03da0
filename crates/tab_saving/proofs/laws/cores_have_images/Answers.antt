use Rattle.tab_saving.proofs.Saved.{cores_have_images}
use Rattle.tab_saving.proofs.laws.cores_have_images.Goals as goal

pub returns : goal.returns
returns c = cores_have_images
