use Rattle.tab_saving.proofs.OneList.{one_image_each}
use Rattle.tab_saving.proofs.laws.one_image_each.Goals as goal

pub returns : goal.returns
returns c = one_image_each
