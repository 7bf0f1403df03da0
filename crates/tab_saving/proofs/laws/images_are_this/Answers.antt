use Rattle.tab_saving.proofs.UserNames.{images_are_this}
use Rattle.tab_saving.proofs.laws.images_are_this.Goals as goal

pub returns : goal.returns
returns c = images_are_this
