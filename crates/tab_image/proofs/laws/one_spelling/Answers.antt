use Rattle.tab_image.proofs.ImageLaw.{one_spelling}
use Rattle.tab_image.proofs.laws.one_spelling.Goals as goal

pub returns : goal.returns
returns c = one_spelling
