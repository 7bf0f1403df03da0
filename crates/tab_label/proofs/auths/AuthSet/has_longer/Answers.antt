use Rattle.tab_label.proofs.SetLemmas.{any_image}
use Rattle.tab_label.proofs.auths.AuthSet.has_longer.Goals as goal

pub returns : goal.returns
returns c = rw (← c.self.view_is, any_image, ← c.deref.ensures.value) c.some_longer.ensures
