use Rattle.tab_journal.proofs.Forms.{texts_have_form}
use Rattle.tab_journal.proofs.laws.texts_have_form.Goals as goal

pub returns : goal.returns
returns c = texts_have_form
