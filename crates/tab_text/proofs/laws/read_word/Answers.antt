use Rattle.tab_text.proofs.Exactness.{word_read, word_reads}
use Rattle.tab_text.proofs.laws.read_word.Goals as goal

pub returns : goal.returns
returns c = (word_read c.args.text.now c.args.bytes.now, word_reads c.args.text.now c.args.bytes.now)
