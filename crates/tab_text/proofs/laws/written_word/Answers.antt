use Rattle.tab_text.proofs.Spelling.{unescaped-escaped, bytes_of-word, word_is, bytes_fit}
use Rattle.tab_text.proofs.laws.written_word.Goals as goal

pub returns-clause-spells : goal.returns-clause-spells
returns-clause-spells c = word_is c.args.bytes.now (bytes_fit c.args.bytes.now c.type_inv.bytes)

pub returns-clause-reads : goal.returns-clause-reads
returns-clause-reads c = bytes_of-word c.args.bytes.now (bytes_fit c.args.bytes.now c.type_inv.bytes)

pub returns-clause-escapes : goal.returns-clause-escapes
returns-clause-escapes c = unescaped-escaped c.args.bytes.now (bytes_fit c.args.bytes.now c.type_inv.bytes)
