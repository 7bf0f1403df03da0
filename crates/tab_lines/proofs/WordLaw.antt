-- A word spells exactly the bytes that are read of it.
use Rattle.tab_text.specs.Words.{IsWord}
use Rattle.tab_text.specs.Reading.{bytes_of}
use Rattle.tab_text.proofs.Exactness.{word_read, word_reads}
use Rattle.tab_lines.proofs.Inverting.{ReadsExactly}

-- a word spells exactly the bytes that are read of it
pub words_read : ReadsExactly bytes_of IsWord
words_read = record { sound = word_read; complete = word_reads }
