use Rattle.tab_lines.specs.Words.{words_left}
use Rattle.tab_lines.specs.Lines.{scan_words}
use Rattle.tab_shell.specs.Ahead.{scan_line}
use Rattle.tab_shell.proofs.Reading.{scan_reads}
use Rattle.tab_shell.proofs.script.Script.answer_scan.Goals as goal

pub returns : goal.returns
returns g c = (scan_line c.read_scan.result, scan_reads c.read_scan.result (scan_words (words_left c.args.words)) c.read_scan.ensures, c.answer_asked-2.ensures)
