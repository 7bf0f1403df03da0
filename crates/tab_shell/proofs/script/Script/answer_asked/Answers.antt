use Rattle.std.proofs.Common.{rules}
use Rattle.tab_shell.specs.Ahead.{scan_line}
use Rattle.tab_shell.specs.Progress.{PrintsAnswer}
use Rattle.tab_shell.proofs.Saying.{printed_answers}
use Rattle.tab_shell.proofs.script.Script.answer_asked.Goals as goal

pub returns-in-Ok : goal.returns-in-Ok
returns-in-Ok g c =
    let prints : PrintsAnswer g.W.Output c.args.self.now (scan_line c.args.asked.now) c.scan.new.self c.args.output.now c.scan.new.output c.scan.result = search rules in
    printed_answers g.W.Output c.args.self.now c.scan.new.self (scan_line c.args.asked.now) c.args.output.now c.scan.new.output c.scan.result c.printed.result c.printed.ensures prints

pub returns-in-Err-Malformed : goal.returns-in-Err-Malformed
returns-in-Err-Malformed g c =
    let prints : PrintsAnswer g.W.Output c.args.self.now (scan_line c.args.asked.now) c.faults.new.self c.args.output.now c.faults.new.output c.faults.result = search rules in
    printed_answers g.W.Output c.args.self.now c.faults.new.self (scan_line c.args.asked.now) c.args.output.now c.faults.new.output c.faults.result c.printed-in-Err-Malformed.result c.printed-in-Err-Malformed.ensures prints

pub returns-in-Err-NoMemory : goal.returns-in-Err-NoMemory
returns-in-Err-NoMemory g c =
    let prints : PrintsAnswer g.W.Output c.args.self.now (scan_line c.args.asked.now) c.lacks_memory.new.self c.args.output.now c.lacks_memory.new.output c.lacks_memory.result = search rules in
    printed_answers g.W.Output c.args.self.now c.lacks_memory.new.self (scan_line c.args.asked.now) c.args.output.now c.lacks_memory.new.output c.lacks_memory.result c.printed-in-Err-NoMemory.result c.printed-in-Err-NoMemory.ensures prints
