use Rattle.std.proofs.Common.{Ok, rules}
use Rattle.tab_shell.specs.Progress.{PrintsAnswer}
use Rattle.tab_shell.proofs.Saying.{printed_answers}
use Rattle.tab_shell.proofs.script.Script.does.Goals as goal

pub returns-in-Blank : goal.returns-in-Blank
returns-in-Blank g c =
    let prints : PrintsAnswer g.W.Output c.args.self.now (Ok c.args.line.now) c.says_nothing.new.self c.args.output.now c.says_nothing.new.output c.says_nothing.result = search rules in
    printed_answers g.W.Output c.args.self.now c.says_nothing.new.self (Ok c.args.line.now) c.args.output.now c.says_nothing.new.output c.says_nothing.result c.printed.result c.printed.ensures prints

pub returns-in-As : goal.returns-in-As
returns-in-As g c =
    let prints : PrintsAnswer g.W.Output c.args.self.now (Ok c.args.line.now) c.sets_user.new.self c.args.output.now c.sets_user.new.output c.sets_user.result = search rules in
    printed_answers g.W.Output c.args.self.now c.sets_user.new.self (Ok c.args.line.now) c.args.output.now c.sets_user.new.output c.sets_user.result c.printed-in-As.result c.printed-in-As.ensures prints

pub returns-in-At : goal.returns-in-At
returns-in-At g c =
    let prints : PrintsAnswer g.W.Output c.args.self.now (Ok c.args.line.now) c.sets_moment.new.self c.args.output.now c.sets_moment.new.output c.sets_moment.result = search rules in
    printed_answers g.W.Output c.args.self.now c.sets_moment.new.self (Ok c.args.line.now) c.args.output.now c.sets_moment.new.output c.sets_moment.result c.printed-in-At.result c.printed-in-At.ensures prints

pub returns-in-Act : goal.returns-in-Act
returns-in-Act g c =
    let prints : PrintsAnswer g.W.Output c.args.self.now (Ok c.args.line.now) c.act.new.self c.args.output.now c.act.new.output c.act.result = search rules in
    printed_answers g.W.Output c.args.self.now c.act.new.self (Ok c.args.line.now) c.args.output.now c.act.new.output c.act.result c.printed-in-Act.result c.printed-in-Act.ensures prints

pub returns-in-Scan : goal.returns-in-Scan
returns-in-Scan g c =
    let prints : PrintsAnswer g.W.Output c.args.self.now (Ok c.args.line.now) c.scan.new.self c.args.output.now c.scan.new.output c.scan.result = search rules in
    printed_answers g.W.Output c.args.self.now c.scan.new.self (Ok c.args.line.now) c.args.output.now c.scan.new.output c.scan.result c.printed-in-Scan.result c.printed-in-Scan.ensures prints

pub returns-in-Open : goal.returns-in-Open
returns-in-Open g c =
    let prints : PrintsAnswer g.W.Output c.args.self.now (Ok c.args.line.now) c.«open».new.self c.args.output.now c.«open».new.output c.«open».result = search rules in
    printed_answers g.W.Output c.args.self.now c.«open».new.self (Ok c.args.line.now) c.args.output.now c.«open».new.output c.«open».result c.printed-in-Open.result c.printed-in-Open.ensures prints

pub returns-in-Next : goal.returns-in-Next
returns-in-Next g c =
    let prints : PrintsAnswer g.W.Output c.args.self.now (Ok c.args.line.now) c.next.new.self c.args.output.now c.next.new.output c.next.result = search rules in
    printed_answers g.W.Output c.args.self.now c.next.new.self (Ok c.args.line.now) c.args.output.now c.next.new.output c.next.result c.printed-in-Next.result c.printed-in-Next.ensures prints

pub returns-in-Many : goal.returns-in-Many
returns-in-Many g c =
    let prints : PrintsAnswer g.W.Output c.args.self.now (Ok c.args.line.now) c.many.new.self c.args.output.now c.many.new.output c.many.result = search rules in
    printed_answers g.W.Output c.args.self.now c.many.new.self (Ok c.args.line.now) c.args.output.now c.many.new.output c.many.result c.printed-in-Many.result c.printed-in-Many.ensures prints

pub returns-in-Close : goal.returns-in-Close
returns-in-Close g c =
    let prints : PrintsAnswer g.W.Output c.args.self.now (Ok c.args.line.now) c.close.new.self c.args.output.now c.close.new.output c.close.result = search rules in
    printed_answers g.W.Output c.args.self.now c.close.new.self (Ok c.args.line.now) c.args.output.now c.close.new.output c.close.result c.printed-in-Close.result c.printed-in-Close.ensures prints

pub returns-in-Merge : goal.returns-in-Merge
returns-in-Merge g c =
    let prints : PrintsAnswer g.W.Output c.args.self.now (Ok c.args.line.now) c.merge.new.self c.args.output.now c.merge.new.output c.merge.result = search rules in
    printed_answers g.W.Output c.args.self.now c.merge.new.self (Ok c.args.line.now) c.args.output.now c.merge.new.output c.merge.result c.printed-in-Merge.result c.printed-in-Merge.ensures prints
