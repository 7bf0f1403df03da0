use Rattle.std.proofs.Common.{arith, rules}
use Rattle.std.specs.Prelude.{codes}
use Rattle.tab_lines.specs.Lines.{command_of}
use Rattle.tab_lines.proofs.Looking.{found}
use Rattle.tab_lines.proofs.command.command_of.Goals as goal

pub returns-in-as : goal.returns-in-as
returns-in-as c = found command_of c.args.word.now (codes "as") (omega arith) (search rules)

pub returns-in-at : goal.returns-in-at
returns-in-at c = found command_of c.args.word.now (codes "at") (omega arith) (search rules)

pub returns-in-createtable : goal.returns-in-createtable
returns-in-createtable c = found command_of c.args.word.now (codes "createtable") (omega arith) (search rules)

pub returns-in-droptable : goal.returns-in-droptable
returns-in-droptable c = found command_of c.args.word.now (codes "droptable") (omega arith) (search rules)

pub returns-in-createuser : goal.returns-in-createuser
returns-in-createuser c = found command_of c.args.word.now (codes "createuser") (omega arith) (search rules)

pub returns-in-dropuser : goal.returns-in-dropuser
returns-in-dropuser c = found command_of c.args.word.now (codes "dropuser") (omega arith) (search rules)

pub returns-in-setauths : goal.returns-in-setauths
returns-in-setauths c = found command_of c.args.word.now (codes "setauths") (omega arith) (search rules)

pub returns-in-grant : goal.returns-in-grant
returns-in-grant c = found command_of c.args.word.now (codes "grant") (omega arith) (search rules)

pub returns-in-revoke : goal.returns-in-revoke
returns-in-revoke c = found command_of c.args.word.now (codes "revoke") (omega arith) (search rules)

pub returns-in-rights : goal.returns-in-rights
returns-in-rights c = found command_of c.args.word.now (codes "rights") (omega arith) (search rules)

pub returns-in-constraints : goal.returns-in-constraints
returns-in-constraints c = found command_of c.args.word.now (codes "constraints") (omega arith) (search rules)

pub returns-in-versions : goal.returns-in-versions
returns-in-versions c = found command_of c.args.word.now (codes "versions") (omega arith) (search rules)

pub returns-in-horizon : goal.returns-in-horizon
returns-in-horizon c = found command_of c.args.word.now (codes "horizon") (omega arith) (search rules)

pub returns-in-insert : goal.returns-in-insert
returns-in-insert c = found command_of c.args.word.now (codes "insert") (omega arith) (search rules)

pub returns-in-delete : goal.returns-in-delete
returns-in-delete c = found command_of c.args.word.now (codes "delete") (omega arith) (search rules)

pub returns-in-mutate : goal.returns-in-mutate
returns-in-mutate c = found command_of c.args.word.now (codes "mutate") (omega arith) (search rules)

pub returns-in-scan : goal.returns-in-scan
returns-in-scan c = found command_of c.args.word.now (codes "scan") (omega arith) (search rules)

pub returns-in-open : goal.returns-in-open
returns-in-open c = found command_of c.args.word.now (codes "open") (omega arith) (search rules)

pub returns-in-next : goal.returns-in-next
returns-in-next c = found command_of c.args.word.now (codes "next") (omega arith) (search rules)

pub returns-in-many : goal.returns-in-many
returns-in-many c = found command_of c.args.word.now (codes "many") (omega arith) (search rules)

pub returns-in-close : goal.returns-in-close
returns-in-close c = found command_of c.args.word.now (codes "close") (omega arith) (search rules)

pub returns-in-flush : goal.returns-in-flush
returns-in-flush c = found command_of c.args.word.now (codes "flush") (omega arith) (search rules)

pub returns-in-compact : goal.returns-in-compact
returns-in-compact c = found command_of c.args.word.now (codes "compact") (omega arith) (search rules)

pub returns-in-begin : goal.returns-in-begin
returns-in-begin c = found command_of c.args.word.now (codes "begin") (omega arith) (search rules)

pub returns-in-merge : goal.returns-in-merge
returns-in-merge c = found command_of c.args.word.now (codes "merge") (omega arith) (search rules)

pub returns-in-install : goal.returns-in-install
returns-in-install c = found command_of c.args.word.now (codes "install") (omega arith) (search rules)

pub returns-in-status : goal.returns-in-status
returns-in-status c = found command_of c.args.word.now (codes "status") (omega arith) (search rules)

pub returns-in-addsplit : goal.returns-in-addsplit
returns-in-addsplit c = found command_of c.args.word.now (codes "addsplit") (omega arith) (search rules)

pub returns-in-splitsize : goal.returns-in-splitsize
returns-in-splitsize c = found command_of c.args.word.now (codes "splitsize") (omega arith) (search rules)

pub returns-in-splits : goal.returns-in-splits
returns-in-splits c = found command_of c.args.word.now (codes "splits") (omega arith) (search rules)

pub returns-in-save : goal.returns-in-save
returns-in-save c = found command_of c.args.word.now (codes "save") (omega arith) (search rules)

pub returns-in-load : goal.returns-in-load
returns-in-load c = found command_of c.args.word.now (codes "load") (omega arith) (search rules)

pub returns-in-rotate : goal.returns-in-rotate
returns-in-rotate c = found command_of c.args.word.now (codes "rotate") (omega arith) (search rules)
