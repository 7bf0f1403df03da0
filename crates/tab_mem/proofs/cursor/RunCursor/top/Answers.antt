use Rattle.std.proofs.Common.{arith}
use Rattle.tab_mem.proofs.Cursors.{first_left}
use Rattle.tab_mem.proofs.cursor.RunCursor.top.Goals as goal

pub returns-then-self : goal.returns-then-self
returns-then-self c =
    let self = c.args.self.now in
    first_left self.from self.at self.end self.records.now c.get.result self.ordered (omega arith) self.inside c.get.ensures
