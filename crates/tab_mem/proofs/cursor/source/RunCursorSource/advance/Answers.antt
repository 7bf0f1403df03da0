use Rattle.tab_mem.proofs.Cursors.{passed_one}
use Rattle.tab_mem.proofs.cursor.source.RunCursorSource.advance.Goals as goal

pub returns-then-self-clause-rest : goal.returns-then-self-clause-rest
returns-then-self-clause-rest c =
    let self = c.args.self.now in
    passed_one self.from self.at self.end self.records.now self.ordered
