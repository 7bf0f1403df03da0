use Rattle.std.proofs.Common.{arith}
use Rattle.tab_journal.proofs.Taken.{ends_by}
use Rattle.tab_journal.proofs.reader.JournalReader.ended.Goals as goal

pub returns : goal.returns
returns c seen bs h none =
    let cursor = c.args.self.now.cursor in
    ends_by seen cursor bs c.end.result h (omega (arith, cursor.behind)) none c.end.ensures.end c.end.ensures.judged
