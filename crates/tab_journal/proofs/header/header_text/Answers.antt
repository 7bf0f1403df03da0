use Rattle.std.proofs.Common.{rules}
use Rattle.tab_wire.specs.Replies.{u64, i64}
use Rattle.tab_journal.specs.Journals.{mark}
use Rattle.tab_journal.proofs.Texts.{built_of_six}
use Rattle.tab_journal.proofs.header.header_text.Goals as goal

pub returns : goal.returns
unfolding u64 i64
returns c =
    let f = c.args.header in
    built_of_six (mark f.format f.seal.form) (u64 f.generation) (u64 f.next) (i64 f.clock) (u64 f.seal.salt) (u64 f.sum)
    c.extend_from_slice-2.new.self.items c.extend_from_slice-3.new.self.items c.extend_from_slice-4.new.self.items c.extend_from_slice-5.new.self.items c.extend_from_slice-6.new.self.items
    (search rules) (search rules) (search rules) (search rules) (search rules)
