-- The entry behind the last record lies there.
use Rattle.std.proofs.Common.{◌≡◌, List, ℕ, subst, sym, take, rules}
use Rattle.tab_mem.proofs.Seeking.{blank}
use Rattle.tab_table.specs.Blocks.{IsEntry}
use Rattle.tab_table.specs.Decoding.{key_at}
use Rattle.tab_table.proofs.window.Window.one_more.Goals as goal

pub one_more-requires-clause-base : goal.one_more-requires-clause-base
one_more-requires-clause-base c = (c.requires.window c.requires.known).there

pub one_more-requires-clause-entry : goal.one_more-requires-clause-entry
one_more-requires-clause-entry c =
    let self = c.args.self.now in
    let blocks : c.as_slice.result.now ≡ c.args.packed.now.bytes = search rules in
    let known = c.requires.window c.requires.known in
    subst (λ (xs : List ℕ). IsEntry (key_at (take self.records.end self.records.body.items) self.records.base) xs self.records.at) (sym blocks) (known.decoded.next blank c.requires.inside).entry
