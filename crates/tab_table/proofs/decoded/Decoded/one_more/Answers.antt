-- What is decoded stays where the body grows.
use Rattle.std.proofs.Common.{rules, ◌≡◌, ◌≤◌, ◌+◌, List, ℕ, sym, ◌∙◌, ap, subst, length, take, arith}
use Rattle.tab_key.specs.Encoding.{length_at, span_at, IsAt}
use Rattle.tab_table.specs.Blocks.{IsEntry}
use Rattle.tab_table.specs.Decoding.{key_at, IsStanding}
use Rattle.tab_table.proofs.Headed.{value_width}
use Rattle.tab_table.proofs.Longer.{grown_front, on_ok}
use Rattle.tab_table.proofs.Rebuilt.{row_short, family_short, qualifier_short, label_short}
use Rattle.tab_table.proofs.decoded.Decoded.one_more.Goals as goal

pub room_for-len-requires-clause-place : goal.room_for-len-requires-clause-place
unfolding span_at
room_for-len-requires-clause-place c =
    let self = c.args.self.now in
    let blocks = c.args.blocks.now in
    let key = key_at (take self.end self.body.items) self.base in
    let entry = c.requires.entry in
    omega (arith, self.inside, row_short key blocks self.at entry, family_short key blocks self.at entry, qualifier_short key blocks self.at entry, label_short key blocks self.at entry, entry.short.value, value_width blocks (self.at + 16) entry.rest)

pub write_next-requires-clause-base : goal.write_next-requires-clause-base
write_next-requires-clause-base c =
    let self = c.args.self.now in
    let same : take self.end c.grow.new.body.items ≡ take self.end self.body.items = grown_front self.body.items c.grow.new.body.items self.end self.inside c.grow.ensures.front in
    subst (λ (xs : List ℕ). IsAt xs self.base) (sym same) c.requires.base

pub write_next-requires-clause-entry : goal.write_next-requires-clause-entry
write_next-requires-clause-entry c =
    let self = c.args.self.now in
    let same : take self.end c.grow.new.body.items ≡ take self.end self.body.items = grown_front self.body.items c.grow.new.body.items self.end self.inside c.grow.ensures.front in
    subst (λ (xs : List ℕ). IsEntry (key_at xs self.base) c.args.blocks.now self.at) (sym same) c.requires.entry

pub returns-clause-decoded : goal.returns-clause-decoded
returns-clause-decoded c = λ count first laid lt known.
    let self = c.args.self.now in
    let blocks = c.args.blocks.now in
    let same : take self.end c.grow.new.body.items ≡ take self.end self.body.items = grown_front self.body.items c.grow.new.body.items self.end self.inside c.grow.ensures.front in
    on_ok c.write_next.result (c.write_next.ensures.decoded count first laid lt (subst (λ (xs : List ℕ). IsStanding xs self.places.items self.base self.at blocks count first) (sym same) known))
