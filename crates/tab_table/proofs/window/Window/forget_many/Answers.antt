-- The next one is the same.
use Rattle.std.proofs.Common.{◌≡◌, ◌+◌, ◌<◌, List, ℕ, [], subst, sym, ◌∙◌, length, take, arith}
use Rattle.std.specs.List.{slice_index_or}
use Rattle.tab_key.specs.Records.{Key}
use Rattle.tab_table.specs.Blocks.{block_records}
use Rattle.tab_table.specs.Decoding.{key_at, IsNext, IsDecoded, IsStanding}
use Rattle.tab_table.proofs.Begun.{none_decoded}
use Rattle.tab_table.proofs.window.Window.forget_many.Goals as goal

pub forget-requires : goal.forget-requires
forget-requires c = (c.requires.window c.requires.known).there

pub overflow_add-self : goal.overflow_add-self
overflow_add-self c = let known = c.requires.window c.requires.known in omega (arith, known.decoded.inside, c.len-count.ensures)

pub returns-clause-window : goal.returns-clause-window
returns-clause-window c = λ _.
    let known = c.requires.window c.requires.known in
    let old = c.args.self.now.records in
    let new = c.forget.new.self in
    let bytes = c.args.packed.now.bytes in
    let count = c.args.packed.now.count in
    let first = c.args.self.now.first in
    let next = first + length old.places.items in
    let out : List ℕ = take new.end new.body.items in
    let key = key_at out new.base in
    let on : (u : _) → next < count → IsNext key bytes new.at (slice_index_or (block_records bytes count) next u) = λ u lt. subst (λ p. IsNext key bytes p (slice_index_or (block_records bytes count) next u)) (sym c.forget.ensures.place) (subst (λ (k : Key). IsNext k bytes old.at (slice_index_or (block_records bytes count) next u)) (sym c.forget.ensures.key) (known.decoded.next u lt)) in
    let none : IsDecoded out [] key new.at bytes count next = none_decoded out key new.at bytes count next known.decoded.inside (c.forget.ensures.place ∙ known.decoded.place) on in
    subst (λ n. IsStanding out new.places.items new.base new.at bytes count (first + n)) (sym c.len-count.ensures)
    (subst (λ (ps : List ℕ). IsStanding out ps new.base new.at bytes count next) (sym c.forget.ensures.none) (record { decoded = none; there = c.forget.ensures.base; read = tt }))
