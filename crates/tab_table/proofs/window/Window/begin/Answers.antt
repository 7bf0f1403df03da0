-- The restart's record is the next one.
use Rattle.std.proofs.Common.{◌≡◌, ◌*◌, List, ℕ, subst, sym, take, rules}
use Rattle.std.specs.List.{slice_index_or}
use Rattle.tab_table.specs.Blocks.{no_key, block_records, IsLaid}
use Rattle.tab_table.specs.Decoding.{IsStanding}
use Rattle.tab_table.specs.Restarts.{IsRestart}
use Rattle.tab_table.proofs.window.Window.begin.Goals as goal

pub returns-clause-window : goal.returns-clause-window
returns-clause-window c = λ _.
    let packed = c.args.packed.now in
    let now = c.begin.new.self in
    let index = 16 * c.args.restart in
    let start = c.restart_at-start.result in
    let blocks : c.as_slice.result.now ≡ packed.bytes = search rules in
    let shares : c.deref.result.now ≡ packed.restarts.shares.items = search rules in
    subst (λ (xs : List ℕ). IsStanding (take now.end now.body.items) now.places.items now.base now.at xs packed.count index) blocks
    (c.in_ok-begin.ensures.decoded packed.count index (subst (λ (xs : List ℕ). IsLaid xs 0 no_key 0 packed.count) (sym blocks) packed.laid) c.requires
    (λ u. subst (λ (ss : List ℕ). IsRestart c.as_slice.result.now ss index (slice_index_or (block_records c.as_slice.result.now packed.count) index u) start) (sym shares)
    (subst (λ (xs : List ℕ). IsRestart xs packed.restarts.shares.items index (slice_index_or (block_records xs packed.count) index u) start) (sym blocks) (c.restart_at-start.ensures.is u))))
