-- The bytes from the restart up to the entry behind the last record.
use Rattle.std.proofs.Common.{rules, ◌≡◌, ◌*◌, ◌/◌, ◌+◌, ◌≤◌, ◌∙◌, ap, length, arith}
use Rattle.std.specs.List.{slice_range}
use Rattle.tab_mem.proofs.Seeking.{blank}
use Rattle.tab_table.specs.Blocks.{place_behind}
use Rattle.tab_table.specs.Decoding.{key_at}
use Rattle.tab_table.specs.Windows.{written}
use Rattle.tab_table.proofs.Moved.{kept_of, place_inside, entries_upto}
use Rattle.tab_table.proofs.kept.share_of.Goals as goal

pub restart_at-start-requires : goal.restart_at-start-requires
restart_at-start-requires c = let standing = c.requires.window c.requires.known in omega (arith, standing.decoded.inside, c.requires.some, c.requires.restart)

pub slice-requires-clause-start_le_end : goal.slice-requires-clause-start_le_end
slice-requires-clause-start_le_end c =
    let window = c.args.window.now in
    let blocks = c.args.packed.now.bytes in
    let d = window.records in
    let standing = c.requires.window c.requires.known in
    let even : 16 * (window.first / 16) ≡ window.first = omega (arith, c.requires.restart) in
    let here : c.restart_at-start.result.place ≡ place_behind blocks 0 window.first = (c.restart_at-start.ensures.is blank).there ∙ ap (place_behind blocks 0) even in
    omega (arith, here, entries_upto (written d) d.places.items blocks (place_behind blocks 0 window.first) d.at (key_at (written d) d.base) c.requires.some standing.read)

pub slice-requires-clause-in_bounds : goal.slice-requires-clause-in_bounds
slice-requires-clause-in_bounds c =
    let window = c.args.window.now in
    let packed = c.args.packed.now in
    let standing = c.requires.window c.requires.known in
    omega (arith, standing.decoded.place, place_inside packed.bytes packed.count (window.first + length window.records.places.items) packed.laid standing.decoded.inside)

pub returns : goal.returns
returns c =
    let window = c.args.window.now in
    let packed = c.args.packed.now in
    let d = window.records in
    let standing = c.requires.window c.requires.known in
    let even : 16 * (window.first / 16) ≡ window.first = omega (arith, c.requires.restart) in
    let here : c.restart_at-start.result.place ≡ place_behind packed.bytes 0 window.first = (c.restart_at-start.ensures.is blank).there ∙ ap (place_behind packed.bytes 0) even in
    let inside : d.at ≤ length packed.bytes = omega (arith, standing.decoded.place, place_inside packed.bytes packed.count (window.first + length d.places.items) packed.laid standing.decoded.inside) in
    let bytes : c.in_ok-bytes.bytes ≡ slice_range packed.bytes c.restart_at-start.result.place d.at = search rules in
    kept_of (written d) d.places.items d.base d.at packed.bytes packed.count window.first c.restart_at-start.result.place c.in_ok-bytes.bytes standing c.requires.some here inside bytes
