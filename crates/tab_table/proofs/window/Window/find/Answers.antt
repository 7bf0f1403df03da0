-- The first that isn't before the start, or the end.
use Rattle.std.proofs.Common.{◌≡◌, ◌<◌, true, false, sym, ◌∙◌, length, arith}
use Rattle.std.specs.List.{slice_index_or}
use Rattle.tab_mem.specs.Starts.{is_before}
use Rattle.tab_mem.proofs.Seeking.{blank, before_earlier, before_later}
use Rattle.tab_table.specs.Blocks.{no_key, block_records}
use Rattle.tab_table.proofs.Laid.{length_listed}
use Rattle.tab_table.proofs.window.Window.find.Goals as goal

pub loop-index-preserved : goal.loop-index-preserved
loop-index-preserved c =
    let packed = c.args.packed.now in
    let rs = block_records packed.bytes packed.count in
    let i = c.loop-index.index in
    let inside : i < length rs = omega (arith, c.requires.inside, length_listed packed.bytes 0 no_key 0 packed.count) in
    let here : is_before c.args.target.now.start (slice_index_or rs i blank) ≡ true = sym (c.precedes.ensures packed.bytes packed.count blank c.reach.ensures.window) ∙ c.if-not-precedes.false in
    let more = before_earlier c.args.target.now.start rs c.requires.rising i blank inside here in
    record { window = c.reach.ensures.window; up = omega (arith, more, c.loop-index.invariant.up) }

pub returns-then-not-precedes-clause-found : goal.returns-then-not-precedes-clause-found
returns-then-not-precedes-clause-found c =
    let packed = c.args.packed.now in
    let rs = block_records packed.bytes packed.count in
    let i = c.loop-index.index in
    let inside : i < length rs = omega (arith, c.requires.inside, length_listed packed.bytes 0 no_key 0 packed.count) in
    let here : is_before c.args.target.now.start (slice_index_or rs i blank) ≡ false = sym (c.precedes.ensures packed.bytes packed.count blank c.reach.ensures.window) ∙ c.if-not-precedes.true in
    let no_more = before_later c.args.target.now.start rs i blank here inside in
    omega (arith, no_more, c.loop-index.invariant.up)
