-- Of the step as many bytes as are asked for join those before it.
use Rattle.std.proofs.Common.{◌≡◌, ◌∙◌, ◌+◌, ◌≤◌, length, ap, arith}
use Rattle.tab_io.proofs.Blocks.{step_taken}
use Rattle.tab_io.proofs.block_writer.write_step.Goals as goal

pub returns-clause-block : goal.returns-clause-block
returns-clause-block c = λ count few.
    let block = c.args.block.now in
    let xs = c.deref_mut.result.now in
    let same : length xs ≡ length block.items = ap length c.deref_mut.ensures.value in
    let within : c.args.place ≤ length xs = omega (arith, c.requires.room, same) in
    let room : c.args.place + count ≤ block.len = omega (arith, few, c.requires.room, same, c.deref_mut.ensures.len) in
    step_taken xs block.items c.copy_from_slice.new.self c.args.bytes.now _ _ c.args.place count 32 block.len c.deref_mut.ensures.value (c.copy_from_slice.ensures.after ∙ c.first_step.ensures) few c.requires.bytes within room
