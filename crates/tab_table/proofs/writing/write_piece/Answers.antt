-- Of the step as many bytes as the piece has join those before it.
use Rattle.std.proofs.Common.{rules, ◌≡◌, ◌≤◌, ◌+◌, ◌∙◌, ap, length, take, arith}
use Rattle.tab_table.proofs.Spliced.{of_front}
use Rattle.tab_table.proofs.writing.write_piece.Goals as goal

pub returns-then-onward-ge-PIECE_STEP-clause-bytes : goal.returns-then-onward-ge-PIECE_STEP-clause-bytes
returns-then-onward-ge-PIECE_STEP-clause-bytes c =
    let old = c.args.out.now in
    let piece = c.args.piece.now in
    let onward = c.onward-onward.result.now in
    let len : c.len-len.result ≡ length piece = search rules in
    let few : length piece ≤ 32 = omega arith in
    let inside : 32 ≤ length onward = omega arith in
    ap (λ n. take (c.args.place + n) c.write_all.new.out) len
    ∙ of_front old c.write_all.new.out onward c.first_step-step.result piece c.args.place 32 (omega (arith, c.requires.room)) few inside c.onward-onward.ensures.front c.first_step-step.ensures c.write_all.ensures.bytes
