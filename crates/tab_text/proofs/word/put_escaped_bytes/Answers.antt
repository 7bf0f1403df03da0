use Rattle.std.proofs.Common.{arith}
use Rattle.tab_text.proofs.Writing.{escaped_more, escaped_part}
use Rattle.tab_text.proofs.word.put_escaped_bytes.Goals as goal

pub returns-in-Err : goal.returns-in-Err
returns-in-Err g c = escaped_part c.args.bytes.now c.split_at.result.1.now c.loop-done.done c.split_at.ensures.back c.loop-done.invariant.put c.in-Err.ensures

pub loop-done-preserved : goal.loop-done-preserved
loop-done-preserved g c = record {
  within = omega (arith, c.in-Ok.ensures.1, c.split_at.ensures.back_len);
  put = escaped_more c.args.bytes.now c.split_at.result.1.now c.loop-done.done c.in-Ok.count c.split_at.ensures.back c.loop-done.invariant.put c.in-Ok.ensures.2;
}
