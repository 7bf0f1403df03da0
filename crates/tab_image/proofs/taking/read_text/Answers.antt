use Rattle.std.proofs.Common.{◌≡◌, ◌+◌, ◌-◌, ℕ, sym, subst, arith}
use Rattle.tab_image.specs.Streams.{Appended, Stops, text_of}
use Rattle.tab_image.proofs.NumberLemmas.{appended_none, appended_more, appended_stops}
use Rattle.tab_image.proofs.taking.read_text.Goals as goal

pub loop-left-init : goal.loop-left-init
loop-left-init g c =
    let none : c.args.count - c.args.count ≡ 0 = omega arith in
    record {
      few = omega arith;
      counted = omega arith;
      so_far = subst (λ (n : ℕ). Appended g.R.Input c.args.input.now c.args.input.now (text_of n) c.args.text.now.items c.args.text.now.items) (sym none) (appended_none g.R.Input c.args.input.now c.args.text.now.items);
    }

pub loop-left-preserved : goal.loop-left-preserved
loop-left-preserved g c =
    let inv = c.loop-left.invariant in
    let n = c.in-Ok.taken in
    let more = c.in-Ok.ensures.bytes in
    let sum : (c.args.count - c.loop-left.left) + n ≡ c.args.count - (c.loop-left.left - n) = omega (arith, inv.few, more.1) in
    record {
      few = omega (arith, inv.few);
      counted = omega (arith, inv.counted, c.in-Ok.ensures.count, inv.few, more.1);
      so_far = subst (λ (k : ℕ). Appended g.R.Input c.args.input.now c.read_some.new.input (text_of k) c.args.text.now.items c.read_some.new.text.items) sum
          (appended_more g.R.Input c.args.input.now c.loop-left.input c.read_some.new.input (c.args.count - c.loop-left.left) n _ _ _ inv.so_far more.2);
    }

pub returns-in-Err-clause-bytes : goal.returns-in-Err-clause-bytes
returns-in-Err-clause-bytes g c =
    let inv = c.loop-left.invariant in
    let sum : (c.args.count - c.loop-left.left) + c.loop-left.left ≡ c.args.count = omega (arith, inv.few) in
    subst (λ (k : ℕ). Stops g.R.Input c.args.input.now c.read_some.new.input (text_of k) c.in-Err.unread) sum
    (appended_stops g.R.Input c.args.input.now c.loop-left.input c.read_some.new.input (c.args.count - c.loop-left.left) c.loop-left.left _ _ c.in-Err.unread inv.so_far c.in-Err.ensures.bytes)
