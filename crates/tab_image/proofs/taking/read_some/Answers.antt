use Rattle.std.proofs.Common.{rules, ◌≡◌, ℕ, true, List, length, take, ◌++◌, ap, ◌∙◌, arith}
use Rattle.tab_image.proofs.NumberLemmas.{some_taken, ahead_yes}
use Rattle.tab_image.proofs.taking.read_some.Goals as goal

pub lesser-count-requires : goal.lesser-count-requires
lesser-count-requires g c =
    let i = g.R.Input in
    let yes : c.in_ok-is_ahead.field-0 ≡ true = search rules in
    let ahead = ahead_yes i c.args.input.now c.is_ahead.new.input _ c.in_ok-is_ahead.field-0 c.is_ahead.ensures c.in_ok-is_ahead.was yes in
    let len : length c.front-front.result.now ≡ length (i.front c.is_ahead.new.input) = ap (λ (z : List ℕ). length z) c.front-front.ensures.value in
    (omega (arith, ahead.1, len), c.requires)

pub returns-clause-bytes : goal.returns-clause-bytes
returns-clause-bytes g c =
    let i = g.R.Input in
    let yes : c.in_ok-is_ahead.field-0 ≡ true = search rules in
    let ahead = ahead_yes i c.args.input.now c.is_ahead.new.input _ c.in_ok-is_ahead.field-0 c.is_ahead.ensures c.in_ok-is_ahead.was yes in
    let front : c.front-front.result.now ≡ i.front c.is_ahead.new.input = c.front-front.ensures.value in
    let len : length c.front-front.result.now ≡ length (i.front c.is_ahead.new.input) = ap (λ (z : List ℕ). length z) front in
    let n = c.lesser-count.result in
    let grown : c.extend_from_slice.new.self.items ≡ c.args.text.now.items ++ take n c.front-front.result.now = search rules in
    (c.lesser-count.ensures.some, c.lesser-count.ensures.second, some_taken i c.args.input.now c.is_ahead.new.input c.consume.new.self n _ _ ahead.0 ahead.2 (omega (arith, c.lesser-count.ensures.first, len)) c.consume.ensures.bytes c.consume.ensures.calls.0 (grown ∙ ap (λ (z : List ℕ). c.args.text.now.items ++ take n z) front))
