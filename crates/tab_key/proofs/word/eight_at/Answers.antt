use Rattle.std.proofs.Common.{rules, ◌≡◌, ◌∙◌, ℕ, ◌+◌, ◌-◌, ◌≤◌, ap, sym, length, take, drop, arith, length-drop}
use Rattle.std.specs.Int.{from_be_bytes, w64}
use Rattle.tab_key.specs.Encoding.{number_at}
use Rattle.tab_key.proofs.WordLaws.{padded_full}
use Rattle.tab_key.proofs.word.eight_at.Goals as goal

pub returns : goal.returns
unfolding number_at
returns c =
    let place = c.args.place in
    let rest = drop place c.args.body.now in
    let long : place + 8 ≤ length c.args.body.now = search rules in
    let amount : place + 8 - place ≡ 8 = omega arith in
    let inside : 8 ≤ length rest = omega (arith, long, length-drop place c.args.body.now) in
    c.number_at.ensures ∙ ap (from_be_bytes w64) (ap (λ (n : ℕ). take n rest) amount ∙ sym (padded_full 8 rest inside))
