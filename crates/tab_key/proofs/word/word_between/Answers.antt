use Rattle.std.proofs.Common.{rules, ◌∙◌, ◌-◌, ◌≤◌, ap, length, drop, arith, length-drop}
use Rattle.tab_key.specs.RowPrefix.{padded}
use Rattle.tab_key.specs.Words.{word_of}
use Rattle.tab_key.proofs.WordLaws.{eight_bytes, length_padded, slice_bytes, take_padded}
use Rattle.tab_key.proofs.word.word_between.Goals as goal

pub returns-clause-word : goal.returns-clause-word
returns-clause-word c =
    let body = c.args.body.now in
    let rest = drop c.args.start body in
    let few : c.args.end - c.args.start ≤ 7 = search rules in
    let inside : c.args.end - c.args.start ≤ length rest = omega (arith, c.requires.order, c.requires.within, length-drop c.args.start body) in
    record {
      value = c.first_word.ensures (padded 8 rest) (length_padded 8 rest) (eight_bytes body c.args.start (λ i. (c.type_inv.body i).fits)) c.eight_at.ensures ∙ ap word_of (take_padded (c.args.end - c.args.start) 8 rest (omega (arith, few)) inside);
      bytes = slice_bytes body c.args.start c.args.end (λ i. (c.type_inv.body i).fits);
    }
