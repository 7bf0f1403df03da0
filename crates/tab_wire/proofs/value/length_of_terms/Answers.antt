use Rattle.std.proofs.Common.{rules, ◌≡◌, ◌%◌, ◌^◌, length, take, ap, ◌∙◌, arith}
use Rattle.std.specs.List.{flat_map}
use Rattle.std.proofs.lemmas.List.{take_all}
use Rattle.tab_wire.specs.Replies.{field}
use Rattle.tab_wire.proofs.Lengths.{more_bytes, terms_each}
use Rattle.tab_wire.proofs.value.length_of_terms.Goals as goal

pub loop-term-preserved : goal.loop-term-preserved
loop-term-preserved c =
    more_bytes (λ t. field t.items) c.args.terms.now c.loop-term.term-index c.term-item.result c.loop-term.length c.length_of_field-length.result c.loop-term-test.true c.loop-term.invariant
    (search rules)

pub returns : goal.returns
returns c =
    let all : take c.loop-term.term-index c.args.terms.now ≡ c.args.terms.now = take_all c.loop-term.term-index c.args.terms.now (omega arith) in
    c.loop-term.invariant ∙ ap (λ ts. length (flat_map (λ t. field t.items) ts) % 2 ^ 32) all ∙ ap (λ t. length t % 2 ^ 32) (terms_each c.args.terms.now)
