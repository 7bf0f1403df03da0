use Rattle.std.proofs.Common.{rules, ◌≡◌, ◌∙◌, ◌≤◌, ℕ, List, ◌++◌, ap, sym, length, take, drop, arith}
use Rattle.std.specs.Prelude.{min, replicate}
use Rattle.std.proofs.lemmas.List.{take_min, take_all}
use Rattle.tab_key.proofs.RowPrefix.{padded_take}
use Rattle.tab_key.proofs.prefix.padded.Goals as goal

pub returns : goal.returns
returns c =
    let row = c.args.row.now in
    let amount : c.min.result ≡ min 16 (length row) = omega (arith, c.min.ensures) in
    let part : take c.min.result row ≡ take 16 row = ap (λ (n : ℕ). take n row) amount ∙ take_min 16 row in
    c.write_over.ensures ∙ ap (λ (xs : List ℕ). xs ++ drop (length xs) (replicate 16 0)) part ∙ padded_take 16 row

pub returns-then-row-le16 : goal.returns-then-row-le16
returns-then-row-le16 c =
    let row = c.args.row.now in
    let few : length row ≤ 16 = search rules in
    let whole : take 16 row ≡ row = take_all 16 row few in
    c.write_ends.ensures ∙ ap (λ (xs : List ℕ). xs ++ drop (length xs) (replicate 16 0)) (sym whole) ∙ padded_take 16 row
