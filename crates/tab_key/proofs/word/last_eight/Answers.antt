use Rattle.std.proofs.Common.{◌≡◌, ◌∙◌, ℕ, List, ◌++◌, ap, subst, length, drop}
use Rattle.std.specs.Prelude.{replicate}
use Rattle.std.specs.Int.{from_be_bytes, w64}
use Rattle.std.proofs.lemmas.List.{take_all}
use Rattle.tab_key.specs.RowPrefix.{padded}
use Rattle.tab_key.proofs.RowPrefix.{padded_take}
use Rattle.tab_key.proofs.word.last_eight.Goals as goal

pub returns : goal.returns
returns c =
    let bytes = c.args.bytes.now in
    let over : bytes ++ drop (length bytes) (replicate 8 0) ≡ padded 8 bytes = subst (λ (xs : List ℕ). xs ++ drop (length xs) (replicate 8 0) ≡ padded 8 bytes) (take_all 8 bytes c.requires) (padded_take 8 bytes) in
    c.from_be_bytes.ensures ∙ ap (from_be_bytes w64) (c.write_over.ensures ∙ over)
