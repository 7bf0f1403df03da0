use Rattle.std.proofs.Common.{◌≡◌, ℕ, List, [], ◌∷◌, ◌∙◌, subst, rules, to_z, of_z, w64}
use Rattle.std.specs.Prelude.{codes}
use Rattle.std.specs.Fmt.{signed_decimal}
use Rattle.tab_io.specs.Writing.{Puts}
use Rattle.tab_key.specs.declared.key.Kind.TheVariants.{Put}
use Rattle.tab_accumulo.specs.Words.{quoted}
use Rattle.tab_accumulo.specs.Lines.{told, kind_words}
use Rattle.tab_accumulo.proofs.records.put_put.Goals as goal

pub returns : goal.returns
returns g c =
    let trip : to_z w64 (of_z w64 c.timestamp.result) ≡ c.timestamp.result = search rules in
    let words : List (List ℕ) = codes "insert" ∷ codes "-l" ∷ quoted c.label.result.now ∷ codes "-ts" ∷ signed_decimal (to_z w64 (of_z w64 c.timestamp.result)) ∷ codes "--"
    ∷ quoted c.row.result.now ∷ quoted c.family.result.now ∷ quoted c.qualifier.result.now ∷ quoted c.value.result.now ∷ [] in
    let are : words ≡ kind_words Put c.args.written.now = λ i. codes "insert" ∷ codes "-l" ∷ quoted (c.label.ensures i) ∷ codes "-ts" ∷ signed_decimal ((trip ∙ c.timestamp.ensures) i) ∷ codes "--"
    ∷ quoted (c.row.ensures i) ∷ quoted (c.family.ensures i) ∷ quoted (c.qualifier.ensures i) ∷ quoted (c.value.ensures i) ∷ [] in
    subst (λ (ws : List (List ℕ)). Puts g.W.Output c.args.output.now c.put_told.new.output (told c.args.obstacle ws) c.put_told.result) are c.put_told.ensures
