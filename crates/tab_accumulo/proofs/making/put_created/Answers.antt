use Rattle.std.proofs.Common.{ℕ, List, [], ◌∷◌, ◌∙◌, ap, subst, Option}
use Rattle.std.specs.Prelude.{codes}
use Rattle.tab_io.specs.Writing.{Puts}
use Rattle.tab_accumulo.specs.declared.obstacle.Obstacle.{Obstacle}
use Rattle.tab_accumulo.specs.Words.{versions_word}
use Rattle.tab_accumulo.specs.Carried.{is_table_name, table_obstacle}
use Rattle.tab_accumulo.specs.Lines.{told}
use Rattle.tab_accumulo.proofs.making.put_created.Goals as goal

pub returns : goal.returns
returns g c =
    let P : Option Obstacle → List ℕ → ℕ → Type 0 = λ o b n. Puts g.W.Output c.args.output.now c.put_told.new.output (told o (codes "createtable" ∷ b ∷ codes "-prop" ∷ versions_word n ∷ [])) c.put_told.result in
    let name : List ℕ = c.args.head.now.name in
    let obstacle = c.table_obstacle.ensures ∙ ap table_obstacle (c.is_table_name.ensures ∙ ap is_table_name c.as_bytes.ensures.value) in
    subst (λ (n : ℕ). P (table_obstacle (is_table_name name)) name n) c.get.ensures.value
    (subst (λ (b : List ℕ). P (table_obstacle (is_table_name name)) b c.get.result) c.as_bytes-2.ensures.value
    (subst (λ (o : Option Obstacle). P o c.as_bytes-2.result.now c.get.result) obstacle c.put_told.ensures))
