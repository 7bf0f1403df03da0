use Rattle.std.proofs.Common.{ℕ, List, [], ◌∷◌, ◌++◌, subst, sym}
use Rattle.std.specs.Prelude.{codes}
use Rattle.tab_io.specs.Writing.{Puts}
use Rattle.tab_policy.specs.declared.permission.Permission.{Permission}
use Rattle.tab_text.specs.Words.{word}
use Rattle.tab_text.specs.Lines.{line_text}
use Rattle.tab_replies.specs.Texts.{table_word, permission_words}
use Rattle.tab_replies.proofs.refusal.put_denied.Goals as goal

pub returns-in-OfSystem : goal.returns-in-OfSystem
returns-in-OfSystem g c =
    let P : List ℕ → Type 0 = λ t. Puts g.W.Output c.args.output.now c.put_named.new.output t c.put_named.result in
    let S : Permission → Type 0 = λ x. P (line_text (codes "refused" ∷ codes "3" ∷ codes "PermissionDenied" ∷ permission_words x)) in
    subst S (sym c.in-OfSystem.is) (subst (λ (t : List ℕ). P (line_text (codes "refused" ∷ codes "3" ∷ codes "PermissionDenied" ∷ (codes "System" ++ (46 ∷ t)) ∷ []))) c.name.ensures c.put_named.ensures)

pub returns-in-OfTable : goal.returns-in-OfTable
returns-in-OfTable g c =
    let P : List ℕ → Type 0 = λ t. Puts g.W.Output c.args.output.now c.put_line.new.output t c.put_line.result in
    let S : Permission → Type 0 = λ x. P (line_text (codes "refused" ∷ codes "3" ∷ codes "PermissionDenied" ∷ permission_words x)) in
    let N : List ℕ → Type 0 = λ n. P (line_text (codes "refused" ∷ codes "3" ∷ codes "PermissionDenied" ∷ (codes "Table" ++ (46 ∷ n)) ∷ word c.as_bytes.result.now ∷ [])) in
    let T : List ℕ → Type 0 = λ n. P (line_text (codes "refused" ∷ codes "3" ∷ codes "PermissionDenied" ∷ table_word c.in-OfTable.permission ∷ word n ∷ [])) in
    subst S (sym c.in-OfTable.is) (subst T c.as_bytes.ensures.value (subst N c.name-in-OfTable.ensures c.put_line.ensures))
