-- The lines of splits are exactly what is read of their words.
use Rattle.std.proofs.Common.{ℕ, ◌≡◌, List, [], ◌∷◌, refl, subst, Some}
use Rattle.std.specs.Prelude.{codes}
use Rattle.tab_history.specs.declared.event.Act.TheVariants.{AddSplit, SplitBySize}
use Rattle.tab_lines.specs.declared.line.Line.{Line}
use Rattle.tab_lines.specs.declared.line.Line.TheVariants as says
use Rattle.tab_lines.specs.Gives.{field}
use Rattle.tab_text.specs.Words.{IsWord}
use Rattle.tab_text.specs.Reading.{bytes_of}
use Rattle.tab_lines.specs.Fields.{name_of, unsigned_of}
use Rattle.tab_lines.specs.Lines.{addsplit_of, splitsize_of}
use Rattle.tab_lines.specs.Forms.{IsNameWord, IsUnsigned, Form}
use Rattle.tab_lines.specs.Forms.Form.{addsplit as form_addsplit, splitsize as form_splitsize}
use Rattle.tab_lines.proofs.WordLaw.{words_read}
use Rattle.tab_lines.proofs.NumberLaw.{unsigned_read}
use Rattle.tab_lines.proofs.ListLaw.{names_read}
use Rattle.tab_lines.proofs.Inverting.{Words, some_inj, bind_some, field_some, on_field, on_ends}

pub addsplit_sound : (words : Words) (line : Line) → addsplit_of words ≡ Some line → Form (codes "addsplit" ∷ words) line
unfolding addsplit_of
addsplit_sound words line is =
    on_field name_of words _ line (λ ws. Form (codes "addsplit" ∷ ws) line) is (λ t ws1 table e1 f1.
    on_field bytes_of ws1 _ line (λ ws. Form (codes "addsplit" ∷ t ∷ ws) line) f1 (λ r ws2 row e2 f2.
    on_ends ws2 _ line (λ ws. Form (codes "addsplit" ∷ t ∷ r ∷ ws) line) f2 (λ f3.
    subst (λ (y : Line). Form (codes "addsplit" ∷ t ∷ r ∷ []) y) (some_inj (says.Act (AddSplit table row)) line f3)
    (form_addsplit t r table row (names_read.sound t table e1) (words_read.sound r row e2)))))

pub addsplit_complete : (t r table row : List ℕ) → IsNameWord t table → IsWord r row → addsplit_of (t ∷ r ∷ []) ≡ Some (says.Act (AddSplit table row))
unfolding addsplit_of
addsplit_complete t r table row name word =
    bind_some (field name_of (t ∷ r ∷ [])) (table, r ∷ []) _ _ (field_some name_of t (r ∷ []) table (names_read.complete t table name))
    (bind_some (field bytes_of (r ∷ [])) (row, []) _ _ (field_some bytes_of r [] row (words_read.complete r row word)) refl)

pub splitsize_sound : (words : Words) (line : Line) → splitsize_of words ≡ Some line → Form (codes "splitsize" ∷ words) line
unfolding splitsize_of
splitsize_sound words line is =
    on_field name_of words _ line (λ ws. Form (codes "splitsize" ∷ ws) line) is (λ t ws1 table e1 f1.
    on_field bytes_of ws1 _ line (λ ws. Form (codes "splitsize" ∷ t ∷ ws) line) f1 (λ r ws2 row e2 f2.
    on_field unsigned_of ws2 _ line (λ ws. Form (codes "splitsize" ∷ t ∷ r ∷ ws) line) f2 (λ l ws3 limit e3 f3.
    on_ends ws3 _ line (λ ws. Form (codes "splitsize" ∷ t ∷ r ∷ l ∷ ws) line) f3 (λ f4.
    subst (λ (y : Line). Form (codes "splitsize" ∷ t ∷ r ∷ l ∷ []) y) (some_inj (says.Act (SplitBySize table row limit)) line f4)
    (form_splitsize t r l table row limit (names_read.sound t table e1) (words_read.sound r row e2) (unsigned_read.sound l limit e3))))))

pub splitsize_complete : (t r l table row : List ℕ) (limit : ℕ) → IsNameWord t table → IsWord r row → IsUnsigned l limit → splitsize_of (t ∷ r ∷ l ∷ []) ≡ Some (says.Act (SplitBySize table row limit))
unfolding splitsize_of
splitsize_complete t r l table row limit name word number =
    bind_some (field name_of (t ∷ r ∷ l ∷ [])) (table, r ∷ l ∷ []) _ _ (field_some name_of t (r ∷ l ∷ []) table (names_read.complete t table name))
    (bind_some (field bytes_of (r ∷ l ∷ [])) (row, l ∷ []) _ _ (field_some bytes_of r (l ∷ []) row (words_read.complete r row word))
    (bind_some (field unsigned_of (l ∷ [])) (limit, []) _ _ (field_some unsigned_of l [] limit (unsigned_read.complete l limit number)) refl))
