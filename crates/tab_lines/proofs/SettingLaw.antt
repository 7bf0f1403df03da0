-- The lines that set a table's versions and its horizon are exactly what is read of their words.
use Rattle.std.proofs.Common.{ℕ, ◌≡◌, List, [], ◌∷◌, refl, subst, Some}
use Rattle.std.specs.Prelude.{ℤ, codes}
use Rattle.tab_history.specs.declared.event.Act.TheVariants.{SetVersions, SetHorizon}
use Rattle.tab_lines.specs.declared.line.Line.{Line}
use Rattle.tab_lines.specs.declared.line.Line.TheVariants as says
use Rattle.tab_lines.specs.Gives.{field}
use Rattle.tab_lines.specs.Fields.{name_of, signed_of, version_count}
use Rattle.tab_lines.specs.Lines.{versions_line_of, horizon_of}
use Rattle.tab_lines.specs.Forms.{IsNameWord, IsNumber, IsVersionCount, Form}
use Rattle.tab_lines.specs.Forms.Form.{versions as form_versions, horizon as form_horizon}
use Rattle.tab_lines.proofs.NumberLaw.{numbers_read, counts_read}
use Rattle.tab_lines.proofs.ListLaw.{names_read}
use Rattle.tab_lines.proofs.Inverting.{Words, some_inj, bind_some, field_some, on_field, on_ends}

pub versions_line_sound : (words : Words) (line : Line) → versions_line_of words ≡ Some line → Form (codes "versions" ∷ words) line
unfolding versions_line_of
versions_line_sound words line is =
    on_field name_of words _ line (λ ws. Form (codes "versions" ∷ ws) line) is (λ t ws1 table e1 f1.
    on_field version_count ws1 _ line (λ ws. Form (codes "versions" ∷ t ∷ ws) line) f1 (λ n ws2 many e2 f2.
    on_ends ws2 _ line (λ ws. Form (codes "versions" ∷ t ∷ n ∷ ws) line) f2 (λ f3.
    subst (λ (y : Line). Form (codes "versions" ∷ t ∷ n ∷ []) y) (some_inj (says.Act (SetVersions table many)) line f3)
    (form_versions t n table many (names_read.sound t table e1) (counts_read.sound n many e2)))))

pub versions_line_complete : (t n table : List ℕ) (many : ℕ) → IsNameWord t table → IsVersionCount n many → versions_line_of (t ∷ n ∷ []) ≡ Some (says.Act (SetVersions table many))
unfolding versions_line_of
versions_line_complete t n table many name count =
    bind_some (field name_of (t ∷ n ∷ [])) (table, n ∷ []) _ _ (field_some name_of t (n ∷ []) table (names_read.complete t table name))
    (bind_some (field version_count (n ∷ [])) (many, []) _ _ (field_some version_count n [] many (counts_read.complete n many count)) refl)

pub horizon_sound : (words : Words) (line : Line) → horizon_of words ≡ Some line → Form (codes "horizon" ∷ words) line
unfolding horizon_of
horizon_sound words line is =
    on_field name_of words _ line (λ ws. Form (codes "horizon" ∷ ws) line) is (λ t ws1 table e1 f1.
    on_field signed_of ws1 _ line (λ ws. Form (codes "horizon" ∷ t ∷ ws) line) f1 (λ s ws2 timestamp e2 f2.
    on_ends ws2 _ line (λ ws. Form (codes "horizon" ∷ t ∷ s ∷ ws) line) f2 (λ f3.
    subst (λ (y : Line). Form (codes "horizon" ∷ t ∷ s ∷ []) y) (some_inj (says.Act (SetHorizon table timestamp)) line f3)
    (form_horizon t s table timestamp (names_read.sound t table e1) (numbers_read.sound s timestamp e2)))))

pub horizon_complete : (t s table : List ℕ) (timestamp : ℤ) → IsNameWord t table → IsNumber s timestamp → horizon_of (t ∷ s ∷ []) ≡ Some (says.Act (SetHorizon table timestamp))
unfolding horizon_of
horizon_complete t s table timestamp name number =
    bind_some (field name_of (t ∷ s ∷ [])) (table, s ∷ []) _ _ (field_some name_of t (s ∷ []) table (names_read.complete t table name))
    (bind_some (field signed_of (s ∷ [])) (timestamp, []) _ _ (field_some signed_of s [] timestamp (numbers_read.complete s timestamp number)) refl)
