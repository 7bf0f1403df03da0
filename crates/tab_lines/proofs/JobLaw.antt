-- The lines of compactions in three parts are exactly what is read of their words.
use Rattle.std.proofs.Common.{ℕ, ◌≡◌, List, [], ◌∷◌, refl, sym, ap, ◌∙◌, subst, Some, true}
use Rattle.std.specs.Prelude.{codes}
use Rattle.std.specs.Str.{bytes_eq}
use Rattle.std.proofs.lemmas.Slice.Eq.{bytes_eq-Decides}
use Rattle.tab_cells.specs.declared.compaction.Compaction.{Compaction}
use Rattle.tab_cells.specs.declared.compaction.Compaction.TheVariants.{Minor, Partial, Full}
use Rattle.tab_history.specs.declared.event.Act.TheVariants.{Begin, Install}
use Rattle.tab_history.specs.declared.event.Given.TheVariants.{InSlot}
use Rattle.tab_lines.specs.declared.line.Line.{Line}
use Rattle.tab_lines.specs.declared.line.Line.TheVariants as says
use Rattle.tab_lines.specs.Gives.{field}
use Rattle.tab_text.specs.Words.{IsWord}
use Rattle.tab_text.specs.Reading.{bytes_of}
use Rattle.tab_lines.specs.Fields.{name_of, unsigned_of, compaction_word}
use Rattle.tab_lines.specs.Lines.{begin_of, merge_of, install_of}
use Rattle.tab_lines.specs.Forms.{IsNameWord, IsUnsigned, compaction_name, Form}
use Rattle.tab_lines.specs.Forms.Form.{begin as form_begin, merge as form_merge, install as form_install}
use Rattle.tab_lines.proofs.WordLaw.{words_read}
use Rattle.tab_lines.proofs.NumberLaw.{unsigned_read}
use Rattle.tab_lines.proofs.ListLaw.{names_read}
use Rattle.tab_lines.proofs.Inverting.{Words, some_inj, bind_some, field_some, on_field, on_ends, on_cond}

-- ---- begin
compaction_sound : (word : List ℕ) (kind : Compaction) → compaction_word word ≡ Some kind → word ≡ compaction_name kind
compaction_sound word kind is =
    on_cond (bytes_eq word (codes "minor")) (Some Minor) _ kind (word ≡ compaction_name kind) is (λ yes e. named (codes "minor") Minor yes refl e)
    (λ no e1.
    on_cond (bytes_eq word (codes "partial")) (Some Partial) _ kind (word ≡ compaction_name kind) e1 (λ yes e. named (codes "partial") Partial yes refl e)
    (λ no2 e2.
    on_cond (bytes_eq word (codes "full")) (Some Full) _ kind (word ≡ compaction_name kind) e2 (λ yes e. named (codes "full") Full yes refl e) (λ no3 e3. absurd cc)))
  where
    named : (text : List ℕ) (k : Compaction) → bytes_eq word text ≡ true → text ≡ compaction_name k → Some k ≡ Some kind → word ≡ compaction_name kind
    named text k same name e = (bytes_eq-Decides word text).0 same ∙ name ∙ ap compaction_name (some_inj k kind e)

compaction_complete : (kind : Compaction) → compaction_word (compaction_name kind) ≡ Some kind
compaction_complete Minor = refl
compaction_complete kind = refl

pub begin_sound : (words : Words) (line : Line) → begin_of words ≡ Some line → Form (codes "begin" ∷ words) line
unfolding begin_of
begin_sound words line is =
    on_field name_of words _ line (λ ws. Form (codes "begin" ∷ ws) line) is (λ t ws1 table e1 f1.
    on_field bytes_of ws1 _ line (λ ws. Form (codes "begin" ∷ t ∷ ws) line) f1 (λ r ws2 row e2 f2.
    on_field compaction_word ws2 _ line (λ ws. Form (codes "begin" ∷ t ∷ r ∷ ws) line) f2 (λ word ws3 kind e3 f3.
    on_ends ws3 _ line (λ ws. Form (codes "begin" ∷ t ∷ r ∷ word ∷ ws) line) f3 (λ f4.
    subst (λ (y : Line). Form (codes "begin" ∷ t ∷ r ∷ word ∷ []) y) (some_inj (says.Act (Begin table row kind)) line f4)
    (subst (λ (w : List ℕ). Form (codes "begin" ∷ t ∷ r ∷ w ∷ []) (says.Act (Begin table row kind))) (sym (compaction_sound word kind e3))
    (form_begin t r table row kind (names_read.sound t table e1) (words_read.sound r row e2)))))))

pub begin_complete : (t r table row : List ℕ) (kind : Compaction) → IsNameWord t table → IsWord r row → begin_of (t ∷ r ∷ compaction_name kind ∷ []) ≡ Some (says.Act (Begin table row kind))
unfolding begin_of
begin_complete t r table row kind name word =
    let k : List ℕ = compaction_name kind in
    bind_some (field name_of (t ∷ r ∷ k ∷ [])) (table, r ∷ k ∷ []) _ _ (field_some name_of t (r ∷ k ∷ []) table (names_read.complete t table name))
    (bind_some (field bytes_of (r ∷ k ∷ [])) (row, k ∷ []) _ _ (field_some bytes_of r (k ∷ []) row (words_read.complete r row word))
    (bind_some (field compaction_word (k ∷ [])) (kind, []) _ _ (field_some compaction_word k [] kind (compaction_complete kind)) refl))

-- ---- merge
pub merge_sound : (words : Words) (line : Line) → merge_of words ≡ Some line → Form (codes "merge" ∷ words) line
unfolding merge_of
merge_sound words line is =
    on_field unsigned_of words _ line (λ ws. Form (codes "merge" ∷ ws) line) is (λ k ws job e1 f1.
    on_ends ws _ line (λ ws. Form (codes "merge" ∷ k ∷ ws) line) f1 (λ f2.
    subst (λ (y : Line). Form (codes "merge" ∷ k ∷ []) y) (some_inj (says.Merge job) line f2) (form_merge k job (unsigned_read.sound k job e1))))

pub merge_complete : (k : List ℕ) (job : ℕ) → IsUnsigned k job → merge_of (k ∷ []) ≡ Some (says.Merge job)
unfolding merge_of
merge_complete k job number = bind_some (field unsigned_of (k ∷ [])) (job, []) _ _ (field_some unsigned_of k [] job (unsigned_read.complete k job number)) refl

-- ---- install
pub install_sound : (words : Words) (line : Line) → install_of words ≡ Some line → Form (codes "install" ∷ words) line
unfolding install_of
install_sound words line is =
    on_field name_of words _ line (λ ws. Form (codes "install" ∷ ws) line) is (λ t ws1 table e1 f1.
    on_field unsigned_of ws1 _ line (λ ws. Form (codes "install" ∷ t ∷ ws) line) f1 (λ k ws2 job e2 f2.
    on_ends ws2 _ line (λ ws. Form (codes "install" ∷ t ∷ k ∷ ws) line) f2 (λ f3.
    subst (λ (y : Line). Form (codes "install" ∷ t ∷ k ∷ []) y) (some_inj (says.Act (Install table (InSlot job))) line f3)
    (form_install t k table job (names_read.sound t table e1) (unsigned_read.sound k job e2)))))

pub install_complete : (t k table : List ℕ) (job : ℕ) → IsNameWord t table → IsUnsigned k job → install_of (t ∷ k ∷ []) ≡ Some (says.Act (Install table (InSlot job)))
unfolding install_of
install_complete t k table job name number =
    bind_some (field name_of (t ∷ k ∷ [])) (table, k ∷ []) _ _ (field_some name_of t (k ∷ []) table (names_read.complete t table name))
    (bind_some (field unsigned_of (k ∷ [])) (job, []) _ _ (field_some unsigned_of k [] job (unsigned_read.complete k job number)) refl)
