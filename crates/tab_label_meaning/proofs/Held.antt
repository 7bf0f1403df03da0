-- Reading a text, and testing whether it holds, are the grammar's.
use Rattle.std.proofs.Common.{◌≡◌, ℕ, true, List, Result, Ok, Err, refl, sym, ap, ◌∙◌, subst}
use Rattle.std.specs.Prelude.{IsOk}
use Rattle.tab_label.specs.Grammar.{Label}
use Rattle.tab_label.specs.Holding.{read_holds}
use Rattle.tab_label.specs.Laws.{IsAnswer}
use Rattle.tab_label.specs.Reading.{label_of}
use Rattle.tab_label.proofs.HoldingLemmas.{holds_is}
use Rattle.tab_label.proofs.LabelOf.{reading_is_the_grammar, the_grammar_is_reading}
use Rattle.tab_label_meaning.specs.Meaning.{IsLabel, IsHeldBy, LabelsAreRead, LabelsHold}

read_label : (text : List ℕ) (r : Result Label ℕ) → IsAnswer text r → IsOk r → IsLabel text
read_label text (Ok m) reads ok = (m, reads)
read_label text (Err n) none ok = absurd (cc)

pub read_is_label : LabelsAreRead
read_is_label text bytes = (read_label text (label_of text) (reading_is_the_grammar text bytes), λ label. subst IsOk (sym (the_grammar_is_reading text (Ok label.0) bytes label.1)) refl)

held : (text : List ℕ) (auths : List (List ℕ)) (r : Result Label ℕ) → IsAnswer text r → read_holds r auths ≡ true → IsHeldBy text auths
held text auths (Ok m) reads h = (m, reads, (holds_is m auths).0 h)
held text auths (Err n) none h = absurd (cc)

pub held_is_true : LabelsHold
held_is_true text auths bytes = (held text auths (label_of text) (reading_is_the_grammar text bytes), so)
  where
    so : IsHeldBy text auths → read_holds (label_of text) auths ≡ true
    so (m, reads, h) = ap (λ r. read_holds r auths) (the_grammar_is_reading text (Ok m) bytes reads) ∙ (holds_is m auths).1 h
