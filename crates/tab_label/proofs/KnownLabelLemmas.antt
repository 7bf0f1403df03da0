-- Short labels, noted and found again.
use Rattle.std.proofs.Common.{◌≡◌, ℕ, ◌<◌, true, List, sym, subst, ap, ◌∙◌, set, replicate, arith}
use Rattle.std.specs.Prelude.{Option, Some, None, is_ok}
use Rattle.std.proofs.lemmas.List.{get_or-replicate, length-replicate}
use Rattle.std.proofs.lemmas.List.Elements.{All-set}
use Rattle.tab_key.specs.Words.{IsWord}
use Rattle.tab_key.proofs.WordLaws.{same_words}
use Rattle.tab_label.specs.Reading.{label_of}
use Rattle.tab_label.specs.KnownLabels.{SpellsLabel, AreLabels}

some_inj : {A : Type 0} (x y : A) → Some x ≡ Some y → x ≡ y
some_inj {A} x y e =
    let or_x : Option A → A = λ o. elim o [ None ↦ x | Some z ↦ z ] in
    ap or_x e

abbrev IsKnown : Option ℕ → Type 0
IsKnown known = (word : ℕ) → known ≡ Some word → SpellsLabel word

unknown : IsKnown None
unknown word e = absurd cc

pub none_noted : (n : ℕ) → AreLabels (replicate n None)
none_noted n i d lt = let none : Option ℕ = None in let less : i < n = omega (arith, lt, length-replicate n none) in subst IsKnown (sym (get_or-replicate n i none d less)) unknown

noted : (word : ℕ) → SpellsLabel word → IsKnown (Some word)
noted word h other e = subst SpellsLabel (some_inj word other e) h

pub one_noted : (words new : List (Option ℕ)) (i word : ℕ) → new ≡ set words i (Some word) → SpellsLabel word → AreLabels words → AreLabels new
one_noted words new i word e h all = subst AreLabels (sym e) (All-set IsKnown words i (Some word) (noted word h) all)

-- a label is known by its number
pub by_word : (word : ℕ) (label : List ℕ) → IsWord word label → is_ok (label_of label) ≡ true → SpellsLabel word
by_word word label at e text is = ap (λ (z : List ℕ). is_ok (label_of z)) (same_words word text label is at) ∙ e
