-- The joiner of the open level behind an unquoted term.
use Rattle.std.proofs.Common.{◌≡◌, ℕ, true, List, Some, refl, subst, sym}
use Rattle.std.proofs.lemmas.Bool.{eqb-true}
use Rattle.tab_label.specs.declared.joiner.Joiner.{Joiner}
use Rattle.tab_label.specs.declared.joiner.Joiner.TheVariants.{And, Or}
use Rattle.tab_label.specs.Grammar.{TermOf, Exprs, With, is_term_byte}
use Rattle.tab_label.specs.Machine.{Frame, Joined, Awaiting, InPlain, step}
use Rattle.tab_label.specs.ParserViews.{is_joined_by}

joins_at_and : (below : List Frame) (xs : Exprs) (bytes : List ℕ)
    → step (record { below = below; frame = Joined And xs; phase = InPlain bytes }) 38 ≡ Some (record { below = below; frame = Joined And (With xs (TermOf bytes)); phase = Awaiting })
unfolding step is_term_byte
joins_at_and below xs bytes = refl

joins_at_or : (below : List Frame) (xs : Exprs) (bytes : List ℕ)
    → step (record { below = below; frame = Joined Or xs; phase = InPlain bytes }) 124 ≡ Some (record { below = below; frame = Joined Or (With xs (TermOf bytes)); phase = Awaiting })
unfolding step is_term_byte
joins_at_or below xs bytes = refl

pub step_joins : (below : List Frame) (j : Joiner) (xs : Exprs) (bytes : List ℕ) (b : ℕ) → is_joined_by j b ≡ true
    → step (record { below = below; frame = Joined j xs; phase = InPlain bytes }) b ≡ Some (record { below = below; frame = Joined j (With xs (TermOf bytes)); phase = Awaiting })
step_joins below And xs bytes b is =
    subst (λ (n : ℕ). step (record { below = below; frame = Joined And xs; phase = InPlain bytes }) n ≡ Some (record { below = below; frame = Joined And (With xs (TermOf bytes)); phase = Awaiting })) (sym (eqb-true b 38 is)) (joins_at_and below xs bytes)
step_joins below Or xs bytes b is =
    subst (λ (n : ℕ). step (record { below = below; frame = Joined Or xs; phase = InPlain bytes }) n ≡ Some (record { below = below; frame = Joined Or (With xs (TermOf bytes)); phase = Awaiting })) (sym (eqb-true b 124 is)) (joins_at_or below xs bytes)
