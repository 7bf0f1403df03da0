-- Texts that are put together piece by piece.
use Rattle.std.proofs.Common.{◌≡◌, ℕ, List, ◌++◌, ap, ◌∙◌, append_assoc}

pub built_of_three : (a b c t2 t3 : List ℕ) → t2 ≡ a ++ b → t3 ≡ t2 ++ c → t3 ≡ a ++ (b ++ c)
built_of_three a b c t2 t3 e2 e3 = e3 ∙ ap (λ (z : List ℕ). z ++ c) e2 ∙ append_assoc a b c

built_of_four : (a b c d t2 t3 t4 : List ℕ) → t2 ≡ a ++ b → t3 ≡ t2 ++ c → t4 ≡ t3 ++ d → t4 ≡ a ++ (b ++ (c ++ d))
built_of_four a b c d t2 t3 t4 e2 e3 e4 =
    e4 ∙ ap (λ (z : List ℕ). z ++ d) (e3 ∙ ap (λ (z : List ℕ). z ++ c) e2 ∙ append_assoc a b c) ∙ append_assoc a (b ++ c) d ∙ ap (λ (z : List ℕ). a ++ z) (append_assoc b c d)

pub built_of_six : (a b c d e f t2 t3 t4 t5 t6 : List ℕ) → t2 ≡ a ++ b → t3 ≡ t2 ++ c → t4 ≡ t3 ++ d → t5 ≡ t4 ++ e → t6 ≡ t5 ++ f → t6 ≡ a ++ (b ++ (c ++ (d ++ (e ++ f))))
built_of_six a b c d e f t2 t3 t4 t5 t6 e2 e3 e4 e5 e6 =
    e6 ∙ ap (λ (z : List ℕ). z ++ f) (e5 ∙ ap (λ (z : List ℕ). z ++ e) (built_of_four a b c d t2 t3 t4 e2 e3 e4))
    ∙ append_assoc (a ++ (b ++ (c ++ d))) e f ∙ append_assoc a (b ++ (c ++ d)) (e ++ f)
    ∙ ap (λ (z : List ℕ). a ++ z) (append_assoc b (c ++ d) (e ++ f) ∙ ap (λ (z : List ℕ). b ++ z) (append_assoc c d (e ++ f)))
