-- An offset that a check reports lies in its label.
use Rattle.std.proofs.Common.{◌≡◌, ℕ, suc, ◌+◌, ◌≤◌, List, [], ◌∷◌, length, refl, arith, Option, Some, None, Ok, Err}
use Rattle.std.specs.Prelude.{Result}
use Rattle.tab_label.specs.Grammar.{Label}
use Rattle.tab_label.specs.Machine.{State, start, step, ending}
use Rattle.tab_label.specs.Reading.{ended, next, reads_on, label_of}
use Rattle.tab_label.specs.Holding.{judged, read_judged}

reads_within : (bytes : List ℕ) (i : ℕ) (s : State) (n : ℕ) → reads_on bytes i s ≡ Err n → n ≤ i + length bytes
unfolding reads_on
reads_within [] i s n e = go (ending s) e
  where
    go : (o : Option Label) → ended i o ≡ Err n → n ≤ i + 0
    go None e = let is : i ≡ n = cc in omega (arith, is)
    go (Some m) e = absurd (cc)
reads_within (b ∷ bs) i s n e = go (step s b) e (λ t h. reads_within bs (i + 1) t n h)
  where
    go : (o : Option State) → next i o (λ t. reads_on bs (i + 1) t) ≡ Err n → ((t : State) → reads_on bs (i + 1) t ≡ Err n → n ≤ (i + 1) + length bs) → n ≤ i + suc (length bs)
    go None e ih = let is : i ≡ n = cc in omega (arith, is)
    go (Some t) e ih = let h = ih t e in omega (arith, h)

pub judged_within : (text : List ℕ) (auths : List (List ℕ)) (n : ℕ) → judged text auths ≡ Err n → n ≤ length text
unfolding label_of
judged_within text auths n e = go (label_of text) refl e
  where
    go : (r : Result Label ℕ) → label_of text ≡ r → read_judged r auths ≡ Err n → n ≤ length text
    go (Ok label) is e = absurd (cc)
    go (Err m) is e = let same : m ≡ n = cc in let w = reads_within text 0 start m is in omega (arith, w, same)
