-- The function and the relation agree.
use Rattle.std.proofs.Common.{◌≡◌, ℕ, ◌+◌, ◌<◌, List, [], ◌∷◌, ◌++◌, length, get_or, Option, Some, None, Result, Ok, Err, refl, sym, ap, subst, ◌∙◌, append_assoc, length-append, inl, inr, arith}
use Rattle.std.specs.List.{All}
use Rattle.std.proofs.lemmas.List.{append-nil, take_all}
use Rattle.std.proofs.lemmas.Bool.{cases_lt}
use Rattle.std.proofs.Math.ListN.{get_or-eq_default}
use Rattle.std.proofs.Math.Seq.{take-append_seam}
use Rattle.tab_label.specs.Grammar.{Label, Reads, IsNoLabel, IsOffset}
use Rattle.tab_label.specs.Machine.{State, start, step, ending, run}
use Rattle.tab_label.specs.Reading.{ended, next, reads_on, label_of}
use Rattle.tab_label.specs.Laws.{AreBytes, IsAnswer}
use Rattle.tab_label.proofs.Complete.{run-append, one_meaning}
use Rattle.tab_label.proofs.Sound.{IsByte}
use Rattle.tab_label.proofs.Runs.{run_reads, are_bytes, stops_at, stops_at_end}

get_or-seam : (front bytes : List ℕ) (b : ℕ) → get_or (front ++ b ∷ bytes) (length front) 0 ≡ b
get_or-seam [] bytes b = refl
get_or-seam (x ∷ front) bytes b = get_or-seam front bytes b

at_end : (text : List ℕ) (s : State) (o : Option Label) → ((k : ℕ) → get_or text k 0 < 256) → All IsByte text → run (Some start) text ≡ Some s → ending s ≡ o → IsAnswer text (ended (length text) o)
at_end text s None byte bytes h e = stops_at_end text (length text) s byte (omega arith) (ap (λ (t : List ℕ). run (Some start) t) (take_all (length text) text (omega arith)) ∙ h) e
at_end text s (Some m) byte bytes h e = run_reads text s m bytes h e

one_more : (front : List ℕ) (b : ℕ) → length (front ++ b ∷ []) ≡ length front + 1
one_more front b = length-append front (b ∷ [])

one_step : (s t : State) (b : ℕ) → step s b ≡ Some t → run (Some s) (b ∷ []) ≡ Some t
unfolding run
one_step s t b e = e

goes_on : (bytes front : List ℕ) (b : ℕ) (s : State) (o : Option State) → ((k : ℕ) → get_or (front ++ b ∷ bytes) k 0 < 256) → run (Some start) front ≡ Some s → step s b ≡ o
    → ((t : State) → run (Some start) (front ++ b ∷ []) ≡ Some t → IsAnswer (front ++ b ∷ bytes) (reads_on bytes (length front + 1) t))
    → IsAnswer (front ++ b ∷ bytes) (next (length front) o (λ t. reads_on bytes (length front + 1) t))
goes_on bytes front b s None byte h e rest =
    let within : length front < length (front ++ b ∷ bytes) = omega (arith, length-append front (b ∷ bytes)) in
    stops_at (front ++ b ∷ bytes) (length front) s byte within (rw take-append_seam h) (rw (get_or-seam front bytes b) e)
goes_on bytes front b s (Some t) byte h e rest = rest t (run-append front (b ∷ []) (Some start) ∙ ap (λ (o : Option State). run o (b ∷ [])) h ∙ one_step s t b e)

answers : (bytes front : List ℕ) (s : State) → ((k : ℕ) → get_or (front ++ bytes) k 0 < 256) → All IsByte (front ++ bytes) → run (Some start) front ≡ Some s → IsAnswer (front ++ bytes) (reads_on bytes (length front) s)
unfolding reads_on
answers [] front s byte all h = rw append-nil (at_end front s (ending s) (rw append-nil at byte) (rw append-nil at all) h refl)
answers (b ∷ bytes) front s byte all h =
    goes_on bytes front b s (step s b) byte h refl (λ t g.
    let joined : (front ++ b ∷ []) ++ bytes ≡ front ++ b ∷ bytes = append_assoc front (b ∷ []) bytes in
    let again = answers bytes (front ++ b ∷ []) t (subst (λ (xs : List ℕ). (k : ℕ) → get_or xs k 0 < 256) (sym joined) byte) (subst (λ (xs : List ℕ). All IsByte xs) (sym joined) all) g in
    subst (λ (xs : List ℕ). IsAnswer xs (reads_on bytes (length front + 1) t)) joined (subst (λ (n : ℕ). IsAnswer ((front ++ b ∷ []) ++ bytes) (reads_on bytes n t)) (one_more front b) again))

-- What the function says of bytes is so.
pub label_of_is : (text : List ℕ) → ((k : ℕ) → get_or text k 0 < 256) → IsAnswer text (label_of text)
unfolding label_of run
label_of_is text byte = answers text [] start byte (are_bytes text byte) refl

-- A text that says m is answered so.
pub says_label_of : (text : List ℕ) (m : Label) → ((k : ℕ) → get_or text k 0 < 256) → Reads text m → label_of text ≡ Ok m
says_label_of text m byte h = go (label_of text) refl (label_of_is text byte)
  where
    go : (r : Result Label ℕ) → label_of text ≡ r → IsAnswer text r → label_of text ≡ Ok m
    go (Ok n) is reads = is ∙ ap (λ (x : Label). Ok x) (one_meaning text n m reads h)
    go (Err n) is (none, offset) = absurd (none m h)

one_offset : (text : List ℕ) (n k : ℕ) → IsOffset text n → IsOffset text k → n ≡ k
one_offset text n k a b = omega (arith, a.longest k b.within b.begins, b.longest n a.within a.begins)

-- A text that is no label is answered with its offset.
pub refuses_label_of : (text : List ℕ) (n : ℕ) → ((k : ℕ) → get_or text k 0 < 256) → IsNoLabel text → IsOffset text n → label_of text ≡ Err n
refuses_label_of text n byte none offset = go (label_of text) refl (label_of_is text byte)
  where
    go : (r : Result Label ℕ) → label_of text ≡ r → IsAnswer text r → label_of text ≡ Err n
    go (Ok m) is reads = absurd (none m reads)
    go (Err k) is (no_label, other) = is ∙ ap (λ (x : ℕ). Err x) (one_offset text k n other offset)

-- each number of a text of bytes, and what stands for one past its end
each_byte : (text : List ℕ) → AreBytes text → (k : ℕ) → get_or text k 0 < 256
each_byte text bytes k = elim (cases_lt k (length text)) [ inl lt ↦ bytes k 0 lt | inr past ↦ rw (get_or-eq_default text 0 past) (omega arith) ]

pub reading_is_the_grammar : (text : List ℕ) → AreBytes text → IsAnswer text (label_of text)
reading_is_the_grammar text bytes = label_of_is text (each_byte text bytes)

pub the_grammar_is_reading : (text : List ℕ) (answer : Result Label ℕ) → AreBytes text → IsAnswer text answer → label_of text ≡ answer
the_grammar_is_reading text (Ok m) bytes h = says_label_of text m (each_byte text bytes) h
the_grammar_is_reading text (Err n) bytes (none, offset) = refuses_label_of text n (each_byte text bytes) none offset
