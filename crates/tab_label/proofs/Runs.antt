-- A run through a text tells whether some label begins with it, and what it reads as.
use Rattle.std.proofs.Common.{◌≡◌, ◌≢◌, ◌⊎◌, ℕ, ◌+◌, ◌<◌, ◌≤◌, Bool, true, false, List, [], ◌∷◌, ◌++◌, length, take, drop, get_or, nat_lt, length-take, Option, Some, None, refl, sym, ap, subst, ◌∙◌, append_assoc, inl, inr, arith}
use Rattle.std.specs.List.{All}
use Rattle.std.proofs.lemmas.List.{append-nil, take-append-drop, take-append-le, take_more, take_all}
use Rattle.std.proofs.lemmas.Bool.{ltb-true, ltb-false}
use Rattle.std.proofs.lemmas.List.Elements.{All-head, All-tail, All-nil, All-cons, All-append, All-take, All-from_get_or}
use Rattle.tab_label.specs.Grammar.{Expr, TermOf, Label, All_see, Only_if, is_term_byte, ReadsOperand, Reads, nothing, expression, Begins, IsOffset, IsNoLabel}
use Rattle.tab_label.specs.Machine.{Frame, Fresh, Joined, Phase, Awaiting, InPlain, InQuotes, Escaping, Behind, State, start, closed, at, step_in, step, settled, outermost, ending, run}
use Rattle.tab_label.proofs.Complete.{run-append, run-none, shut, closes, ends_in, reads_runs}
use Rattle.tab_label.proofs.Sound.{IsByte, push-nonempty, InFrame, InPhase, InBelow, Spells, at_start, reads_level, spells_after, from_awaiting, from_plain, from_quotes, from_escape}

step_spells : (p : Phase) (deep : ℕ) (below : List Frame) (frame : Frame) (a b c : List ℕ) (x : ℕ) (s : State) → IsByte x → InBelow deep below a → InFrame deep frame b → InPhase deep p c → step_in below frame p x ≡ Some s → Spells s ((a ++ (b ++ c)) ++ x ∷ [])
step_spells Awaiting deep below frame a b c x s byte in_below in_frame in_phase h = from_awaiting deep below frame a b c x s byte in_below in_frame _ _ _ _ refl refl refl refl in_phase h
step_spells (InPlain bytes) deep below frame a b c x s byte in_below in_frame in_phase h = from_plain deep below frame a b c x s byte in_below in_frame bytes _ refl in_phase h
step_spells (InQuotes bytes) deep below frame a b c x s byte in_below in_frame in_phase h = from_quotes deep below frame a b c x s byte in_below in_frame bytes _ _ refl refl in_phase h
step_spells (Escaping bytes) deep below frame a b c x s byte in_below in_frame in_phase h = from_escape deep below frame a b c x s byte in_below in_frame bytes _ refl in_phase h
step_spells (Behind e) deep below frame a b c x s byte in_below in_frame in_phase h = spells_after deep below frame a b c x e s _ _ _ in_below in_frame in_phase refl refl refl h

pub spells_step : (s t : State) (text : List ℕ) (x : ℕ) → IsByte x → Spells s text → step s x ≡ Some t → Spells t (text ++ x ∷ [])
unfolding step
spells_step s t text x byte h e = rw h.whole (step_spells s.phase h.deep s.below s.frame h.a h.b h.c x t byte h.below h.frame h.phase e)

pub spells_run : (xs : List ℕ) (s t : State) (text : List ℕ) → All IsByte xs → Spells s text → run (Some s) xs ≡ Some t → Spells t (text ++ xs)
unfolding run
spells_run [] s t text bytes h e = let same : s ≡ t = cc in rw append-nil (subst (λ (z : State). Spells z text) same h)
spells_run (x ∷ xs) s t text bytes h e = go (step s x) refl e (λ u v. spells_run xs u t (text ++ x ∷ []) (All-tail IsByte x xs bytes) v)
  where
    go : (o : Option State) → step s x ≡ o → run o xs ≡ Some t → ((u : State) → Spells u (text ++ x ∷ []) → run (Some u) xs ≡ Some t → Spells t ((text ++ x ∷ []) ++ xs)) → Spells t (text ++ x ∷ xs)
    go None is g rec = let none : run None xs ≡ None = run-none xs in absurd cc
    go (Some u) is g rec = rw append_assoc at (rec u (spells_step s u text x (All-head IsByte x xs bytes) h is) g)

settled_reads : (p : Phase) (deep : ℕ) (c : List ℕ) (e : Expr) → settled p ≡ Some e → InPhase deep p c → ReadsOperand deep c e
settled_reads Awaiting deep c e h k = absurd cc
settled_reads (InPlain bytes) deep c e h (n, all, is) = let same : TermOf bytes ≡ e = cc in rw (is, ← same) (ReadsOperand.plain n all)
settled_reads (InQuotes bytes) deep c e h k = absurd cc
settled_reads (Escaping bytes) deep c e h k = absurd cc
settled_reads (Behind x) deep c e h k = let same : x ≡ e = cc in subst (λ (z : Expr). ReadsOperand deep c z) same k

EndsSo : Frame → Phase → Label → Type 0
EndsSo frame p m = ((frame ≡ Fresh) × (p ≡ Awaiting) × (m ≡ All_see)) ⊎ ((e : Expr) × (settled p ≡ Some e) × (m ≡ Only_if (closed frame e)))

ends_so : (frame : Frame) (p : Phase) (m : Label) → outermost [] frame p ≡ Some m → EndsSo frame p m
unfolding EndsSo
ends_so Fresh Awaiting m h = inl (refl, refl, cc)
ends_so Fresh (InPlain bytes) m h = inr (TermOf bytes, refl, cc)
ends_so Fresh (InQuotes bytes) m h = absurd cc
ends_so Fresh (Escaping bytes) m h = absurd cc
ends_so Fresh (Behind e) m h = inr (e, refl, cc)
ends_so (Joined j xs) Awaiting m h = absurd cc
ends_so (Joined j xs) (InPlain bytes) m h = inr (TermOf bytes, refl, cc)
ends_so (Joined j xs) (InQuotes bytes) m h = absurd cc
ends_so (Joined j xs) (Escaping bytes) m h = absurd cc
ends_so (Joined j xs) (Behind e) m h = inr (e, refl, cc)

level_reads : (frame : Frame) (p : Phase) (b c : List ℕ) (m : Label) → InFrame 64 frame b → InPhase 64 p c → EndsSo frame p m → Reads (b ++ c) m
unfolding EndsSo
level_reads frame p b c m in_frame in_phase (inl (f, q, is)) =
    let no_b : b ≡ [] = rw f at in_frame in
    let no_c : c ≡ [] = rw q at in_phase in
    rw (no_b, no_c, is) nothing
level_reads frame p b c m in_frame in_phase (inr (e, s, is)) = rw is (expression (reads_level 64 frame b c e in_frame (settled_reads p 64 c e s in_phase)))

ending_reads : (below : List Frame) (frame : Frame) (p : Phase) (deep : ℕ) (a b c : List ℕ) (m : Label) → InBelow deep below a → InFrame deep frame b → InPhase deep p c → outermost below frame p ≡ Some m → Reads (a ++ (b ++ c)) m
ending_reads [] frame p deep a b c m (full, is) in_frame in_phase h = rw is (level_reads frame p b c m (rw full at in_frame) (rw full at in_phase) (ends_so frame p m h))
ending_reads (f ∷ fs) frame p deep a b c m in_below in_frame in_phase h = absurd cc

pub run_reads : (text : List ℕ) (s : State) (m : Label) → All IsByte text → run (Some start) text ≡ Some s → ending s ≡ Some m → Reads text m
unfolding ending
run_reads text s m bytes h e =
    let k = spells_run text start s [] bytes at_start h in
    rw k.whole (ending_reads s.below s.frame s.phase k.deep k.a k.b k.c m k.below k.frame k.phase e)

-- what a state can still come to
abbrev CanEnd : Option State → Type 0
CanEnd o = (rest : List ℕ) × (s : State) × (m : Label) × All IsByte rest × (run o rest ≡ Some s) × (ending s ≡ Some m)

first_bytes : (xs : List ℕ) (o q : Option State) → All IsByte xs → run o xs ≡ q → CanEnd q → CanEnd o
first_bytes xs o q bytes h (rest, s, m, all, g, e) = (xs ++ rest, s, m, All-append IsByte xs rest bytes all, run-append xs rest o ∙ ap (λ (r : Option State). run r rest) h ∙ g, e)

one_byte : (x : ℕ) → x < 256 → All IsByte (x ∷ [])
one_byte x h = All-cons IsByte x [] h (All-nil IsByte)

all_close : (below : List Frame) (frame : Frame) (p : Phase) (e : Expr) → settled p ≡ Some e → CanEnd (at below frame p)
unfolding run ending
all_close [] frame p e h = ([], record { below = []; frame = frame; phase = p }, Only_if (closed frame e), All-nil IsByte, refl, ends_in frame e p (closed frame e) h refl)
all_close (f ∷ below) frame p e h = first_bytes (41 ∷ []) _ _ (one_byte 41 (omega arith)) (closes below f frame p e h) (all_close below f (Behind (closed frame e)) (closed frame e) refl)

shuts : (below : List Frame) (frame : Frame) (bytes : List ℕ) → bytes ≢ [] → CanEnd (at below frame (InQuotes bytes))
shuts below frame bytes n = first_bytes (34 ∷ []) _ (at below frame (Behind (TermOf bytes))) (one_byte 34 (omega arith)) (shut below frame bytes n) (all_close below frame (Behind (TermOf bytes)) _ refl)

can_end : (below : List Frame) (frame : Frame) (p : Phase) → CanEnd (at below frame p)
unfolding run step is_term_byte
can_end below frame Awaiting = first_bytes (97 ∷ []) _ (at below frame (InPlain (97 ∷ []))) (one_byte 97 (omega arith)) refl (all_close below frame (InPlain (97 ∷ [])) _ refl)
can_end below frame (InPlain bytes) = all_close below frame (InPlain bytes) _ refl
can_end below frame (InQuotes bytes) = first_bytes (97 ∷ []) _ (at below frame (InQuotes (bytes ++ 97 ∷ []))) (one_byte 97 (omega arith)) refl (shuts below frame (bytes ++ 97 ∷ []) (push-nonempty bytes 97))
can_end below frame (Escaping bytes) = first_bytes (34 ∷ []) _ (at below frame (InQuotes (bytes ++ 34 ∷ []))) (one_byte 34 (omega arith)) refl (shuts below frame (bytes ++ 34 ∷ []) (push-nonempty bytes 34))
can_end below frame (Behind e) = all_close below frame (Behind e) _ refl

-- Some label begins with each text that runs through.
pub run_begins : (text : List ℕ) (s : State) → All IsByte text → run (Some start) text ≡ Some s → Begins text
run_begins text s bytes h =
    let (rest, t, m, all, g, e) = can_end s.below s.frame s.phase in
    (rest, m, run_reads (text ++ rest) t m (All-append IsByte text rest bytes all) (run-append text rest (Some start) ∙ ap (λ (o : Option State). run o rest) h ∙ g) e)

-- No label begins with another.
pub begins_runs : (text : List ℕ) → Begins text → run (Some start) text ≡ None → ⊥
begins_runs text (rest, m, r) h =
    let (s, g, e) = reads_runs r in
    let one : run (Some start) (text ++ rest) ≡ None = run-append text rest (Some start) ∙ ap (λ (o : Option State). run o rest) h ∙ run-none rest in
    cc

-- A front of what begins a label begins it too.
front_begins : (xs ys : List ℕ) → Begins (xs ++ ys) → Begins xs
front_begins xs ys (rest, m, r) = (ys ++ rest, m, rw append_assoc at r)

shorter_begins : (text : List ℕ) (i k : ℕ) → i ≤ k → k ≤ length text → Begins (take k text) → Begins (take i text)
shorter_begins text i k le within h =
    let long : i ≤ length (take k text) = simp length-take (omega arith) in
    let same : take i text ≡ take i (take k text) = ap (take i) (sym (take-append-drop k text)) ∙ take-append-le i (take k text) (drop k text) long in
    rw same (front_begins (take i (take k text)) (drop i (take k text)) (rw take-append-drop h))

not_longer : (text : List ℕ) (n k : ℕ) → (n < length text → run (Some start) (take (n + 1) text) ≡ None) → k ≤ length text → Begins (take k text) → (p : Bool) → nat_lt n k ≡ p → k ≤ n
not_longer text n k stops within begins true h =
    let lt = ltb-true n k h in
    absurd (begins_runs (take (n + 1) text) (shorter_begins text (n + 1) k (omega arith) within begins) (stops (omega arith)))
not_longer text n k stops within begins false h = ltb-false n k h

-- Where the run stops, or the text ends, is the offset.
pub offset_at : (text : List ℕ) (n : ℕ) (s : State) → All IsByte text → n ≤ length text → run (Some start) (take n text) ≡ Some s → (n < length text → run (Some start) (take (n + 1) text) ≡ None) → IsOffset text n
offset_at text n s bytes le h stops = record {
  within = le;
  begins = run_begins (take n text) s (All-take IsByte n text bytes) h;
  longest = λ k within begins. not_longer text n k stops within begins (nat_lt n k) refl;
}

pub reads_nothing : (text : List ℕ) → (run (Some start) text ≡ None) ⊎ ((s : State) × (run (Some start) text ≡ Some s) × (ending s ≡ None)) → (m : Label) → Reads text m → ⊥
reads_nothing text (inl h) m r = let (s, g, e) = reads_runs r in cc
reads_nothing text (inr (s, h, k)) m r =
    let (t, g, e) = reads_runs r in
    let same : s ≡ t = cc in
    cc

-- one byte more
pub run_more : (text : List ℕ) (i : ℕ) (s : State) → i < length text → run (Some start) (take i text) ≡ Some s → run (Some start) (take (i + 1) text) ≡ step s (get_or text i 0)
unfolding run
run_more text i s lt h = rw (take_more text i 0 lt) (run-append (take i text) (get_or text i 0 ∷ []) (Some start) ∙ ap (λ (o : Option State). run o (get_or text i 0 ∷ [])) h)

pub are_bytes : (text : List ℕ) → ((i : ℕ) → get_or text i 0 < 256) → All IsByte text
are_bytes text h = All-from_get_or IsByte text 0 (λ i lt. h i)

-- The byte at i isn't taken.
pub stops_at : (text : List ℕ) (i : ℕ) (s : State) → ((k : ℕ) → get_or text k 0 < 256) → i < length text → run (Some start) (take i text) ≡ Some s → step s (get_or text i 0) ≡ None → IsNoLabel text × IsOffset text i
stops_at text i s bytes lt h dead =
    let next : run (Some start) (take (i + 1) text) ≡ None = run_more text i s lt h ∙ dead in
    let whole : run (Some start) text ≡ None = ap (λ (t : List ℕ). run (Some start) t) (sym (take-append-drop (i + 1) text)) ∙ run-append (take (i + 1) text) (drop (i + 1) text) (Some start) ∙ ap (λ (o : Option State). run o (drop (i + 1) text)) next ∙ run-none (drop (i + 1) text) in
    (reads_nothing text (inl whole), offset_at text i s (are_bytes text bytes) (omega arith) h (λ more. next))

-- The text ends too early.
pub stops_at_end : (text : List ℕ) (n : ℕ) (s : State) → ((k : ℕ) → get_or text k 0 < 256) → length text ≤ n → run (Some start) (take n text) ≡ Some s → ending s ≡ None → IsNoLabel text × IsOffset text (length text)
stops_at_end text n s bytes le h none =
    let whole : run (Some start) text ≡ Some s = ap (λ (t : List ℕ). run (Some start) t) (sym (take_all n text le)) ∙ h in
    let all : run (Some start) (take (length text) text) ≡ Some s = ap (λ (t : List ℕ). run (Some start) t) (take_all (length text) text (omega arith)) ∙ whole in
    (reads_nothing text (inr (s, whole, none)), offset_at text (length text) s (are_bytes text bytes) (omega arith) all (λ more. absurd (omega arith)))

pub reads_at_end : (text : List ℕ) (n : ℕ) (s : State) (m : Label) → ((k : ℕ) → get_or text k 0 < 256) → length text ≤ n → run (Some start) (take n text) ≡ Some s → ending s ≡ Some m → Reads text m
reads_at_end text n s m bytes le h e = run_reads text s m (are_bytes text bytes) (ap (λ (t : List ℕ). run (Some start) t) (sym (take_all n text le)) ∙ h) e
