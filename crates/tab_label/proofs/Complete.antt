-- What reads as something is run through to the end.
use Rattle.std.proofs.Common.{◌≡◌, ◌≢◌, ℕ, ◌+◌, ◌<◌, ◌≤◌, ◌==◌, Bool, true, false, List, [], ◌∷◌, ◌++◌, length, Option, Some, None, refl, sym, ap, ◌∙◌, append_assoc, arith}
use Rattle.std.specs.List.{All}
use Rattle.std.proofs.lemmas.List.{append-nil}
use Rattle.std.proofs.lemmas.List.Elements.{All-head, All-tail}
use Rattle.std.proofs.lemmas.Bool.{lt-ltb}
use Rattle.tab_label.specs.declared.joiner.Joiner.{Joiner}
use Rattle.tab_label.specs.declared.joiner.Joiner.TheVariants.{And, Or}
use Rattle.tab_label.specs.Grammar.{Expr, TermOf, JoinOf, Exprs, Start, With, Label, All_see, Only_if, is_term_byte, joiner_byte, escaped, escaped_byte, ReadsOperand, plain, quoted, parens, ReadsOperands, two, more, ReadsExpr, one, Reads, nothing, expression}
use Rattle.tab_label.specs.Grammar as grammar
use Rattle.tab_label.specs.Machine.{Frame, Fresh, Joined, after, Phase, Awaiting, InPlain, InQuotes, Escaping, Behind, State, start, closed, joined, at, step, settled, outermost, ending, run}

pub run-append : (xs ys : List ℕ) (o : Option State) → run o (xs ++ ys) ≡ run (run o xs) ys
unfolding run
run-append [] ys o = refl
run-append (x ∷ xs) ys o = run-append xs ys _

pub run-none : (xs : List ℕ) → run None xs ≡ None
unfolding run
run-none [] = refl
run-none (x ∷ xs) = run-none xs

abbrev IsTerm : ℕ → Type 0
IsTerm b = is_term_byte b ≡ true

module _ (below : List Frame) (frame : Frame) where
  pub plain_goes_on : (bytes front : List ℕ) → All IsTerm bytes → run (at below frame (InPlain front)) bytes ≡ at below frame (InPlain (front ++ bytes))
  unfolding run step
  plain_goes_on [] front h = ap (λ (bs : List ℕ). at below frame (InPlain bs)) (sym (append-nil front))
  plain_goes_on (b ∷ bytes) front h =
      rw (All-head IsTerm b bytes h) (plain_goes_on bytes (front ++ b ∷ []) (All-tail IsTerm b bytes h) ∙ ap (λ (bs : List ℕ). at below frame (InPlain bs)) (append_assoc front (b ∷ []) bytes))

  pub plain_runs : (bytes : List ℕ) → bytes ≢ [] → All IsTerm bytes → run (at below frame Awaiting) bytes ≡ at below frame (InPlain bytes)
  unfolding run step
  plain_runs [] n h = absurd (n refl)
  plain_runs (b ∷ bytes) n h = rw (All-head IsTerm b bytes h) (plain_goes_on bytes (b ∷ []) (All-tail IsTerm b bytes h))

  pub escaped_byte_runs : (front : List ℕ) (b : ℕ) (p q : Bool) → (b == 34) ≡ p → (b == 92) ≡ q → run (at below frame (InQuotes front)) (escaped_byte b) ≡ at below frame (InQuotes (front ++ b ∷ []))
  unfolding run step
  escaped_byte_runs front b true q h k = simp h
  escaped_byte_runs front b false true h k = simp (h, k)
  escaped_byte_runs front b false false h k = simp (h, k)

  pub escaped_runs : (bytes front : List ℕ) → run (at below frame (InQuotes front)) (escaped bytes) ≡ at below frame (InQuotes (front ++ bytes))
  unfolding run
  escaped_runs [] front = ap (λ (bs : List ℕ). at below frame (InQuotes bs)) (sym (append-nil front))
  escaped_runs (b ∷ bytes) front =
      run-append (escaped_byte b) (escaped bytes) _ ∙ ap (λ (o : Option State). run o (escaped bytes)) (escaped_byte_runs front b _ _ refl refl) ∙ escaped_runs bytes (front ++ b ∷ []) ∙ ap (λ (bs : List ℕ). at below frame (InQuotes bs)) (append_assoc front (b ∷ []) bytes)

  opened : (bytes : List ℕ) → run (at below frame Awaiting) (34 ∷ bytes) ≡ run (at below frame (InQuotes [])) bytes
  unfolding run step is_term_byte
  opened bytes = refl

  pub shut : (bytes : List ℕ) → bytes ≢ [] → run (at below frame (InQuotes bytes)) (34 ∷ []) ≡ at below frame (Behind (TermOf bytes))
  unfolding run step
  shut [] n = absurd (n refl)
  shut (b ∷ bytes) n = refl

  pub quoted_runs : (bytes : List ℕ) → bytes ≢ [] → run (at below frame Awaiting) (34 ∷ escaped bytes ++ 34 ∷ []) ≡ at below frame (Behind (TermOf bytes))
  quoted_runs bytes n =
      opened (escaped bytes ++ 34 ∷ []) ∙ run-append (escaped bytes) (34 ∷ []) _ ∙ ap (λ (o : Option State). run o (34 ∷ [])) (escaped_runs bytes []) ∙ shut bytes n

  settled_step : (p : Phase) (e : Expr) (b : ℕ) → settled p ≡ Some e → is_term_byte b ≡ false → step (record { below = below; frame = frame; phase = p }) b ≡ after below frame e b
  unfolding step
  settled_step Awaiting e b h k = absurd cc
  settled_step (InPlain bytes) e b h k = let same : TermOf bytes ≡ e = cc in rw k (ap (λ (x : Expr). after below frame x b) same)
  settled_step (InQuotes bytes) e b h k = absurd cc
  settled_step (Escaping bytes) e b h k = absurd cc
  settled_step (Behind x) e b h k = let same : x ≡ e = cc in ap (λ (y : Expr). after below frame y b) same

  no_term : (j : Joiner) → is_term_byte (joiner_byte j) ≡ false
  unfolding is_term_byte
  no_term And = refl
  no_term Or = refl

  after_joiner : (j : Joiner) (e : Expr) (f : Frame) → joined j frame e ≡ Some f → after below frame e (joiner_byte j) ≡ at below f Awaiting
  after_joiner And e f h = rw h refl
  after_joiner Or e f h = rw h refl

  pub joins : (j : Joiner) (p : Phase) (e : Expr) (f : Frame) (bytes : List ℕ) → settled p ≡ Some e → joined j frame e ≡ Some f → run (at below frame p) (joiner_byte j ∷ bytes) ≡ run (at below f Awaiting) bytes
  unfolding run
  joins j p e f bytes h k = ap (λ (o : Option State). run o bytes) (settled_step p e (joiner_byte j) h (no_term j) ∙ after_joiner j e f k)

  not_close : is_term_byte 41 ≡ false
  unfolding is_term_byte
  not_close = refl

pub closes : (below : List Frame) (f frame : Frame) (p : Phase) (e : Expr) → settled p ≡ Some e → run (at (f ∷ below) frame p) (41 ∷ []) ≡ at below f (Behind (closed frame e))
unfolding run
closes below f frame p e h = settled_step (f ∷ below) frame p e 41 h (not_close below frame)

opens : (below : List Frame) (frame : Frame) (bytes : List ℕ) → length below < 64 → run (at below frame Awaiting) (40 ∷ bytes) ≡ run (at (frame ∷ below) Fresh Awaiting) bytes
unfolding run step is_term_byte
opens below frame bytes h = rw (lt-ltb (length below) 64 h) refl

-- the state behind an operand
abbrev pub Arrives : List Frame → Frame → List ℕ → Expr → Type 0
Arrives below frame text e = (p : Phase) × (run (at below frame Awaiting) text ≡ at below frame p) × (settled p ≡ Some e)

abbrev pub Joins : List Frame → Joiner → List ℕ → Exprs → Type 0
Joins below j text xs = (ys : Exprs) × (y : Expr) × (p : Phase) × (run (at below Fresh Awaiting) text ≡ at below (Joined j ys) p) × (settled p ≡ Some y) × (xs ≡ With ys y)

abbrev pub Completes : List Frame → List ℕ → Expr → Type 0
Completes below text e = (f : Frame) × (y : Expr) × (p : Phase) × (run (at below Fresh Awaiting) text ≡ at below f p) × (settled p ≡ Some y) × (closed f y ≡ e)

-- behind a, the joiner and b, where p is the state behind a
goes_over : (below : List Frame) (f frame : Frame) (j : Joiner) (a b : List ℕ) (x : Expr) (p q : Phase) (o : Option State) → run o a ≡ at below f p → settled p ≡ Some x → joined j f x ≡ Some frame
    → run (at below frame Awaiting) b ≡ at below frame q → run o (a ++ joiner_byte j ∷ b) ≡ at below frame q
goes_over below f frame j a b x p q o h s k g =
    run-append a (joiner_byte j ∷ b) o ∙ ap (λ (r : Option State). run r (joiner_byte j ∷ b)) h ∙ joins below f j p x frame b s k ∙ g

joined_again : (j : Joiner) (xs : Exprs) (e : Expr) → joined j (Joined j xs) e ≡ Some (Joined j (With xs e))
joined_again And xs e = refl
joined_again Or xs e = refl

first_two : (below : List Frame) (j : Joiner) (a b : List ℕ) (x y : Expr) → Arrives below Fresh a x → Arrives below (Joined j (With Start x)) b y → Joins below j (a ++ joiner_byte j ∷ b) (With (With Start x) y)
first_two below j a b x y (p, g, s) (q, h, t) =
    (With Start x, y, q, goes_over below Fresh (Joined j (With Start x)) j a b x p q _ g s refl h, t, refl)

one_more : (below : List Frame) (j : Joiner) (a b : List ℕ) (xs : Exprs) (y : Expr) → Joins below j a xs → Arrives below (Joined j xs) b y → Joins below j (a ++ joiner_byte j ∷ b) (With xs y)
one_more below j a b xs y (ws, w, p, g, s, is) (q, h, t) =
    (xs, y, q, goes_over below (Joined j ws) (Joined j xs) j a b w p q _ g s (joined_again j ws w ∙ ap (λ (zs : Exprs). Some (Joined j zs)) (sym is)) h, t, refl)

in_parens : (below : List Frame) (frame : Frame) (inner : List ℕ) (e : Expr) → length below < 64 → Completes (frame ∷ below) inner e → Arrives below frame (40 ∷ inner ++ 41 ∷ []) e
in_parens below frame inner e lt (f, y, p, g, s, is) =
    (Behind e, opens below frame (inner ++ 41 ∷ []) lt ∙ run-append inner (41 ∷ []) _ ∙ ap (λ (o : Option State). run o (41 ∷ [])) g ∙ closes below frame f p y s ∙ ap (λ (x : Expr). at below frame (Behind x)) is, refl)

completes_one : (below : List Frame) (text : List ℕ) (e : Expr) → Arrives below Fresh text e → Completes below text e
completes_one below text e (p, g, s) = (Fresh, e, p, g, s, refl)

completes_joined : (below : List Frame) (j : Joiner) (text : List ℕ) (xs : Exprs) → Joins below j text xs → Completes below text (JoinOf j xs)
completes_joined below j text xs (ys, y, p, g, s, is) = (Joined j ys, y, p, g, s, ap (λ (zs : Exprs). JoinOf j zs) (sym is))

mutual
  pub operand_arrives : {deep : ℕ} {text : List ℕ} {e : Expr} → ReadsOperand deep text e → (below : List Frame) (frame : Frame) → length below + deep ≤ 64 → Arrives below frame text e
  operand_arrives (plain {bytes = bytes} n h) below frame le = (InPlain bytes, plain_runs below frame bytes n h, refl)
  operand_arrives (quoted {bytes = bytes} n h) below frame le = (Behind (TermOf bytes), quoted_runs below frame bytes n, refl)
  operand_arrives (parens {inner = inner} {e = e} r) below frame le = in_parens below frame inner e (omega arith) (expr_completes r (frame ∷ below) (omega arith))

  pub operands_arrive : {j : Joiner} {deep : ℕ} {text : List ℕ} {xs : Exprs} → ReadsOperands j deep text xs → (below : List Frame) → length below + deep ≤ 64 → Joins below j text xs
  operands_arrive (two {j = j} {a = a} {b = b} {x = x} {y = y} r s) below le = first_two below j a b x y (operand_arrives r below Fresh le) (operand_arrives s below (Joined j (With Start x)) le)
  operands_arrive (more {j = j} {a = a} {b = b} {xs = xs} {y = y} r s) below le = one_more below j a b xs y (operands_arrive r below le) (operand_arrives s below (Joined j xs) le)

  pub expr_completes : {deep : ℕ} {text : List ℕ} {e : Expr} → ReadsExpr deep text e → (below : List Frame) → length below + deep ≤ 64 → Completes below text e
  expr_completes (one {text = text} {e = e} r) below le = completes_one below text e (operand_arrives r below Fresh le)
  expr_completes (grammar.ReadsExpr.joined {j = j} {text = text} {xs = xs} r) below le = completes_joined below j text xs (operands_arrive r below le)

pub ends_in : (f : Frame) (y : Expr) (p : Phase) (e : Expr) → settled p ≡ Some y → closed f y ≡ e → outermost [] f p ≡ Some (Only_if e)
ends_in Fresh y Awaiting e s is = absurd cc
ends_in Fresh y (InPlain bytes) e s is = cc
ends_in Fresh y (InQuotes bytes) e s is = absurd cc
ends_in Fresh y (Escaping bytes) e s is = absurd cc
ends_in Fresh y (Behind x) e s is = cc
ends_in (Joined j xs) y p e s is = rw s (ap (λ (x : Expr). Some (Only_if x)) is)

-- What reads as m runs to an end that says m.
pub reads_runs : {text : List ℕ} {m : Label} → Reads text m → (s : State) × (run (Some start) text ≡ Some s) × (ending s ≡ Some m)
unfolding run ending
reads_runs nothing = (start, refl, refl)
reads_runs (expression {e = e} r) =
    let d = expr_completes r [] (omega arith) in
    (record { below = []; frame = d.0; phase = d.2 }, d.3, ends_in d.0 d.1 d.2 e d.4 d.5)

-- No text says two things.
pub one_meaning : (text : List ℕ) (m n : Label) → Reads text m → Reads text n → m ≡ n
one_meaning text m n a b =
    let x = reads_runs a in
    let y = reads_runs b in
    let same : x.0 ≡ y.0 = cc in
    cc
