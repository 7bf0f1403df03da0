-- What a state says of the text behind which it stands.
use Rattle.std.proofs.Common.{◌≡◌, ◌≢◌, ◌⊎◌, ℕ, suc, ◌+◌, ◌-◌, ◌<◌, ◌==◌, ◌||◌, Bool, true, false, cond, List, [], ◌∷◌, ◌++◌, length, Option, Some, None, refl, ap, subst, ◌∙◌, append_assoc, nat_lt, inl, inr, arith}
use Rattle.std.specs.Prelude.{option_and_then}
use Rattle.std.specs.List.{All}
use Rattle.std.proofs.lemmas.List.{append-nil}
use Rattle.std.proofs.lemmas.Grind.{flat_map-append}
use Rattle.std.proofs.lemmas.List.Elements.{All-push, All-nil}
use Rattle.std.proofs.lemmas.Bool.{eqb-true, ltb-true}
use Rattle.tab_label.specs.declared.joiner.Joiner.{Joiner}
use Rattle.tab_label.specs.declared.joiner.Joiner.TheVariants.{And, Or}
use Rattle.tab_label.specs.Grammar.{Expr, TermOf, JoinOf, Exprs, Start, With, Label, All_see, Only_if, is_term_byte, joiner_byte, escaped, escaped_byte, ReadsOperand, plain, quoted, parens, ReadsOperands, two, more, ReadsExpr, one, Reads, nothing, expression}
use Rattle.tab_label.specs.Grammar as grammar
use Rattle.tab_label.specs.Machine.{Frame, Fresh, Joined, after, up, await, Phase, Awaiting, InPlain, InQuotes, Escaping, Behind, State, start, closed, joined, at, nonempty_term}

abbrev pub IsTerm : ℕ → Type 0
IsTerm b = is_term_byte b ≡ true

abbrev pub IsByte : ℕ → Type 0
IsByte b = b < 256

-- one operand or more
abbrev pub OneOrMore : Joiner → ℕ → List ℕ → Exprs → Type 0
OneOrMore j deep text xs = ((e : Expr) × ReadsOperand deep text e × (xs ≡ With Start e)) ⊎ ReadsOperands j deep text xs

-- the text of an open level, up to where an operand begins
abbrev pub InFrame : ℕ → Frame → List ℕ → Type 0
InFrame deep Fresh text = text ≡ []
InFrame deep (Joined j xs) text = (front : List ℕ) × OneOrMore j deep front xs × (text ≡ front ++ joiner_byte j ∷ [])

-- the text of the operand so far
abbrev pub InPhase : ℕ → Phase → List ℕ → Type 0
InPhase deep Awaiting text = text ≡ []
InPhase deep (InPlain bytes) text = (bytes ≢ []) × All IsTerm bytes × (text ≡ bytes)
InPhase deep (InQuotes bytes) text = All IsByte bytes × (text ≡ 34 ∷ escaped bytes)
InPhase deep (Escaping bytes) text = All IsByte bytes × (text ≡ 34 ∷ escaped bytes ++ 92 ∷ [])
InPhase deep (Behind e) text = ReadsOperand deep text e

-- the text before the innermost open parenthesis, it included
abbrev pub InBelow : ℕ → List Frame → List ℕ → Type 0
InBelow deep [] text = (deep ≡ 64) × (text ≡ [])
InBelow deep (f ∷ fs) text = (a : List ℕ) × (b : List ℕ) × InBelow (suc deep) fs a × InFrame (suc deep) f b × (text ≡ a ++ (b ++ 40 ∷ []))

pub record Spells (s : State) (text : List ℕ) : Type 0 where
  pub deep : ℕ
  pub a : List ℕ
  pub b : List ℕ
  pub c : List ℕ
  pub below : InBelow deep s.below a
  pub frame : InFrame deep s.frame b
  pub phase : InPhase deep s.phase c
  pub whole : text ≡ a ++ (b ++ c)

pub at_start : Spells start []
at_start = record { deep = 64; a = []; b = []; c = []; below = (refl, refl); frame = refl; phase = refl; whole = refl }

abbrev state : List Frame → Frame → Phase → State
state below frame phase = record { below = below; frame = frame; phase = phase }

-- the two ways of a test
chosen : {A : Type 0} (p : Bool) (x y z : A) → cond p x y ≡ z → ((p ≡ true) × (x ≡ z)) ⊎ ((p ≡ false) × (y ≡ z))
chosen true x y z h = inl (refl, h)
chosen false x y z h = inr (refl, h)

module _ (deep : ℕ) (below : List Frame) (frame : Frame) (a b c : List ℕ) (x : ℕ) (in_below : InBelow deep below a) (in_frame : InFrame deep frame b) where
  -- one more byte of the operand
  same_level : (p : Phase) → InPhase deep p (c ++ x ∷ []) → Spells (state below frame p) ((a ++ (b ++ c)) ++ x ∷ [])
  same_level p h = record { deep = deep; a = a; b = b; c = c ++ x ∷ []; below = in_below; frame = in_frame; phase = h; whole = simp append_assoc }

  -- the joiner behind an operand
  next_operand : (f : Frame) → InFrame deep f (b ++ (c ++ x ∷ [])) → Spells (state below f Awaiting) ((a ++ (b ++ c)) ++ x ∷ [])
  next_operand f h = record { deep = deep; a = a; b = b ++ (c ++ x ∷ []); c = []; below = in_below; frame = h; phase = refl; whole = simp (append_assoc, append-nil) }

-- an open level and its last operand
pub reads_level : (deep : ℕ) (frame : Frame) (b c : List ℕ) (e : Expr) → InFrame deep frame b → ReadsOperand deep c e → ReadsExpr deep (b ++ c) (closed frame e)
reads_level deep Fresh b c e h r = rw h (one r)
reads_level deep (Joined j xs) b c e (front, inl (x, s, is), whole) r = rw (whole, is, append_assoc) (grammar.ReadsExpr.joined (two s r))
reads_level deep (Joined j xs) b c e (front, inr s, whole) r = rw (whole, append_assoc) (grammar.ReadsExpr.joined (more s r))

more_level : (deep : ℕ) (j : Joiner) (xs : Exprs) (b c : List ℕ) (e : Expr) → InFrame deep (Joined j xs) b → ReadsOperand deep c e → InFrame deep (Joined j (With xs e)) (b ++ (c ++ joiner_byte j ∷ []))
more_level deep j xs b c e (front, inl (x, s, is), whole) r = (front ++ joiner_byte j ∷ c, inr (rw is (two s r)), rw whole (simp append_assoc))
more_level deep j xs b c e (front, inr s, whole) r = (front ++ joiner_byte j ∷ c, inr (more s r), rw whole (simp append_assoc))

-- one operand more, and a joiner
grown_level : (deep : ℕ) (j : Joiner) (frame f : Frame) (b c : List ℕ) (e : Expr) → InFrame deep frame b → ReadsOperand deep c e → joined j frame e ≡ Some f → InFrame deep f (b ++ (c ++ joiner_byte j ∷ []))
grown_level deep j Fresh f b c e h r is =
    let same : Joined j (With Start e) ≡ f = cc in
    subst (λ (g : Frame). InFrame deep g (b ++ (c ++ joiner_byte j ∷ []))) same (c, inl (e, r, refl), rw h refl)
grown_level deep And (Joined And xs) f b c e h r is =
    let same : Joined And (With xs e) ≡ f = cc in
    subst (λ (g : Frame). InFrame deep g (b ++ (c ++ 38 ∷ []))) same (more_level deep And xs b c e h r)
grown_level deep Or (Joined Or xs) f b c e h r is =
    let same : Joined Or (With xs e) ≡ f = cc in
    subst (λ (g : Frame). InFrame deep g (b ++ (c ++ 124 ∷ []))) same (more_level deep Or xs b c e h r)
grown_level deep And (Joined Or xs) f b c e h r is = absurd cc
grown_level deep Or (Joined And xs) f b c e h r is = absurd cc

spells_joined : (deep : ℕ) (below : List Frame) (frame : Frame) (a b c : List ℕ) (j : Joiner) (e : Expr) (s : State) (o : Option Frame) → InBelow deep below a → InFrame deep frame b → ReadsOperand deep c e → joined j frame e ≡ o → option_and_then (await below) o ≡ Some s
    → Spells s ((a ++ (b ++ c)) ++ joiner_byte j ∷ [])
spells_joined deep below frame a b c j e s None in_below in_frame r is h = absurd cc
spells_joined deep below frame a b c j e s (Some f) in_below in_frame r is h =
    let same : state below f Awaiting ≡ s = cc in
    subst (λ (z : State). Spells z ((a ++ (b ++ c)) ++ joiner_byte j ∷ [])) same (next_operand deep below frame a b c (joiner_byte j) in_below in_frame f (grown_level deep j frame f b c e in_frame r is))

spells_up : (deep : ℕ) (below : List Frame) (frame : Frame) (a b c : List ℕ) (e : Expr) (s : State) → InBelow deep below a → InFrame deep frame b → ReadsOperand deep c e → up below (closed frame e) ≡ Some s → Spells s ((a ++ (b ++ c)) ++ 41 ∷ [])
spells_up deep [] frame a b c e s in_below in_frame r h = absurd cc
spells_up deep (f ∷ fs) frame a b c e s (a', b', below', frame', whole') in_frame r h =
    let same : state fs f (Behind (closed frame e)) ≡ s = cc in
    subst (λ (z : State). Spells z ((a ++ (b ++ c)) ++ 41 ∷ [])) same (record {
      deep = suc deep;
      a = a';
      b = b';
      c = 40 ∷ (b ++ c) ++ 41 ∷ [];
      below = below';
      frame = frame';
      phase = parens (reads_level deep frame b c e in_frame r);
      whole = rw whole' (simp append_assoc);
    })

-- the step behind an operand
pub spells_after : (deep : ℕ) (below : List Frame) (frame : Frame) (a b c : List ℕ) (x : ℕ) (e : Expr) (s : State) (p q r : Bool) → InBelow deep below a → InFrame deep frame b → ReadsOperand deep c e
    → (x == 38) ≡ p → (x == 124) ≡ q → (x == 41) ≡ r → cond p (option_and_then (await below) (joined And frame e)) (cond q (option_and_then (await below) (joined Or frame e)) (cond r (up below (closed frame e)) None)) ≡ Some s
    → Spells s ((a ++ (b ++ c)) ++ x ∷ [])
spells_after deep below frame a b c x e s true q r in_below in_frame reads is_and is_or is_close h =
    rw (eqb-true x 38 is_and) (spells_joined deep below frame a b c And e s _ in_below in_frame reads refl h)
spells_after deep below frame a b c x e s false true r in_below in_frame reads is_and is_or is_close h =
    rw (eqb-true x 124 is_or) (spells_joined deep below frame a b c Or e s _ in_below in_frame reads refl h)
spells_after deep below frame a b c x e s false false true in_below in_frame reads is_and is_or is_close h =
    rw (eqb-true x 41 is_close) (spells_up deep below frame a b c e s in_below in_frame reads h)
spells_after deep below frame a b c x e s false false false in_below in_frame reads is_and is_or is_close h = absurd cc

-- how a byte between quotes is written
pub escaped_push : (bytes : List ℕ) (x : ℕ) → escaped (bytes ++ x ∷ []) ≡ escaped bytes ++ escaped_byte x
escaped_push bytes x = flat_map-append escaped_byte bytes (x ∷ []) ∙ ap (λ (bs : List ℕ). escaped bytes ++ bs) (append-nil (escaped_byte x))

pub escaped_self : (x : ℕ) → (x == 92) ≡ false → (x == 34) ≡ false → escaped_byte x ≡ x ∷ []
escaped_self x g h = simp (g, h)

pub escaped_escape : (x : ℕ) → (x == 34 || x == 92) ≡ true → escaped_byte x ≡ 92 ∷ x ∷ []
escaped_escape x h = rw h refl

pub push-nonempty : (bytes : List ℕ) (x : ℕ) → bytes ++ x ∷ [] ≢ []
push-nonempty [] x h = cc
push-nonempty (y ∷ bytes) x h = cc

cons-nonempty : (x : ℕ) (bytes : List ℕ) → x ∷ bytes ≢ []
cons-nonempty x bytes h = cc

depth : (below : List Frame) (deep : ℕ) (a : List ℕ) → InBelow deep below a → deep + length below ≡ 64
depth [] deep a h = omega (arith, h.0)
depth (f ∷ fs) deep a h = omega (arith, depth fs (suc deep) h.0 h.2)

opens : (deep d : ℕ) (below : List Frame) (frame : Frame) (a b : List ℕ) → deep ≡ suc d → InBelow deep below a → InFrame deep frame b → Spells (state (frame ∷ below) Fresh Awaiting) ((a ++ b) ++ 40 ∷ [])
opens deep d below frame a b is in_below in_frame = record {
  deep = d;
  a = a ++ (b ++ 40 ∷ []);
  b = [];
  c = [];
  below = (a, b, rw is at in_below, rw is at in_frame, refl);
  frame = refl;
  phase = refl;
  whole = simp (append_assoc, append-nil);
}

module _ (deep : ℕ) (below : List Frame) (frame : Frame) (a b c : List ℕ) (x : ℕ) (s : State) (byte : IsByte x) (in_below : InBelow deep below a) (in_frame : InFrame deep frame b) where
  moves : (p : Phase) → state below frame p ≡ s → InPhase deep p (c ++ x ∷ []) → Spells s ((a ++ (b ++ c)) ++ x ∷ [])
  moves p same h = subst (λ (z : State). Spells z ((a ++ (b ++ c)) ++ x ∷ [])) same (same_level deep below frame a b c x in_below in_frame p h)

  pub from_awaiting : (p q r t : Bool) → is_term_byte x ≡ p → (x == 34) ≡ q → (x == 40) ≡ r → nat_lt (length below) 64 ≡ t → c ≡ []
      → cond p (at below frame (InPlain (x ∷ []))) (cond q (at below frame (InQuotes [])) (cond r (cond t (at (frame ∷ below) Fresh Awaiting) None) None)) ≡ Some s
      → Spells s ((a ++ (b ++ c)) ++ x ∷ [])
  from_awaiting true q r t is_term is_quote is_open is_room empty h = moves (InPlain (x ∷ [])) (cc) (cons-nonempty x [], All-push IsTerm [] x (All-nil IsTerm) is_term, rw empty refl)
  from_awaiting false true r t is_term is_quote is_open is_room empty h = moves (InQuotes []) (cc) (All-nil IsByte, rw (empty, eqb-true x 34 is_quote) refl)
  from_awaiting false false true true is_term is_quote is_open is_room empty h =
      let same : state (frame ∷ below) Fresh Awaiting ≡ s = cc in
      let room : deep ≡ suc (deep - 1) = omega (arith, depth below deep a in_below, ltb-true (length below) 64 is_room) in
      subst (λ (z : State). Spells z ((a ++ (b ++ c)) ++ x ∷ [])) same (rw (empty, append-nil, eqb-true x 40 is_open) (opens deep (deep - 1) below frame a b room in_below in_frame))
  from_awaiting false false true false is_term is_quote is_open is_room empty h = absurd cc
  from_awaiting false false false t is_term is_quote is_open is_room empty h = absurd cc

  pub from_plain : (bytes : List ℕ) (p : Bool) → is_term_byte x ≡ p → InPhase deep (InPlain bytes) c → cond p (at below frame (InPlain (bytes ++ x ∷ []))) (after below frame (TermOf bytes) x) ≡ Some s → Spells s ((a ++ (b ++ c)) ++ x ∷ [])
  from_plain bytes true is_term h g = moves (InPlain (bytes ++ x ∷ [])) (cc) (push-nonempty bytes x, All-push IsTerm bytes x h.1 is_term, rw h.2 refl)
  from_plain bytes false is_term (n, all, is) g = spells_after deep below frame a b c x (TermOf bytes) s _ _ _ in_below in_frame (rw is (plain n all)) refl refl refl g

  pub from_quotes : (bytes : List ℕ) (p q : Bool) → (x == 92) ≡ p → (x == 34) ≡ q → InPhase deep (InQuotes bytes) c
      → cond p (at below frame (Escaping bytes)) (cond q (option_and_then (at below frame) (nonempty_term bytes)) (at below frame (InQuotes (bytes ++ x ∷ [])))) ≡ Some s → Spells s ((a ++ (b ++ c)) ++ x ∷ [])
  from_quotes bytes true q is_back is_quote (all, is) g = moves (Escaping bytes) (cc) (all, rw (is, eqb-true x 92 is_back) refl)
  from_quotes [] false true is_back is_quote (all, is) g = absurd cc
  from_quotes (y ∷ bytes) false true is_back is_quote (all, is) g = moves (Behind (TermOf (y ∷ bytes))) (cc) (rw (is, eqb-true x 34 is_quote) (quoted (cons-nonempty y bytes) all))
  from_quotes bytes false false is_back is_quote (all, is) g =
      moves (InQuotes (bytes ++ x ∷ [])) (cc) (All-push IsByte bytes x all byte, rw (is, escaped_push bytes x, escaped_self x is_back is_quote) refl)

  pub from_escape : (bytes : List ℕ) (p : Bool) → (x == 34 || x == 92) ≡ p → InPhase deep (Escaping bytes) c → cond p (at below frame (InQuotes (bytes ++ x ∷ []))) None ≡ Some s → Spells s ((a ++ (b ++ c)) ++ x ∷ [])
  from_escape bytes true is_escape (all, is) g =
      moves (InQuotes (bytes ++ x ∷ [])) (cc) (All-push IsByte bytes x all byte, rw (is, escaped_push bytes x, escaped_escape x is_escape) (simp append_assoc))
  from_escape bytes false is_escape h g = absurd cc
