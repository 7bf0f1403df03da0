-- To be believed. The states of one who reads a text as a label, byte by byte.
use Rattle.std.specs.Prelude.{ℕ, ◌==◌, ◌||◌, nat_lt, List, [], ◌∷◌, ◌++◌, length, if◌then◌else◌, Option, Some, None, option_and_then}
use Rattle.tab_key.specs.declared.limited_part.TheConstants.{MAX_LABEL_DEPTH}
use Rattle.tab_label.specs.declared.joiner.Joiner.{Joiner}
use Rattle.tab_label.specs.declared.joiner.Joiner.TheVariants.{And, Or}
use Rattle.tab_label.specs.Grammar.{Expr, TermOf, JoinOf, Exprs, Start, With, Label, All_see, Only_if, is_term_byte}

-- what an open level has so far: nothing, or operands and a joiner behind the last
pub data Frame : Type 0 where
  Fresh : Frame
  Joined : Joiner → Exprs → Frame

-- an operand must come; inside a term, with the bytes so far; behind an operand
pub data Phase : Type 0 where
  Awaiting : Phase
  InPlain : List ℕ → Phase
  InQuotes : List ℕ → Phase
  Escaping : List ℕ → Phase
  Behind : Expr → Phase

-- the levels below, the innermost first; the open level; where in it
pub record State : Type 0 where
  pub below : List Frame
  pub frame : Frame
  pub phase : Phase

-- before the first byte
abbrev pub start : State
start = record { below = []; frame = Fresh; phase = Awaiting }

-- the frame's expression, with a last operand
abbrev pub closed : Frame → Expr → Expr
closed Fresh e = e
closed (Joined j xs) e = JoinOf j (With xs e)

-- the frame with one more operand and a joiner behind it
abbrev pub joined : Joiner → Frame → Expr → Option Frame
joined j Fresh e = Some (Joined j (With Start e))
joined And (Joined And xs) e = Some (Joined And (With xs e))
joined Or (Joined Or xs) e = Some (Joined Or (With xs e))
joined And (Joined Or xs) e = None
joined Or (Joined And xs) e = None

-- where the next operand must come
abbrev pub await : List Frame → Frame → Option State
await below frame = Some (record { below = below; frame = frame; phase = Awaiting })

-- behind the parenthesis that closes a level of this expression
abbrev pub up : List Frame → Expr → Option State
up [] e = None
up (f ∷ below) e = Some (record { below = below; frame = f; phase = Behind e })

-- behind the operand e, at the byte b
abbrev pub after : List Frame → Frame → Expr → ℕ → Option State
after below frame e b =
    if b == 38 then option_and_then (await below) (joined And frame e)
    else (if b == 124 then option_and_then (await below) (joined Or frame e)
    else (if b == 41 then up below (closed frame e) else None))

-- behind a quoted term, which has a byte at least
abbrev pub nonempty_term : List ℕ → Option Phase
nonempty_term [] = None
nonempty_term (b ∷ bytes) = Some (Behind (TermOf (b ∷ bytes)))

-- in this phase of this level
abbrev pub at : List Frame → Frame → Phase → Option State
at below frame phase = Some (record { below = below; frame = frame; phase = phase })

-- the step over one byte, from each phase; a parenthesis opens where fewer than 64 are open
abbrev pub step_in : List Frame → Frame → Phase → ℕ → Option State
step_in below frame Awaiting b =
    if is_term_byte b then at below frame (InPlain (b ∷ []))
    else (if b == 34 then at below frame (InQuotes [])
    else (if b == 40 then (if nat_lt (length below) MAX_LABEL_DEPTH then at (frame ∷ below) Fresh Awaiting else None) else None))
step_in below frame (InPlain bytes) b = if is_term_byte b then at below frame (InPlain (bytes ++ b ∷ [])) else after below frame (TermOf bytes) b
step_in below frame (InQuotes bytes) b =
    if b == 92 then at below frame (Escaping bytes)
    else (if b == 34 then option_and_then (at below frame) (nonempty_term bytes) else at below frame (InQuotes (bytes ++ b ∷ [])))
step_in below frame (Escaping bytes) b = if b == 34 || b == 92 then at below frame (InQuotes (bytes ++ b ∷ [])) else None
step_in below frame (Behind e) b = after below frame e b

-- the step over one byte, or none where no label goes on so
unfoldable pub step : State → ℕ → Option State
step s b = step_in s.below s.frame s.phase b

-- the operand that is complete here
abbrev pub settled : Phase → Option Expr
settled Awaiting = None
settled (InPlain bytes) = Some (TermOf bytes)
settled (InQuotes bytes) = None
settled (Escaping bytes) = None
settled (Behind e) = Some e

-- what a text says that ends in this level and phase
abbrev pub outermost : List Frame → Frame → Phase → Option Label
outermost [] Fresh Awaiting = Some All_see
outermost [] frame phase = option_and_then (λ e. Some (Only_if (closed frame e))) (settled phase)
outermost (f ∷ below) frame phase = None

-- what a text says that ends here
unfoldable pub ending : State → Option Label
ending s = outermost s.below s.frame s.phase

-- the state behind a text, if some label begins with it
unfoldable pub run : Option State → List ℕ → Option State
run o [] = o
run o (b ∷ bytes) = run (option_and_then (λ s. step s b) o) bytes
