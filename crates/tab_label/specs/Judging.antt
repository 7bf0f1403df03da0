-- For proofs. The states of one who judges a text without building anything, as one goes over it byte by byte.
use Rattle.std.specs.Prelude.{ℕ, ◌==◌, ◌||◌, ◌&&◌, Bool, true, false, nat_lt, List, [], ◌∷◌, ◌++◌, length, if◌then◌else◌, Option, Some, None, option_and_then, option_map}
use Rattle.tab_key.specs.declared.limited_part.TheConstants.{MAX_LABEL_DEPTH}
use Rattle.tab_label.specs.declared.joiner.Joiner.{Joiner}
use Rattle.tab_label.specs.declared.joiner.Joiner.TheVariants.{And, Or}
use Rattle.tab_label.specs.declared.levels.Level.{Level}
use Rattle.tab_label.specs.declared.levels.Level.TheVariants.{Empty, Joined}
use Rattle.tab_label.specs.Grammar.{is_term_byte}
use Rattle.tab_label.specs.Sets.{has}

-- what bytes between quotes stand for, where the last before them was an escaping '\' or not
abbrev pub undone : List ℕ → Bool → List ℕ
undone [] escaping = []
undone (b ∷ bytes) true = b ∷ undone bytes false
undone (b ∷ bytes) false = if b == 92 then undone bytes true else b ∷ undone bytes false

-- what the bytes between two quotes stand for: each '\' goes, and the byte behind it stays
abbrev pub unescaped : List ℕ → List ℕ
unescaped bytes = undone bytes false

-- where in a level: an operand must come; inside a term, with its bytes as they stand in the text; behind an operand, with its value
pub data Phase : Type 0 where
  Awaiting : Phase
  InPlain : List ℕ → Phase
  InQuotes : List ℕ → Phase
  Escaping : List ℕ → Phase
  Behind : Bool → Phase

-- the levels below, the innermost first; the open level; where in it
pub record Judgement : Type 0 where
  pub below : List Level
  pub level : Level
  pub phase : Phase

-- before the first byte
abbrev pub start : Judgement
start = record { below = []; level = Empty; phase = Awaiting }

-- the level's value, with a last operand of this value
abbrev pub closed : Level → Bool → Bool
closed Empty value = value
closed (Joined And before) value = before && value
closed (Joined Or before) value = before || value

-- the level with one more operand and a joiner behind it
abbrev pub joined : Joiner → Level → Bool → Option Level
joined j Empty value = Some (Joined j value)
joined And (Joined And before) value = Some (Joined And (before && value))
joined Or (Joined Or before) value = Some (Joined Or (before || value))
joined And (Joined Or before) value = None
joined Or (Joined And before) value = None

-- in this phase of this level
abbrev pub at : List Level → Level → Phase → Option Judgement
at below level phase = Some (record { below = below; level = level; phase = phase })

-- where the next operand must come
abbrev pub await : List Level → Level → Option Judgement
await below level = at below level Awaiting

-- behind the parenthesis that closes a level of this value
abbrev pub up : List Level → Bool → Option Judgement
up [] value = None
up (l ∷ below) value = at below l (Behind value)

-- behind an operand of this value, at the byte b
abbrev pub after : List Level → Level → Bool → ℕ → Option Judgement
after below level value b =
    if b == 38 then option_and_then (await below) (joined And level value)
    else (if b == 124 then option_and_then (await below) (joined Or level value)
    else (if b == 41 then up below (closed level value) else None))

-- behind a quoted term, which has a byte at least
abbrev pub behind_quotes : List (List ℕ) → List ℕ → Option Phase
behind_quotes auths [] = None
behind_quotes auths (b ∷ bytes) = Some (Behind (has auths (unescaped (b ∷ bytes))))

-- the step over one byte, from each phase
abbrev pub step_in : List (List ℕ) → List Level → Level → Phase → ℕ → Option Judgement
step_in auths below level Awaiting b =
    if is_term_byte b then at below level (InPlain (b ∷ []))
    else (if b == 34 then at below level (InQuotes [])
    else (if b == 40 then (if nat_lt (length below) MAX_LABEL_DEPTH then at (level ∷ below) Empty Awaiting else None) else None))
step_in auths below level (InPlain bytes) b = if is_term_byte b then at below level (InPlain (bytes ++ b ∷ [])) else after below level (has auths bytes) b
step_in auths below level (InQuotes bytes) b =
    if b == 92 then at below level (Escaping (bytes ++ b ∷ []))
    else (if b == 34 then option_and_then (at below level) (behind_quotes auths bytes) else at below level (InQuotes (bytes ++ b ∷ [])))
step_in auths below level (Escaping bytes) b = if b == 34 || b == 92 then at below level (InQuotes (bytes ++ b ∷ [])) else None
step_in auths below level (Behind value) b = after below level value b

-- the step over one byte
unfoldable pub step : List (List ℕ) → Judgement → ℕ → Option Judgement
step auths s b = step_in auths s.below s.level s.phase b

-- the value of the operand that is complete here
abbrev pub settled : List (List ℕ) → Phase → Option Bool
settled auths Awaiting = None
settled auths (InPlain bytes) = Some (has auths bytes)
settled auths (InQuotes bytes) = None
settled auths (Escaping bytes) = None
settled auths (Behind value) = Some value

-- the value of a text that ends in this level and phase
abbrev pub outermost : List (List ℕ) → List Level → Level → Phase → Option Bool
outermost auths [] Empty Awaiting = Some true
outermost auths [] level phase = option_map (closed level) (settled auths phase)
outermost auths (l ∷ below) level phase = None

-- the value of a text that ends here, if a label may end here
unfoldable pub ending : List (List ℕ) → Judgement → Option Bool
ending auths s = outermost auths s.below s.level s.phase

-- the state behind a text, if some label begins with it
unfoldable pub run : List (List ℕ) → Option Judgement → List ℕ → Option Judgement
run auths o [] = o
run auths o (b ∷ bytes) = run auths (option_and_then (λ s. step auths s b) o) bytes
