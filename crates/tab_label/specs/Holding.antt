-- To be believed. When a label holds for one who has some authorizations: as a fact, and as a test with which other definitions compute.
use Rattle.std.specs.Prelude.{ℕ, Bool, true, false, ◌&&◌, ◌||◌, ◌⊎◌, List, Result, Ok, Err}
use Rattle.std.specs.List.{Contains}
use Rattle.tab_label.specs.declared.joiner.Joiner.TheVariants.{And, Or}
use Rattle.tab_label.specs.Grammar.{Expr, TermOf, JoinOf, Exprs, Start, With, Label, All_see, Only_if}
use Rattle.tab_label.specs.Sets.{has}
use Rattle.tab_label.specs.Reading.{label_of}

abbrev mutual
  -- the expression holds: of a term, that it is among the authorizations
  pub ExprHolds : Expr → List (List ℕ) → Type 0
  ExprHolds (TermOf bytes) auths = Contains auths bytes
  ExprHolds (JoinOf And xs) auths = AllHold xs auths
  ExprHolds (JoinOf Or xs) auths = SomeHolds xs auths

  -- each operand holds
  pub AllHold : Exprs → List (List ℕ) → Type 0
  AllHold Start auths = Unit {0}
  AllHold (With xs x) auths = AllHold xs auths × ExprHolds x auths

  -- an operand holds
  pub SomeHolds : Exprs → List (List ℕ) → Type 0
  SomeHolds Start auths = ⊥
  SomeHolds (With xs x) auths = SomeHolds xs auths ⊎ ExprHolds x auths

-- the label holds: always, or where its expression does
abbrev pub Holds : Label → List (List ℕ) → Type 0
Holds All_see auths = Unit {0}
Holds (Only_if e) auths = ExprHolds e auths

abbrev mutual
  -- whether the expression holds
  pub expr_holds : Expr → List (List ℕ) → Bool
  expr_holds (TermOf bytes) auths = has auths bytes
  expr_holds (JoinOf And xs) auths = all_hold xs auths
  expr_holds (JoinOf Or xs) auths = some_holds xs auths

  -- whether each operand does
  pub all_hold : Exprs → List (List ℕ) → Bool
  all_hold Start auths = true
  all_hold (With xs x) auths = all_hold xs auths && expr_holds x auths

  -- whether an operand does
  pub some_holds : Exprs → List (List ℕ) → Bool
  some_holds Start auths = false
  some_holds (With xs x) auths = some_holds xs auths || expr_holds x auths

-- whether the label holds
abbrev pub holds : Label → List (List ℕ) → Bool
holds All_see auths = true
holds (Only_if e) auths = expr_holds e auths

-- whether what a text was read as holds; what is no label doesn't
abbrev pub read_holds : Result Label ℕ → List (List ℕ) → Bool
read_holds (Ok label) auths = holds label auths
read_holds (Err offset) auths = false

-- whether the text is a label that holds under the authorizations
abbrev pub label_holds : List ℕ → List (List ℕ) → Bool
label_holds text auths = read_holds (label_of text) auths

-- whether what a text was read as holds, or its offset
abbrev pub read_judged : Result Label ℕ → List (List ℕ) → Result Bool ℕ
read_judged (Ok label) auths = Ok (holds label auths)
read_judged (Err offset) auths = Err offset

-- whether the text holds under the authorizations, or the offset of a text that is no label
abbrev pub judged : List ℕ → List (List ℕ) → Result Bool ℕ
judged text auths = read_judged (label_of text) auths
