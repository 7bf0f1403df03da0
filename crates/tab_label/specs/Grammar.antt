-- To be believed. The grammar of column visibility labels: which texts read as what.
use Rattle.std.specs.Prelude.{◌≡◌, ◌≢◌, ℕ, suc, ◌<◌, ◌≤◌, ◌==◌, ◌||◌, ◌&&◌, Bool, nat_le, List, [], ◌∷◌, ◌++◌, length, take, if◌then◌else◌}
use Rattle.std.specs.List.{All, flat_map}
use Rattle.tab_key.specs.declared.limited_part.TheConstants.{MAX_LABEL_DEPTH}
use Rattle.tab_label.specs.declared.joiner.Joiner.{Joiner}
use Rattle.tab_label.specs.declared.joiner.Joiner.TheVariants.{And, Or}

mutual
  -- a term by its bytes with escapes undone, or operands under one joiner
  pub data Expr : Type 0 where
    TermOf : List ℕ → Expr
    JoinOf : Joiner → Exprs → Expr

  -- some expressions in a row: none, or some and one more behind them
  pub data Exprs : Type 0 where
    Start : Exprs
    With : Exprs → Expr → Exprs

-- what a label says: everybody sees, or only who meets an expression
pub data Label : Type 0 where
  All_see : Label
  Only_if : Expr → Label

-- the bytes of an unquoted term: 'a' to 'z', 'A' to 'Z', '0' to '9', and '_' '-' ':' '.' '/'
unfoldable pub is_term_byte : ℕ → Bool
is_term_byte b =
    (nat_le 97 b && nat_le b 122) || ((nat_le 65 b && nat_le b 90) || ((nat_le 48 b && nat_le b 57) || (b == 95 || (b == 45 || (b == 58 || (b == 46 || b == 47))))))

-- '&' or '|'
abbrev pub joiner_byte : Joiner → ℕ
joiner_byte And = 38
joiner_byte Or = 124

-- how a byte is written between quotes: '"' and '\' behind a '\', any other byte as itself
abbrev pub escaped_byte : ℕ → List ℕ
escaped_byte b = if b == 34 || b == 92 then 92 ∷ b ∷ [] else b ∷ []

-- how a term is written between quotes
abbrev pub escaped : List ℕ → List ℕ
escaped = flat_map escaped_byte

mutual
  -- a term, plain or between quotes, or an expression in parentheses, of which `deep` levels may still open
  pub data ReadsOperand : ℕ → List ℕ → Expr → Type 0 where
    plain : {deep : ℕ} {bytes : List ℕ} → bytes ≢ [] → All (λ b. is_term_byte b ≡ Bool.true) bytes → ReadsOperand deep bytes (TermOf bytes)
    quoted : {deep : ℕ} {bytes : List ℕ} → bytes ≢ [] → All (λ b. b < 256) bytes → ReadsOperand deep (34 ∷ escaped bytes ++ 34 ∷ []) (TermOf bytes)
    parens : {deep : ℕ} {inner : List ℕ} {e : Expr} → ReadsExpr deep inner e → ReadsOperand (suc deep) (40 ∷ inner ++ 41 ∷ []) e

  -- two or more operands under one joiner
  pub data ReadsOperands : Joiner → ℕ → List ℕ → Exprs → Type 0 where
    two : {j : Joiner} {deep : ℕ} {a b : List ℕ} {x y : Expr} → ReadsOperand deep a x → ReadsOperand deep b y → ReadsOperands j deep (a ++ joiner_byte j ∷ b) (With (With Start x) y)
    more : {j : Joiner} {deep : ℕ} {a b : List ℕ} {xs : Exprs} {y : Expr} → ReadsOperands j deep a xs → ReadsOperand deep b y → ReadsOperands j deep (a ++ joiner_byte j ∷ b) (With xs y)

  -- an operand alone, or operands under one joiner
  pub data ReadsExpr : ℕ → List ℕ → Expr → Type 0 where
    one : {deep : ℕ} {text : List ℕ} {e : Expr} → ReadsOperand deep text e → ReadsExpr deep text e
    joined : {j : Joiner} {deep : ℕ} {text : List ℕ} {xs : Exprs} → ReadsOperands j deep text xs → ReadsExpr deep text (JoinOf j xs)

-- The whole text says this: the empty text that everybody sees, or an expression with parentheses at most 64 deep.
pub data Reads : List ℕ → Label → Type 0 where
  nothing : Reads [] All_see
  expression : {text : List ℕ} {e : Expr} → ReadsExpr MAX_LABEL_DEPTH text e → Reads text (Only_if e)

-- Some label begins with this front.
abbrev pub Begins : List ℕ → Type 0
Begins front = (rest : List ℕ) × (m : Label) × Reads (front ++ rest) m

-- n is the length of the longest front of the text that begins some label
pub record IsOffset (text : List ℕ) (n : ℕ) : Type 0 where
  pub within : n ≤ length text
  pub begins : Begins (take n text)
  pub longest : (k : ℕ) → k ≤ length text → Begins (take k text) → k ≤ n

-- the text is no label
abbrev pub IsNoLabel : List ℕ → Type 0
IsNoLabel text = (m : Label) → Reads text m → ⊥
