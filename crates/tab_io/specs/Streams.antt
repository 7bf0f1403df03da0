-- To be believed by whoever relies on it. What reading and writing do to known bytes.
use Rattle.std.specs.Prelude.{ℕ, ◌≡◌, ◌≤◌, ◌<◌, ◌⊎◌, Bool, true, false, Result, Ok, Err, Option, Some, None, List, [], ◌++◌, length, take, drop, ⊤, MatchResult}
use Rattle.std.specs.Io.KnownBytes.{Appends, Keeps}

-- known bytes begin so
abbrev pub BeginsWith : Option (List ℕ) → List ℕ → Type 0
BeginsWith None front = ⊤
BeginsWith (Some bytes) front = (rest : List ℕ) × (bytes ≡ front ++ rest)

-- nothing is left
abbrev pub IsEnd : Option (List ℕ) → Option (List ℕ) → Type 0
IsEnd None new = ⊤
IsEnd (Some bytes) new = (bytes ≡ []) × (new ≡ Some [])

-- a fill takes nothing away, and the front has bytes then; or it was the end
abbrev pub Fills : {E : Type 0} → Option (List ℕ) → Option (List ℕ) → List ℕ → Result Bool E → Type 0
Fills old new front (Ok true) = Keeps old new × (0 < length front)
Fills old new front (Ok false) = IsEnd old new × (front ≡ [])
Fills old new front (Err e) = Keeps old new

-- known bytes grow by a beginning of these
abbrev pub AppendsPart : Option (List ℕ) → Option (List ℕ) → List ℕ → Type 0
AppendsPart old new bs = (n : ℕ) × (n ≤ length bs) × Appends old new (take n bs)

-- the bytes join what is gathered; of all that, as many from the front as they were were written, and the rest is gathered
pub record Gathers (c : Option (List ℕ)) (h : List ℕ) (c' : Option (List ℕ)) (h' : List ℕ) (bs : List ℕ) : Type 0 where
  pub count : ℕ
  pub fits : count ≤ length (h ++ bs)
  pub written : Appends c c' (take count (h ++ bs))
  pub left : h' ≡ drop count (h ++ bs)

-- a beginning of the bytes joins what is gathered
pub record GathersPart (c : Option (List ℕ)) (h : List ℕ) (c' : Option (List ℕ)) (h' : List ℕ) (bs : List ℕ) : Type 0 where
  pub part : List ℕ
  pub rest : List ℕ
  pub whole : bs ≡ part ++ rest
  pub put : Gathers c h c' h' part

-- the bytes join what is gathered, or a beginning of them does
abbrev pub Accepts : {E : Type 0} → Option (List ℕ) → List ℕ → Option (List ℕ) → List ℕ → List ℕ → Result (Unit {0}) E → Type 0
Accepts c h c' h' bs (Ok u) = Gathers c h c' h' bs
Accepts c h c' h' bs (Err e) = GathersPart c h c' h' bs

-- all that is gathered is written; or a beginning of it, and the rest is gathered still
abbrev pub Drains : {E : Type 0} → Option (List ℕ) → List ℕ → Option (List ℕ) → List ℕ → Result (Unit {0}) E → Type 0
Drains c h c' h' (Ok u) = Appends c c' h × (h' ≡ [])
Drains c h c' h' (Err e) = Gathers c h c' h' []

-- a call that goes well counts no fault; one that fails counts one, or the budget is spent
abbrev pub FailsByFault : {T E : Type 0} → Result T E → ℕ → ℕ → ℕ → Type 0
FailsByFault r old new budget = MatchResult r (λ _. new ≡ old) (λ _. (budget ≡ 0) ⊎ (old < new))

-- the same, and a call that goes well costs some of the budget
abbrev pub SpendsOrFails : {T E : Type 0} → Result T E → ℕ → ℕ → ℕ → ℕ → Type 0
SpendsOrFails r old new before after = MatchResult r (λ _. (new ≡ old) × (after < before)) (λ _. (after ≡ 0) ⊎ (old < new))
