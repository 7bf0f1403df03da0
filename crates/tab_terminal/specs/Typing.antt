-- To be believed by whoever relies on it. Which line is sent for a typed one.
use Rattle.std.specs.Prelude.{ℕ, ◌≡◌, ◌==◌, nat_lt, Bool, ◌||◌, List, [], ◌∷◌, ◌++◌, Result, Ok, Err, if◌then◌else◌}
use Rattle.tab_text.specs.Words.{is_plain, hex_form, escaped_byte, empty_word}
use Rattle.tab_terminal.specs.declared.place.LinePosition.{LinePosition}
use Rattle.tab_terminal.specs.declared.place.LinePosition.TheVariants.{Between, Word, Opened, Quoted, Slash, Closed}
use Rattle.tab_terminal.specs.declared.misquote.Misquote.{Misquote}
use Rattle.tab_terminal.specs.declared.misquote.Misquote.TheVariants.{Open, Follows, Escape}
use Rattle.tab_terminal.specs.declared.misquote.Unsent.{Unsent}
use Rattle.tab_terminal.specs.declared.misquote.Unsent.TheVariants.{Misquoted, NoMemory}

-- a byte of a word that isn't quoted
abbrev pub outside_byte : ℕ → List ℕ
outside_byte b = if nat_lt b 128 then b ∷ [] else hex_form b

-- a byte in quotes that is none
abbrev pub inside : ℕ → Result (List ℕ × LinePosition) Misquote
inside b = if b == 92 then Ok ([], Slash) else Ok (escaped_byte b, Quoted)

-- the byte behind a backslash in quotes: a quote is itself, all else goes on as an escape
abbrev pub behind_slash : ℕ → Result (List ℕ × LinePosition) Misquote
behind_slash b = if b == 34 then Ok (34 ∷ [], Quoted) else if is_plain b || b == 92 then Ok (92 ∷ b ∷ [], Quoted) else Err Escape

-- what is sent for a byte that stands there, and where the next one stands
abbrev pub typed : LinePosition → ℕ → Result (List ℕ × LinePosition) Misquote
typed Between b = if b == 34 then Ok ([], Opened) else if b == 32 then Ok (32 ∷ [], Between) else Ok (outside_byte b, Word)
typed Word b = if b == 32 then Ok (32 ∷ [], Between) else Ok (outside_byte b, Word)
typed Opened b = if b == 34 then Ok (empty_word, Closed) else inside b
typed Quoted b = if b == 34 then Ok ([], Closed) else inside b
typed Slash b = behind_slash b
typed Closed b = if b == 32 then Ok (32 ∷ [], Between) else Err Follows

-- at the end of the line no quote is open
abbrev pub at_end : LinePosition → Result (List ℕ) Misquote
at_end Between = Ok []
at_end Word = Ok []
at_end Closed = Ok []
at_end Opened = Err Open
at_end Quoted = Err Open
at_end Slash = Err Open

-- behind these bytes, what is sent of the rest
abbrev pub behind : List ℕ → Result (List ℕ) Misquote → Result (List ℕ) Misquote
behind bs (Ok rest) = Ok (bs ++ rest)
behind bs (Err why) = Err why

-- goes on with the rest
abbrev pub goes_on : Result (List ℕ × LinePosition) Misquote → (LinePosition → Result (List ℕ) Misquote) → Result (List ℕ) Misquote
goes_on (Ok next) rest = behind next.0 (rest next.1)
goes_on (Err why) rest = Err why

-- what is sent for the bytes from there on
abbrev pub sent : LinePosition → List ℕ → Result (List ℕ) Misquote
sent place [] = at_end place
sent place (b ∷ bs) = goes_on (typed place b) (λ next. sent next bs)

-- what is sent for a line: a comment as it is
abbrev pub line_sent : List ℕ → Result (List ℕ) Misquote
line_sent [] = Ok []
line_sent (b ∷ bs) = if b == 35 then Ok (b ∷ bs) else sent Between (b ∷ bs)

-- the code gives this, unless memory lacks
abbrev pub Sends : {X : Type 0} → (X → List ℕ) → Result X Unsent → Result (List ℕ) Misquote → Type 0
Sends items (Ok text) line = line ≡ Ok (items text)
Sends items (Err (Misquoted why)) line = line ≡ Err why
Sends items (Err NoMemory) line = Unit {0}

-- these bytes were put behind what was there, and this place is told
abbrev pub PutsOn : List ℕ → List ℕ → List ℕ → LinePosition → Result LinePosition Unsent → Type 0
PutsOn old new bytes place (Ok told) = (new ≡ old ++ bytes) × (told ≡ place)
PutsOn old new bytes place (Err (Misquoted why)) = ⊥
PutsOn old new bytes place (Err NoMemory) = Unit {0}

-- what is sent for a byte was put, and its next place is told; or why there is none
abbrev pub PutsTyped : List ℕ → List ℕ → Result LinePosition Unsent → Result (List ℕ × LinePosition) Misquote → Type 0
PutsTyped old new result (Ok next) = PutsOn old new next.0 next.1 result
PutsTyped old new (Err (Misquoted why)) (Err reason) = why ≡ reason
PutsTyped old new (Err NoMemory) (Err reason) = Unit {0}
PutsTyped old new (Ok told) (Err reason) = ⊥
