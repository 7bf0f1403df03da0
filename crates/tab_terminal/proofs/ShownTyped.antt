-- What is shown of bytes, typed, is sent as their word.
use Rattle.std.proofs.Common.{◌≡◌, ℕ, ◌/◌, ◌%◌, ◌<◌, ◌==◌, nat_lt, nat_le, Bool, true, false, ◌&&◌, ◌||◌, cond, List, [], ◌∷◌, ◌++◌, refl, sym, ap, ◌∙◌, arith, Result, Ok, Err}
use Rattle.std.specs.List.{list_any}
use Rattle.std.proofs.lemmas.List.{append_assoc}
use Rattle.std.proofs.lemmas.Bool.Decides.{nat_tests}
use Rattle.tab_text.specs.Words.{is_plain, hex_digit, hex_form, escaped_byte, escaped, word, empty_word}
use Rattle.tab_text.proofs.Spelling.{AreBytes}
use Rattle.tab_terminal.specs.Typing.{outside_byte, inside, typed, behind, goes_on, sent}
use Rattle.tab_terminal.specs.Showing.{shown_byte, shown_bytes, shown}
use Rattle.tab_terminal.specs.declared.place.LinePosition.{LinePosition}
use Rattle.tab_terminal.specs.declared.place.LinePosition.TheVariants.{Between, Word, Opened, Quoted, Slash, Closed}
use Rattle.tab_terminal.specs.declared.misquote.Misquote.{Misquote}
use Rattle.tab_terminal.proofs.Behind.{behind_twice}

-- a byte of which that is sent
step : (place next : LinePosition) (c : ℕ) (cs bs : List ℕ) → typed place c ≡ Ok (bs, next) → sent place (c ∷ cs) ≡ behind bs (sent next cs)
step place next c cs bs is = ap (λ r. goes_on r (λ later. sent later cs)) is

-- ---- Out of quotes.
-- a byte of ASCII but the space
ascii_word : (c : ℕ) → (c == 32) ≡ false → nat_lt c 128 ≡ true → typed Word c ≡ Ok (c ∷ [], Word)
ascii_word c not low = ap (λ t. cond t (Ok (32 ∷ [], Between)) (Ok (outside_byte c, Word))) not ∙ ap (λ t. Ok (cond t (c ∷ []) (hex_form c), Word)) low

-- a byte that isn't ASCII
other_word : (c : ℕ) → (c == 32) ≡ false → nat_lt c 128 ≡ false → typed Word c ≡ Ok (hex_form c, Word)
other_word c not low = ap (λ t. cond t (Ok (32 ∷ [], Between)) (Ok (outside_byte c, Word))) not ∙ ap (λ t. Ok (cond t (c ∷ []) (hex_form c), Word)) low

digit_word : (n : ℕ) → n < 16 → (rest : List ℕ) → sent Word (hex_digit n ∷ rest) ≡ behind (hex_digit n ∷ []) (sent Word rest)
digit_word n lt rest = step Word Word (hex_digit n) rest (hex_digit n ∷ []) (ascii_word (hex_digit n) (grind (arith, nat_tests)) (grind (arith, nat_tests)))

hex_word : (b : ℕ) → b < 256 → (rest : List ℕ) → sent Word (hex_form b ++ rest) ≡ behind (hex_form b) (sent Word rest)
hex_word b lt rest =
    let high = hex_digit (b / 16) in
    let low = hex_digit (b % 16) in
    let last : sent Word (low ∷ rest) ≡ behind (low ∷ []) (sent Word rest) = digit_word (b % 16) (omega arith) rest in
    let both : sent Word (high ∷ low ∷ rest) ≡ behind (high ∷ low ∷ []) (sent Word rest) =
    digit_word (b / 16) (omega arith) (low ∷ rest) ∙ ap (behind (high ∷ [])) last ∙ behind_twice (high ∷ []) (low ∷ []) (sent Word rest) in
    ap (λ r. behind (92 ∷ []) (behind (120 ∷ []) r)) both
    ∙ ap (behind (92 ∷ [])) (behind_twice (120 ∷ []) (high ∷ low ∷ []) (sent Word rest))
    ∙ behind_twice (92 ∷ []) (120 ∷ high ∷ low ∷ []) (sent Word rest)

-- how a byte is written that is no backslash and not plain, and one that is plain
escaped_hex : (b : ℕ) → is_plain b ≡ false → (b == 92) ≡ false → escaped_byte b ≡ hex_form b
escaped_hex b not other = ap (λ t. cond t (b ∷ []) (cond (b == 92) (92 ∷ 92 ∷ []) (hex_form b))) not ∙ ap (λ t. cond t (92 ∷ 92 ∷ []) (hex_form b)) other

escaped_plain : (b : ℕ) → is_plain b ≡ true → escaped_byte b ≡ b ∷ []
escaped_plain b is = ap (λ t. cond t (b ∷ []) (cond (b == 92) (92 ∷ 92 ∷ []) (hex_form b))) is

byte_word : (drawn : Bool) (b : ℕ) → b < 256 → (b == 32) ≡ false → (rest : List ℕ) → sent Word (shown_byte false drawn b ++ rest) ≡ behind (escaped_byte b) (sent Word rest)
byte_word drawn b lt not rest =
    elim (b == 92) as (λ t. (b == 92) ≡ t → sent Word (cond t (92 ∷ 92 ∷ []) (cond (is_plain b || (drawn && nat_le 128 b)) (b ∷ []) (hex_form b)) ++ rest) ≡ behind (escaped_byte b) (sent Word rest)) [
      | true ↦ λ slash.
          let same : b ≡ 92 = grind (arith, nat_tests) in
          behind_twice (92 ∷ []) (92 ∷ []) (sent Word rest) ∙ ap (λ n. behind (escaped_byte n) (sent Word rest)) (sym same)
      | false ↦ λ other. elim (is_plain b) as (λ t. is_plain b ≡ t → sent Word (cond (t || (drawn && nat_le 128 b)) (b ∷ []) (hex_form b) ++ rest) ≡ behind (escaped_byte b) (sent Word rest)) [
        | true ↦ λ plain. step Word Word b rest (b ∷ []) (ascii_word b not (grind (arith, nat_tests))) ∙ ap (λ bs. behind bs (sent Word rest)) (sym (escaped_plain b plain))
        | false ↦ λ odd. high drawn odd other
      ] refl
    ] refl
  where
    far : (b : ℕ) → nat_le 128 b ≡ true → nat_lt b 128 ≡ false
    far b is = grind (arith, nat_tests)

    high : (drawn : Bool) → is_plain b ≡ false → (b == 92) ≡ false → sent Word (cond (drawn && nat_le 128 b) (b ∷ []) (hex_form b) ++ rest) ≡ behind (escaped_byte b) (sent Word rest)
    high false odd other = hex_word b lt rest ∙ ap (λ bs. behind bs (sent Word rest)) (sym (escaped_hex b odd other))
    high true odd other =
        elim (nat_le 128 b) as (λ t. nat_le 128 b ≡ t → sent Word (cond t (b ∷ []) (hex_form b) ++ rest) ≡ behind (escaped_byte b) (sent Word rest)) [
          | true ↦ λ is. step Word Word b rest (hex_form b) (other_word b not (far b is)) ∙ ap (λ bs. behind bs (sent Word rest)) (sym (escaped_hex b odd other))
          | false ↦ λ is. hex_word b lt rest ∙ ap (λ bs. behind bs (sent Word rest)) (sym (escaped_hex b odd other))
        ] refl

-- none of them is the space
none_in_front : (b : ℕ) (bs : List ℕ) → list_any (λ x. x == 32) (b ∷ bs) ≡ false → ((b == 32) ≡ false) × (list_any (λ x. x == 32) bs ≡ false)
none_in_front b bs none = by (b == 32) none
  where
    by : (t : Bool) → (t || list_any (λ x. x == 32) bs) ≡ false → (t ≡ false) × (list_any (λ x. x == 32) bs ≡ false)
    by true is = absurd cc
    by false is = (refl, is)

bytes_word : (drawn : Bool) (bs : List ℕ) → AreBytes bs → list_any (λ x. x == 32) bs ≡ false → (rest : List ℕ) → sent Word (shown_bytes false drawn bs ++ rest) ≡ behind (escaped bs) (sent Word rest)
bytes_word drawn [] all none rest = nothing (sent Word rest)
  where
    nothing : (r : Result (List ℕ) Misquote) → r ≡ behind [] r
    nothing (Ok x) = refl
    nothing (Err e) = refl
bytes_word drawn (b ∷ bs) all none rest =
    let apart = none_in_front b bs none in
    ap (sent Word) (append_assoc (shown_byte false drawn b) (shown_bytes false drawn bs) rest)
    ∙ byte_word drawn b all.0 apart.0 (shown_bytes false drawn bs ++ rest)
    ∙ ap (behind (escaped_byte b)) (bytes_word drawn bs all.1 apart.1 rest)
    ∙ behind_twice (escaped_byte b) (escaped bs) (sent Word rest)

-- ---- In quotes.
inside_is : (b : ℕ) → (b == 34) ≡ false → (b == 92) ≡ false → typed Quoted b ≡ Ok (escaped_byte b, Quoted)
inside_is b quote slash = ap (λ t. cond t (Ok ([], Closed)) (inside b)) quote ∙ ap (λ t. cond t (Ok ([], Slash)) (Ok (escaped_byte b, Quoted))) slash

digit_quoted : (n : ℕ) → n < 16 → (rest : List ℕ) → sent Quoted (hex_digit n ∷ rest) ≡ behind (hex_digit n ∷ []) (sent Quoted rest)
digit_quoted n lt rest =
    step Quoted Quoted (hex_digit n) rest (escaped_byte (hex_digit n)) (inside_is (hex_digit n) (grind (arith, nat_tests)) (grind (arith, nat_tests)))
    ∙ ap (λ bs. behind bs (sent Quoted rest)) (escaped_plain (hex_digit n) (grind (arith, nat_tests)))

hex_quoted : (b : ℕ) → b < 256 → (rest : List ℕ) → sent Quoted (hex_form b ++ rest) ≡ behind (hex_form b) (sent Quoted rest)
hex_quoted b lt rest =
    let high = hex_digit (b / 16) in
    let low = hex_digit (b % 16) in
    let last : sent Quoted (low ∷ rest) ≡ behind (low ∷ []) (sent Quoted rest) = digit_quoted (b % 16) (omega arith) rest in
    let both : sent Quoted (high ∷ low ∷ rest) ≡ behind (high ∷ low ∷ []) (sent Quoted rest) =
    digit_quoted (b / 16) (omega arith) (low ∷ rest) ∙ ap (behind (high ∷ [])) last ∙ behind_twice (high ∷ []) (low ∷ []) (sent Quoted rest) in
    ap (λ r. behind [] (behind (92 ∷ 120 ∷ []) r)) both
    ∙ ap (behind []) (behind_twice (92 ∷ 120 ∷ []) (high ∷ low ∷ []) (sent Quoted rest))
    ∙ behind_twice [] (hex_form b) (sent Quoted rest)

byte_quoted : (drawn : Bool) (b : ℕ) → b < 256 → (rest : List ℕ) → sent Quoted (shown_byte true drawn b ++ rest) ≡ behind (escaped_byte b) (sent Quoted rest)
byte_quoted drawn b lt rest =
    elim (b == 32) as (λ t. (b == 32) ≡ t → sent Quoted (cond t (32 ∷ []) (cond (b == 34) (92 ∷ 34 ∷ []) (cond (b == 92) (92 ∷ 92 ∷ []) (cond (is_plain b || (drawn && nat_le 128 b)) (b ∷ []) (hex_form b)))) ++ rest) ≡ behind (escaped_byte b) (sent Quoted rest)) [
      | true ↦ λ space. let same : b ≡ 32 = grind (arith, nat_tests) in ap (λ n. behind (escaped_byte n) (sent Quoted rest)) (sym same)
      | false ↦ λ not. elim (b == 34) as (λ t. (b == 34) ≡ t → sent Quoted (cond t (92 ∷ 34 ∷ []) (cond (b == 92) (92 ∷ 92 ∷ []) (cond (is_plain b || (drawn && nat_le 128 b)) (b ∷ []) (hex_form b))) ++ rest) ≡ behind (escaped_byte b) (sent Quoted rest)) [
        | true ↦ λ quote. let same : b ≡ 34 = grind (arith, nat_tests) in behind_twice [] (34 ∷ []) (sent Quoted rest) ∙ ap (λ n. behind (escaped_byte n) (sent Quoted rest)) (sym same)
        | false ↦ λ quote. elim (b == 92) as (λ t. (b == 92) ≡ t → sent Quoted (cond t (92 ∷ 92 ∷ []) (cond (is_plain b || (drawn && nat_le 128 b)) (b ∷ []) (hex_form b)) ++ rest) ≡ behind (escaped_byte b) (sent Quoted rest)) [
          | true ↦ λ slash. let same : b ≡ 92 = grind (arith, nat_tests) in behind_twice [] (92 ∷ 92 ∷ []) (sent Quoted rest) ∙ ap (λ n. behind (escaped_byte n) (sent Quoted rest)) (sym same)
          | false ↦ λ slash. elim (is_plain b || (drawn && nat_le 128 b)) as (λ t. (is_plain b || (drawn && nat_le 128 b)) ≡ t → sent Quoted (cond t (b ∷ []) (hex_form b) ++ rest) ≡ behind (escaped_byte b) (sent Quoted rest)) [
            | true ↦ λ itself. step Quoted Quoted b rest (escaped_byte b) (inside_is b quote slash)
            | false ↦ λ odd. hex_quoted b lt rest ∙ ap (λ bs. behind bs (sent Quoted rest)) (sym (escaped_hex b (not_plain (is_plain b) odd) slash))
          ] refl
        ] refl
      ] refl
    ] refl
  where
    not_plain : (t : Bool) → (t || (drawn && nat_le 128 b)) ≡ false → t ≡ false
    not_plain true is = absurd cc
    not_plain false is = refl

bytes_quoted : (drawn : Bool) (bs : List ℕ) → AreBytes bs → (rest : List ℕ) → sent Quoted (shown_bytes true drawn bs ++ rest) ≡ behind (escaped bs) (sent Quoted rest)
bytes_quoted drawn [] all rest = nothing (sent Quoted rest)
  where
    nothing : (r : Result (List ℕ) Misquote) → r ≡ behind [] r
    nothing (Ok x) = refl
    nothing (Err e) = refl
bytes_quoted drawn (b ∷ bs) all rest =
    ap (sent Quoted) (append_assoc (shown_byte true drawn b) (shown_bytes true drawn bs) rest)
    ∙ byte_quoted drawn b all.0 (shown_bytes true drawn bs ++ rest)
    ∙ ap (behind (escaped_byte b)) (bytes_quoted drawn bs all.1 rest)
    ∙ behind_twice (escaped_byte b) (escaped bs) (sent Quoted rest)

-- ---- The first byte of a word.
-- a text that begins with no quote is read from its beginning as from the middle of a word
abbrev Begins : List ℕ → Type 0
Begins [] = ⊥
Begins (c ∷ cs) = (c == 34) ≡ false

from_between : (text rest : List ℕ) → Begins text → sent Between (text ++ rest) ≡ sent Word (text ++ rest)
from_between [] rest begins = absurd begins
from_between (c ∷ cs) rest begins =
    ap (λ t. goes_on (cond t (Ok ([], Opened)) (typed Word c)) (λ later. sent later (cs ++ rest))) begins

from_opened : (text rest : List ℕ) → Begins text → sent Opened (text ++ rest) ≡ sent Quoted (text ++ rest)
from_opened [] rest begins = absurd begins
from_opened (c ∷ cs) rest begins =
    ap (λ t. goes_on (cond t (Ok (empty_word, Closed)) (inside c)) (λ later. sent later (cs ++ rest))) begins
    ∙ ap (λ t. goes_on (cond t (Ok ([], Closed)) (inside c)) (λ later. sent later (cs ++ rest))) (sym begins)

begins_word : (drawn : Bool) (b : ℕ) (text : List ℕ) → (b == 34) ≡ false → Begins (shown_byte false drawn b ++ text)
begins_word drawn b text not =
    elim (b == 92) as (λ t. Begins (cond t (92 ∷ 92 ∷ []) (cond (is_plain b || (drawn && nat_le 128 b)) (b ∷ []) (hex_form b)) ++ text)) [
      | true ↦ refl
      | false ↦ elim (is_plain b || (drawn && nat_le 128 b)) as (λ t. Begins (cond t (b ∷ []) (hex_form b) ++ text)) [ true ↦ not | false ↦ refl ]
    ]

begins_quoted : (drawn : Bool) (b : ℕ) (text : List ℕ) → Begins (shown_byte true drawn b ++ text)
begins_quoted drawn b text =
    elim (b == 32) as (λ t. Begins (cond t (32 ∷ []) (cond (b == 34) (92 ∷ 34 ∷ []) (cond (b == 92) (92 ∷ 92 ∷ []) (cond (is_plain b || (drawn && nat_le 128 b)) (b ∷ []) (hex_form b)))) ++ text)) [
      | true ↦ refl
      | false ↦ elim (b == 34) as (λ t. (b == 34) ≡ t → Begins (cond t (92 ∷ 34 ∷ []) (cond (b == 92) (92 ∷ 92 ∷ []) (cond (is_plain b || (drawn && nat_le 128 b)) (b ∷ []) (hex_form b))) ++ text)) [
        | true ↦ λ quote. refl
        | false ↦ λ quote. elim (b == 92) as (λ t. Begins (cond t (92 ∷ 92 ∷ []) (cond (is_plain b || (drawn && nat_le 128 b)) (b ∷ []) (hex_form b)) ++ text)) [
          | true ↦ refl
          | false ↦ elim (is_plain b || (drawn && nat_le 128 b)) as (λ t. Begins (cond t (b ∷ []) (hex_form b) ++ text)) [ true ↦ quote | false ↦ refl ]
        ]
      ] refl
    ]

-- ---- A whole word.
-- what ends a word: the end of the line, or a space
abbrev pub Ends : List ℕ → Type 0
Ends rest = sent Word rest ≡ sent Closed rest

pub shown_on : (drawn : Bool) (bs : List ℕ) → AreBytes bs → (rest : List ℕ) → Ends rest → sent Between (shown drawn bs ++ rest) ≡ behind (word bs) (sent Word rest)
shown_on drawn [] all rest ends = behind_twice (92 ∷ []) (101 ∷ []) (sent Word rest)
shown_on drawn (b ∷ bs) all rest ends =
    elim (b == 34) as (λ t. (b == 34) ≡ t → sent Between (cond (t || list_any (λ x. x == 32) (b ∷ bs)) in_quotes out_of_them ++ rest) ≡ behind (escaped (b ∷ bs)) (sent Word rest)) [
      | true ↦ λ quote. quoted
      | false ↦ λ not. elim (list_any (λ x. x == 32) (b ∷ bs)) as (λ t. list_any (λ x. x == 32) (b ∷ bs) ≡ t → sent Between (cond t in_quotes out_of_them ++ rest) ≡ behind (escaped (b ∷ bs)) (sent Word rest)) [
        | true ↦ λ spaced. quoted
        | false ↦ λ none. from_between out_of_them rest (begins_word drawn b (shown_bytes false drawn bs) not) ∙ bytes_word drawn (b ∷ bs) all none rest
      ] refl
    ] refl
  where
    in_quotes : List ℕ
    in_quotes = 34 ∷ (shown_bytes true drawn (b ∷ bs) ++ 34 ∷ [])

    out_of_them : List ℕ
    out_of_them = shown_bytes false drawn (b ∷ bs)

    nothing : (r : Result (List ℕ) Misquote) → behind [] r ≡ r
    nothing (Ok x) = refl
    nothing (Err e) = refl

    quoted : sent Between (in_quotes ++ rest) ≡ behind (escaped (b ∷ bs)) (sent Word rest)
    quoted =
        let text = shown_bytes true drawn (b ∷ bs) in
        nothing (sent Opened ((text ++ 34 ∷ []) ++ rest))
        ∙ ap (sent Opened) (append_assoc text (34 ∷ []) rest)
        ∙ from_opened text (34 ∷ rest) (begins_quoted drawn b (shown_bytes true drawn bs))
        ∙ bytes_quoted drawn (b ∷ bs) all (34 ∷ rest)
        ∙ ap (behind (escaped (b ∷ bs))) (nothing (sent Closed rest) ∙ sym ends)
