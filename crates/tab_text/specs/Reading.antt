-- For proofs. What a byte word says, read from its front on.
use Rattle.std.specs.Prelude.{ℕ, ◌+◌, ◌-◌, ◌*◌, ◌==◌, nat_le, nat_lt, Bool, true, ◌&&◌, List, [], ◌∷◌, length, Option, Some, None, if◌then◌else◌}
use Rattle.std.specs.Option.{option_map, option_and_then}
use Rattle.std.specs.Str.{bytes_eq}
use Rattle.tab_text.specs.Words.{is_plain, empty_word}
use Rattle.tab_text.specs.declared.escape.Escape.{Escape}
use Rattle.tab_text.specs.declared.escape.Escape.TheVariants.{Outside, Backslash, Hex, High}

-- the value of a hexadecimal digit in lower case
abbrev pub hex_value : ℕ → Option ℕ
hex_value d = if nat_le 48 d && nat_le d 57 then Some (d - 48) else if nat_le 97 d && nat_le d 102 then Some (d - 87) else None

-- after one more byte: the byte that is whole with it, if one is, and how much of an escape has been read
abbrev pub step : Escape → ℕ → Option (Option ℕ × Escape)
step Outside b = if is_plain b then Some (Some b, Outside) else if b == 92 then Some (None, Backslash) else None
step Backslash b = if b == 92 then Some (Some 92, Outside) else if b == 120 then Some (None, Hex) else None
step Hex b = option_map (λ high. (None, High high)) (hex_value b)
step (High high) b = option_map (λ low. (Some (16 * high + low), Outside)) (hex_value b)

-- the byte, if there is one, before what is read of the rest
abbrev pub put_before : Option ℕ → List ℕ → List ℕ
put_before None bs = bs
put_before (Some b) bs = b ∷ bs

-- what is read at the end: a word doesn't end inside an escape
abbrev pub at_end : Escape → Option (List ℕ)
at_end Outside = Some []
at_end Backslash = None
at_end Hex = None
at_end (High high) = None

-- reads on, where so much of an escape has been read
abbrev pub unescaped : Escape → List ℕ → Option (List ℕ)
unescaped state [] = at_end state
unescaped state (b ∷ bs) = option_and_then (λ next. option_map (put_before next.0) (unescaped next.1 bs)) (step state b)

-- the bytes that a word spells
unfoldable pub bytes_of : List ℕ → Option (List ℕ)
bytes_of text = if bytes_eq text empty_word then Some [] else if length text == 0 then None else unescaped Outside text

-- half of an escape is the value of a digit
abbrev pub digit_fits : Escape → Bool
digit_fits Outside = true
digit_fits Backslash = true
digit_fits Hex = true
digit_fits (High high) = nat_lt high 16
