-- To be believed by whoever relies on it. What a text says of a file's mode.
use Rattle.std.specs.Prelude.{ℕ, ◌≤◌, List, Option, SomeIff}
use Rattle.std.specs.Str.Parse.{IsNumeral, digits_value}

-- the number that octal digits write, where it is at most 0777
abbrev pub ReadsMode : List ℕ → Option ℕ → Type 0
ReadsMode text mode = SomeIff mode (IsNumeral 8 text × (digits_value 8 text ≤ 511)) (digits_value 8 text)
