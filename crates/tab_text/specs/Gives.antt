-- For proofs. What a reading function of the code gives.
use Rattle.std.specs.Prelude.{◌≡◌, Option, Some, None, Result, Ok, Err}
use Rattle.tab_text.specs.declared.parse_error.ParseError.{ParseError}
use Rattle.tab_text.specs.declared.parse_error.ParseError.TheVariants as error

-- a fault says that nothing was read; want of memory says nothing
abbrev pub SaysNone : {Y : Type 0} → ParseError → Option Y → Type 0
SaysNone error.NoMemory read = Unit {0}
SaysNone error.Malformed read = read ≡ None

-- what the code returned, seen by view, is what is read, unless memory ran out
abbrev pub Gives : {X Y : Type 0} → (X → Y) → Result X ParseError → Option Y → Type 0
Gives view (Ok x) read = read ≡ Some (view x)
Gives view (Err e) read = SaysNone e read
