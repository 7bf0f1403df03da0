-- To be believed by whoever relies on it. What is shown of a word.
use Rattle.std.specs.Prelude.{ℕ, ◌≡◌, ◌↔◌, ◌==◌, nat_le, Bool, true, false, ◌&&◌, ◌||◌, List, [], ◌∷◌, ◌++◌, Option, Some, None, Result, Ok, Err, IsUtf8, chars, if◌then◌else◌}
use Rattle.std.specs.List.{list_any, list_all}
use Rattle.ucd_category.specs.GeneralCategory.{general_category}
use Rattle.ucd_category.specs.declared.GeneralCategory.{GeneralCategory}
use Rattle.ucd_category.specs.declared.GeneralCategory.TheVariants.{SpaceSeparator, Control, Format, LineSeparator, ParagraphSeparator, PrivateUse, Surrogate, Unassigned}
use Rattle.tab_text.specs.Words.{is_plain, hex_form, empty_word}
use Rattle.tab_text.specs.Reading.{bytes_of}

-- what is shown of a byte, in quotes or not, in a text of printable characters or not
abbrev pub shown_byte : Bool → Bool → ℕ → List ℕ
shown_byte quoted drawn b =
    if quoted && b == 32 then 32 ∷ []
    else if quoted && b == 34 then 92 ∷ 34 ∷ []
    else if b == 92 then 92 ∷ 92 ∷ []
    else if is_plain b || (drawn && nat_le 128 b) then b ∷ [] else hex_form b

abbrev pub shown_bytes : Bool → Bool → List ℕ → List ℕ
shown_bytes quoted drawn [] = []
shown_bytes quoted drawn (b ∷ bs) = shown_byte quoted drawn b ++ shown_bytes quoted drawn bs

-- a quote is in front, or a space somewhere
abbrev pub needs_quotes : List ℕ → Bool
needs_quotes [] = false
needs_quotes (b ∷ bs) = b == 34 || list_any (λ x. x == 32) (b ∷ bs)

-- what is shown of bytes
abbrev pub shown : Bool → List ℕ → List ℕ
shown drawn [] = empty_word
shown drawn (b ∷ bs) = if needs_quotes (b ∷ bs) then 34 ∷ (shown_bytes true drawn (b ∷ bs) ++ 34 ∷ []) else shown_bytes false drawn (b ∷ bs)

-- a letter, mark, digit, sign or symbol, or the space
abbrev pub is_drawn_kind : GeneralCategory → ℕ → Bool
is_drawn_kind SpaceSeparator c = c == 32
is_drawn_kind Control c = false
is_drawn_kind Format c = false
is_drawn_kind LineSeparator c = false
is_drawn_kind ParagraphSeparator c = false
is_drawn_kind PrivateUse c = false
is_drawn_kind Surrogate c = false
is_drawn_kind Unassigned c = false
is_drawn_kind other c = true

-- a terminal draws this character
abbrev pub is_drawn : ℕ → Bool
is_drawn c = is_drawn_kind (general_category c) c

-- a text of characters that a terminal draws
abbrev pub IsDrawn : List ℕ → Type 0
IsDrawn bs = IsUtf8 bs × (list_all is_drawn (chars bs) ≡ true)

-- what is shown of these bytes
abbrev pub IsShown : List ℕ → List ℕ → Type 0
IsShown text bs = (drawn : Bool) × ((drawn ≡ true) ↔ IsDrawn bs) × (text ≡ shown drawn bs)

-- what is shown of a word: of what it spells, or itself where it is no byte word
abbrev pub IsShownFor : List ℕ → List ℕ → Option (List ℕ) → Type 0
IsShownFor text word (Some bs) = IsShown text bs
IsShownFor text word None = text ≡ word

-- the code gives the bytes that a word spells, unless memory lacks
abbrev pub Spells : {X E : Type 0} → (X → List ℕ) → Result (Option X) E → Option (List ℕ) → Type 0
Spells items (Ok (Some bytes)) spelled = spelled ≡ Some (items bytes)
Spells items (Ok None) spelled = spelled ≡ None
Spells items (Err e) spelled = Unit {0}
