-- To be believed by whoever relies on it. Which bytes make a name.
use Rattle.std.specs.Prelude.{ℕ, ◌≤◌, ◌<◌, Bool, ◌||◌, ◌==◌, List, length, IsTrue}
use Rattle.std.specs.Char.{is_ascii_alphanumeric}
use Rattle.std.specs.List.{list_all}
use Rattle.tab_key.specs.declared.name.TheConstants.{MAX_NAME_LEN}

-- `a-z A-Z 0-9 _ - .`
abbrev pub is_name_byte : ℕ → Bool
is_name_byte b = is_ascii_alphanumeric b || b == 95 || b == 45 || b == 46

-- 1 to 128 such bytes
abbrev pub IsName : List ℕ → Type 0
IsName bs = (0 < length bs) × (length bs ≤ MAX_NAME_LEN) × IsTrue (list_all is_name_byte bs)
