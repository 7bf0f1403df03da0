-- Names and lives as maps compare them.
use Rattle.std.proofs.Common.{◌≡◌, ℕ, true, List, sym, ◌∙◌}
use Rattle.std.specs.Prelude.{bytes_eq}
use Rattle.std.specs.Ordering.{is_eq}
use Rattle.std.specs.Cmp.{unsigned_tied}
use Rattle.std.proofs.lemmas.Bool.Decides.{Decides-eqb}
use Rattle.std.proofs.lemmas.Map.Text.{is_eq-slice_cmp}
use Rattle.tab_key.specs.Bytes.{bytes_cmp}
use Rattle.tab_policy.specs.Entries.{same_life}

-- the order of names calls the same those that are byte for byte the same
pub same_name : (a b : List ℕ) → is_eq (bytes_cmp a b) ≡ bytes_eq a b
same_name a b = is_eq-slice_cmp a b

-- lives that are one are the same number
pub life_is : (a b : ℕ) → same_life a b ≡ true → a ≡ b
life_is a b h = (Decides-eqb a b).0 (sym (unsigned_tied a b) ∙ h)

-- and a number is one life
pub is_life_of : (a b : ℕ) → a ≡ b → same_life a b ≡ true
is_life_of a b h = unsigned_tied a b ∙ (Decides-eqb a b).1 h
