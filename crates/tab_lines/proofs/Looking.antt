-- A word of the same length with the same bytes is looked up alike.
use Rattle.std.proofs.Common.{◌≡◌, ℕ, List, length, sym, ap}
use Rattle.std.proofs.lemmas.Slice.Eq.{text_from_reads, HasBytesAt}

-- what a function gives at the text whose bytes these are
pub found : {A : Type 0} (f : List ℕ → A) (word text : List ℕ) → length word ≡ length text → HasBytesAt word 0 text → f text ≡ f word
found f word text len bytes = sym (ap f (text_from_reads word text len bytes))
