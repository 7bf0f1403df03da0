-- The first place of a byte, by what `memchr` says of it.
use Rattle.std.proofs.Common.{◌≡◌, ℕ, ◌==◌, Bool, true, false, List, length, refl, sym, arith, Some, None}
use Rattle.std.proofs.lemmas.List.Sums.{position_or_len_is}
use Rattle.memchr.specs.Find.{IsFirstByte, is_byte}
use Rattle.std.specs.Prelude.{not}
use Rattle.std.specs.List.{prefix_len}

-- a test that doesn't pass fails
fails : (b : Bool) → ¬ (b ≡ true) → b ≡ false
fails true n = absurd (n refl)
fails false n = refl

pub found_nowhere : (byte : ℕ) (bs : List ℕ) → IsFirstByte (is_byte byte) bs None → length bs ≡ prefix_len (λ b. not (b == byte)) bs
found_nowhere byte bs none =
    sym (position_or_len_is (λ b. b == byte) bs (length bs) 0 (omega arith) (λ k h. fails _ (none k (omega arith) h)) (λ h. absurd (omega (arith, h))))

pub found_before : (byte : ℕ) (bs : List ℕ) (at : ℕ) → IsFirstByte (is_byte byte) bs (Some at) → at ≡ prefix_len (λ b. not (b == byte)) bs
found_before byte bs at found =
    sym (position_or_len_is (λ b. b == byte) bs at 0 (omega (arith, found.0.high)) (λ k h. fails _ (found.0.before k (omega arith) h)) (λ h. found.1))
