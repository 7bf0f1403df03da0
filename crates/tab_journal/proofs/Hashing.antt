-- What is written to a hasher piece by piece is written all at once.
use Rattle.std.proofs.Common.{◌≡◌, ℕ, ℤ, List, ◌++◌, length, sym, ap, ◌∙◌}
use Rattle.std.specs.Int.{w32, w64, to_be_bytes, cast_unsigned}
use Rattle.std.specs.List.{fold}
use Rattle.std.specs.Hash.DefaultHasher.{initial, write, write_byte, finish}
use Rattle.std.proofs.lemmas.List.Sums.{fold-append}
use Rattle.tab_wire.specs.Replies.{u32, u64, i64}
use Rattle.tab_journal.specs.declared.format.Format.{Format}
use Rattle.tab_journal.specs.declared.seal.Seal.{Seal}
use Rattle.tab_journal.specs.Journals.{sum_of, mark, header_summed, batch_summed}

module _ {S : Type 0} (f : S → ℕ → S) where
  after : (s : S) (a b : List ℕ) → fold f (fold f s a) b ≡ fold f s (a ++ b)
  after s a b = sym (fold-append f s a b)

  five : (s : S) (a b c d e : List ℕ) → fold f (fold f (fold f (fold f (fold f s a) b) c) d) e ≡ fold f s (a ++ (b ++ (c ++ (d ++ e))))
  five s a b c d e =
      after (fold f (fold f (fold f s a) b) c) d e
      ∙ after (fold f (fold f s a) b) c (d ++ e)
      ∙ after (fold f s a) b (c ++ (d ++ e))
      ∙ after s a (b ++ (c ++ (d ++ e)))

pub header_sums : (format : Format) (generation next : ℕ) (clock : ℤ) (seal : Seal) → finish (write (write (write (write (write initial (mark format seal.form)) (to_be_bytes w64 generation)) (to_be_bytes w64 next)) (to_be_bytes w64 (cast_unsigned w64 clock))) (to_be_bytes w64 seal.salt)) ≡ sum_of (header_summed format generation next clock seal)
unfolding sum_of header_summed write u64 i64
header_sums format generation next clock seal = ap finish (five write_byte initial (mark format seal.form) (u64 generation) (u64 next) (i64 clock) (u64 seal.salt))

pub batch_sums : (salt before settled : ℕ) (body : List ℕ) → finish (write (write (write (write (write initial (to_be_bytes w64 salt)) (to_be_bytes w64 before)) (to_be_bytes w64 settled)) (to_be_bytes w32 (length body))) body) ≡ sum_of (batch_summed salt before settled body)
unfolding sum_of batch_summed write u32 u64
batch_sums salt before settled body = ap finish (five write_byte initial (u64 salt) (u64 before) (u64 settled) (u32 (length body)) body)
