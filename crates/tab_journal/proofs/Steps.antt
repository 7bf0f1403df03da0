-- What is left behind a batch is shorter.
use Rattle.std.proofs.Common.{◌≡◌, ℕ, ◌≤◌, ◌<◌, Bool, true, false, cond, ltb, List, length, take, drop, Some, None, refl, ap, arith}
use Rattle.std.specs.Int.{w64, w32, from_be_bytes}
use Rattle.std.proofs.lemmas.Bool.{ltb-false}
use Rattle.std.proofs.lemmas.List.{length-drop}
use Rattle.tab_codec.specs.Reading.{◌>>=◌, u32_at, u64_at, bytes_at, field_at}
use Rattle.tab_codec.proofs.Exact.{some_inj, on_bind}
use Rattle.tab_journal.specs.declared.seal.Form.{Form}
use Rattle.tab_journal.specs.declared.seal.Form.TheVariants.{Plain, Tagged}
use Rattle.tab_journal.specs.declared.seal.Seal.{Seal}
use Rattle.tab_journal.specs.Journals.{Batch}
use Rattle.tab_journal.specs.Reading.{batch_of, summed_at, tag_of, tag_in, batch_at}

guarded : {A : Type 0} (b : Bool) (x y : A) (P : Type 0) → cond b None (Some x) ≡ Some y → (b ≡ false → x ≡ y → P) → P
guarded true x y P is then = absurd cc
guarded false x y P is then = then refl (some_inj x y is)

behind_long : (bytes : List ℕ) (x : ℕ × List ℕ) → u64_at bytes ≡ Some x → length x.1 < length bytes
unfolding u64_at
behind_long bytes x is = guarded (ltb (length bytes) 8) (from_be_bytes w64 (take 8 bytes), drop 8 bytes) x (length x.1 < length bytes) is (λ no e.
    omega (arith, ltb-false _ _ no, length-drop 8 bytes, ap (λ (p : ℕ × List ℕ). length p.1) e))

behind_bytes : (n : ℕ) (bytes : List ℕ) (x : List ℕ × List ℕ) → bytes_at n bytes ≡ Some x → length x.1 ≤ length bytes
behind_bytes n bytes x is = guarded (ltb (length bytes) n) (take n bytes, drop n bytes) x (length x.1 ≤ length bytes) is (λ no e.
    omega (arith, length-drop n bytes, ap (λ (p : List ℕ × List ℕ). length p.1) e))

behind_number : (bytes : List ℕ) (x : ℕ × List ℕ) → u32_at bytes ≡ Some x → length x.1 ≤ length bytes
unfolding u32_at
behind_number bytes x is = guarded (ltb (length bytes) 4) (from_be_bytes w32 (take 4 bytes), drop 4 bytes) x (length x.1 ≤ length bytes) is (λ no e.
    omega (arith, length-drop 4 bytes, ap (λ (p : ℕ × List ℕ). length p.1) e))

behind_field : (bytes : List ℕ) (x : List ℕ × List ℕ) → field_at bytes ≡ Some x → length x.1 ≤ length bytes
unfolding field_at
behind_field bytes x is = on_bind (u32_at bytes) (λ n. bytes_at n.0 n.1) x (length x.1 ≤ length bytes) is (λ n read more.
    omega (arith, behind_number bytes n read, behind_bytes n.0 n.1 x more))

summed_shorter : (salt before : ℕ) (bytes : List ℕ) (x : Batch × List ℕ) → summed_at salt before bytes ≡ Some x → length x.1 < length bytes
unfolding summed_at
summed_shorter salt before bytes x is =
    on_bind (u64_at bytes) (λ s. field_at s.1 >>= λ f. u64_at f.1 >>= λ m. batch_of salt before s.0 f.0 m.0 >>= λ b. Some (b, m.1)) x (length x.1 < length bytes) is (λ s read_s more_s.
    on_bind (field_at s.1) (λ f. u64_at f.1 >>= λ m. batch_of salt before s.0 f.0 m.0 >>= λ b. Some (b, m.1)) x (length x.1 < length bytes) more_s (λ f read_f more_f.
    on_bind (u64_at f.1) (λ m. batch_of salt before s.0 f.0 m.0 >>= λ b. Some (b, m.1)) x (length x.1 < length bytes) more_f (λ m read_m more_m.
    on_bind (batch_of salt before s.0 f.0 m.0) (λ b. Some (b, m.1)) x (length x.1 < length bytes) more_m (λ b made e.
    omega (arith, behind_long bytes s read_s, behind_field s.1 f read_f, behind_long f.1 m read_m, ap (λ (p : Batch × List ℕ). length p.1) (some_inj (b, m.1) x e))))))

tag_shorter : (form : Form) (salt : ℕ) (bytes : List ℕ) (x : Unit {0} × List ℕ) → tag_in form salt bytes ≡ Some x → length x.1 ≤ length bytes
unfolding tag_in
tag_shorter Plain salt bytes x is = omega (arith, ap (λ (p : Unit {0} × List ℕ). length p.1) (some_inj (tt, bytes) x is))
tag_shorter Tagged salt bytes x is = on_bind (u64_at bytes) (λ n. tag_of salt n.0 >>= λ u. Some (u, n.1)) x (length x.1 ≤ length bytes) is (λ n read more.
    on_bind (tag_of salt n.0) (λ u. Some (u, n.1)) x (length x.1 ≤ length bytes) more (λ u made e.
    omega (arith, behind_long bytes n read, ap (λ (p : Unit {0} × List ℕ). length p.1) (some_inj (u, n.1) x e))))

pub batch_shorter : (seal : Seal) (before : ℕ) (bytes : List ℕ) (x : Batch × List ℕ) → batch_at seal before bytes ≡ Some x → length x.1 < length bytes
unfolding batch_at
batch_shorter seal before bytes x is = on_bind (tag_in seal.form seal.salt bytes) (λ u. summed_at seal.salt before u.1) x (length x.1 < length bytes) is (λ u read more.
    omega (arith, tag_shorter seal.form seal.salt bytes u read, summed_shorter seal.salt before u.1 x more))
