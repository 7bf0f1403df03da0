-- What the batches of a journal say of the disk.
use Rattle.std.proofs.Common.{◌≡◌, ℕ, zero, suc, ◌+◌, ◌≤◌, ◌<◌, List, [], ◌∷◌, ◌++◌, length, refl, ap, ◌∙◌, length-append, arith}
use Rattle.std.specs.Int.{w32, to_be_bytes}
use Rattle.std.specs.List.{Contains, slice_index_or}
use Rattle.tab_journal.specs.declared.seal.Form.{Form}
use Rattle.tab_journal.specs.declared.seal.Form.TheVariants.{Plain, Tagged}
use Rattle.tab_journal.specs.declared.seal.Seal.{Seal}
use Rattle.tab_journal.specs.Journals.{Batch, IsSummed, IsTagOf, IsBatch, AreBatches}
use Rattle.tab_journal.specs.Writing.{around, AreTimely}

summed_length : (salt before : ℕ) (bytes : List ℕ) (b : Batch) → IsSummed salt before bytes b → length bytes ≡ 20 + length b.body
summed_length salt before bytes b is =
    let len : length bytes ≡ length (is.s ++ (is.f ++ is.m)) = ap (λ (z : List ℕ). length z) is.spelled in
    let s : length is.s ≡ 8 = ap (λ (z : List ℕ). length z) is.settled.0 in
    let m : length is.m ≡ 8 = ap (λ (z : List ℕ). length z) is.sum.0 in
    let f : length is.f ≡ length (to_be_bytes w32 (length b.body)) + length b.body = ap (λ (z : List ℕ). length z) is.body.0 ∙ length-append (to_be_bytes w32 (length b.body)) b.body in
    let four : length (to_be_bytes w32 (length b.body)) ≡ 4 = refl in
    omega (arith, len, s, m, f, four, length-append is.s (is.f ++ is.m), length-append is.f is.m)

tag_length : (form : Form) (salt : ℕ) (bytes : List ℕ) → IsTagOf form salt bytes → 20 + length bytes ≡ around form
tag_length Plain salt bytes is = ap (λ (z : List ℕ). 20 + length z) is
tag_length Tagged salt bytes is = ap (λ (z : List ℕ). 20 + length z) is.0

pub batch_length : (seal : Seal) (before : ℕ) (bytes : List ℕ) (b : Batch) → IsBatch seal before bytes b → length bytes ≡ around seal.form + length b.body
batch_length seal before bytes b is =
    omega (arith, ap (λ (z : List ℕ). length z) is.whole, length-append is.t is.r, tag_length seal.form seal.salt is.t is.tag, summed_length seal.salt before is.r b is.summed)

pub both : (seal : Seal) (before at : ℕ) (text : List ℕ) (b : Batch) (bs : List Batch) → (are : AreBatches seal before text (b ∷ bs)) → at + length text ≡ at + (around seal.form + length b.body) + length are.1
both seal before at text b bs are =
    let len : length text ≡ length are.0 + length are.1 = ap (λ (z : List ℕ). length z) are.2 ∙ length-append are.0 are.1 in
    omega (arith, len, batch_length seal before are.0 b are.3)

-- one batch more, behind these
pub timely_more : (n : ℕ) (seal : Seal) (before at : ℕ) (text : List ℕ) (bs : List Batch) (b : Batch) → AreBatches seal before text bs → AreTimely seal.form n at bs → b.settled ≡ n → n ≤ at + length text → AreTimely seal.form n at (bs ++ b ∷ [])
timely_more n seal before at text [] b are timely same low = (omega (arith, same), omega (arith, same, low, ap (λ (z : List ℕ). length z) are), tt)
timely_more n seal before at text (x ∷ bs) b are timely same low =
    (timely.0, timely.1, timely_more n seal x.sum (at + (around seal.form + length x.body)) are.1 bs b are.4 timely.2 same (omega (arith, low, both seal before at text x bs are)))

-- all of them on the disk
pub timely_all : (n m : ℕ) (seal : Seal) (before at : ℕ) (text : List ℕ) (bs : List Batch) → AreBatches seal before text bs → AreTimely seal.form n at bs → at + length text ≤ m → AreTimely seal.form m at bs
timely_all n m seal before at text [] are timely low = tt
timely_all n m seal before at text (x ∷ bs) are timely low =
    (omega (arith, timely.1, low), timely.1, timely_all n m seal x.sum (at + (around seal.form + length x.body)) are.1 bs are.4 timely.2 (omega (arith, low, both seal before at text x bs are)))

-- each of them
timely_at : (form : Form) (n at : ℕ) (bs : List Batch) (k : ℕ) (d b : Batch) → AreTimely form n at bs → k < length bs → slice_index_or bs k d ≡ b → b.settled ≤ n
timely_at form n at [] k d b timely less is = absurd (omega (arith, less))
timely_at form n at (x ∷ bs) zero d b timely less is = omega (arith, timely.0, ap (λ (z : Batch). z.settled) is)
timely_at form n at (x ∷ bs) (suc k) d b timely less is = timely_at form n (at + (around form + length x.body)) bs k d b timely.2 (omega (arith, less)) is

pub timely_contains : (form : Form) (n at : ℕ) (bs : List Batch) (b : Batch) → AreTimely form n at bs → Contains bs b → b.settled ≤ n
timely_contains form n at bs b timely has = timely_at form n at bs has.0 b b timely has.1 has.2
