-- How long headers and batches are.
use Rattle.std.proofs.Common.{◌≡◌, ℕ, ◌+◌, List, ◌++◌, length, refl, sym, ap, ◌∙◌, append_assoc, length-append, arith}
use Rattle.tab_wire.specs.Replies.{u32, u64, i64, field}
use Rattle.tab_journal.specs.declared.seal.Form.{Form}
use Rattle.tab_journal.specs.declared.seal.Form.TheVariants.{Plain, Tagged}
use Rattle.tab_journal.specs.declared.seal.Seal.{Seal}
use Rattle.tab_journal.specs.Journals.{sum_of, mark, Header, batch_summed}
use Rattle.tab_journal.specs.Spelling.{header_bytes, tag_bytes, summed_bytes, batch_bytes, head_bytes}
use Rattle.tab_journal.specs.Writing.{around}
use Rattle.tab_journal.proofs.Forms.{mark_long}

pub length_header : (f : Header) → length (header_bytes f) ≡ 48
unfolding u64 i64
length_header f =
    let g : length (u64 f.generation) ≡ 8 = refl in
    let n : length (u64 f.next) ≡ 8 = refl in
    let c : length (i64 f.clock) ≡ 8 = refl in
    let s : length (u64 f.seal.salt) ≡ 8 = refl in
    let m : length (u64 f.sum) ≡ 8 = refl in
    omega (
      arith,
      g,
      n,
      c,
      s,
      m,
      mark_long f.format f.seal.form,
      length-append (mark f.format f.seal.form) (u64 f.generation ++ (u64 f.next ++ (i64 f.clock ++ (u64 f.seal.salt ++ u64 f.sum)))),
      length-append (u64 f.generation) (u64 f.next ++ (i64 f.clock ++ (u64 f.seal.salt ++ u64 f.sum))),
      length-append (u64 f.next) (i64 f.clock ++ (u64 f.seal.salt ++ u64 f.sum)),
      length-append (i64 f.clock) (u64 f.seal.salt ++ u64 f.sum),
      length-append (u64 f.seal.salt) (u64 f.sum),
    )

length_tag : (form : Form) (salt : ℕ) → 20 + length (tag_bytes form salt) ≡ around form
unfolding u64
length_tag Plain salt = refl
length_tag Tagged salt = refl

length_summed : (salt sum n : ℕ) (body : List ℕ) → length (summed_bytes salt sum n body) ≡ 20 + length body
unfolding u32 u64
length_summed salt sum n body =
    let s = u64 (sum_of (batch_summed salt sum n body)) in
    let a : length (u64 n) ≡ 8 = refl in
    let b : length (u32 (length body)) ≡ 4 = refl in
    let d : length s ≡ 8 = refl in
    omega (arith, a, b, d, length-append (u64 n) (field body ++ s), length-append (field body) s, length-append (u32 (length body)) body)

pub length_batch : (seal : Seal) (sum n : ℕ) (body : List ℕ) → length (batch_bytes seal sum n body) ≡ around seal.form + length body
length_batch seal sum n body =
    omega (arith, length_tag seal.form seal.salt, length_summed seal.salt sum n body, length-append (tag_bytes seal.form seal.salt) (summed_bytes seal.salt sum n body))

-- a head, a body and a sum are a batch
pub length_head : (seal : Seal) (n len : ℕ) → length (head_bytes seal n len) + 8 ≡ around seal.form
unfolding u32 u64
length_head seal n len =
    let a : length (u64 n) ≡ 8 = refl in
    let b : length (u32 len) ≡ 4 = refl in
    omega (arith, a, b, length_tag seal.form seal.salt, length-append (tag_bytes seal.form seal.salt) (u64 n ++ u32 len), length-append (u64 n) (u32 len))

pub made_of_three : (seal : Seal) (sum n : ℕ) (body : List ℕ) → head_bytes seal n (length body) ++ (body ++ u64 (sum_of (batch_summed seal.salt sum n body))) ≡ batch_bytes seal sum n body
made_of_three seal sum n body =
    let tag = tag_bytes seal.form seal.salt in
    let len = u32 (length body) in
    let s = u64 (sum_of (batch_summed seal.salt sum n body)) in
    append_assoc tag (u64 n ++ len) (body ++ s)
    ∙ ap (λ (z : List ℕ). tag ++ z) (append_assoc (u64 n) len (body ++ s) ∙ ap (λ (z : List ℕ). u64 n ++ z) (sym (append_assoc len body s)))

pub made_as : (seal : Seal) (before n sum : ℕ) (body head tail : List ℕ) → head ≡ head_bytes seal n (length body) → sum ≡ sum_of (batch_summed seal.salt before n body) → tail ≡ u64 sum → head ++ (body ++ tail) ≡ batch_bytes seal before n body
made_as seal before n sum body head tail head_is sum_is tail_is =
    (λ i. head_is i ++ (body ++ (tail_is ∙ ap (λ (s : ℕ). u64 s) sum_is) i)) ∙ made_of_three seal before n body
