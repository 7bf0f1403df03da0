use Rattle.std.proofs.Common.{◌≡◌, ◌+◌, ◌<◌, ◌≤◌, ◌++◌, ◌∷◌, [], List, ℕ, refl, sym, ◌∙◌, ap, length, arith, append_assoc, append-nil}
use Rattle.std.specs.Prelude.{Some, None}
use Rattle.tab_key.specs.Records.{Record}
use Rattle.tab_iter.specs.Lists.{first_of, tail}
use Rattle.tab_mem.specs.Cursors.{rest}
use Rattle.tests_engine.proofs.writing.records_of.Goals as goal
use Rattle.tests_engine.proofs.writing.records_of.Goals.{in-Some+in_ok-push, in_default}

-- one more record was read
passed : (read left now later w : List Record) (u : Record) → Some u ≡ first_of left → now ≡ read ++ u ∷ [] → later ≡ tail left → read ++ left ≡ w → now ++ later ≡ w
passed read [] now later w u f n l e = absurd (let bad : Some u ≡ None = f in cc)
passed read (x ∷ xs) now later w u f n l e =
    let first : u ≡ x = cc in
    (λ i. n i ++ l i) ∙ append_assoc read (u ∷ []) xs ∙ ap (λ v. read ++ v ∷ xs) first ∙ e

counted : (n : ℕ) (left later w : List Record) (u : Record) → Some u ≡ first_of left → later ≡ tail left → n + length left ≡ length w → n + 1 + length later ≡ length w
counted n [] later w u f l e = absurd (let bad : Some u ≡ None = f in cc)
counted n (x ∷ xs) later w u f l e = omega (arith, e, ap length l)

not_ended : (n : ℕ) (left w : List Record) → None ≡ first_of left → n + length left ≡ length w → n < length w → ⊥
not_ended n [] w f e lt = absurd (omega (arith, e, lt))
not_ended n (x ∷ xs) w f e lt = let bad : None ≡ Some x = f in cc

all_read : (n m : ℕ) (read left w : List Record) → read ++ left ≡ w → n + length left ≡ length w → m ≡ length w → m ≤ n → read ≡ w
all_read n m read [] w e many is over = sym (append-nil read) ∙ e
all_read n m read (x ∷ xs) w e many is over = absurd (omega (arith, many, is, over))

pub loop-preserved : goal.loop-preserved
loop-preserved c =
    let left = rest c.loop.cursor in
    let later : rest c.advance.new.self ≡ tail left = c.in_ok-advance.ensures.rest in
    elim c.match-top.branch [
      | in-Some+in_ok-push w ↦ record {
        all = passed c.loop.records.items left _ _ _ w.in-Some.record w.in-Some.ensures (ap (λ v. v.items) w.records-is ∙ w.in_ok-push.ensures.items) later c.loop.invariant.all;
        many = counted c.loop.counter left _ _ w.in-Some.record w.in-Some.ensures later c.loop.invariant.many;
      }
      | in_default w ↦ absurd (not_ended c.loop.counter left _ (sym w.in_default.is ∙ c.top.ensures) c.loop.invariant.many (omega (arith, c.loop-test.true, c.len-end.ensures.len)))
    ]

pub returns : goal.returns
returns c = all_read c.loop.counter c.len-end.result c.loop.records.items (rest c.loop.cursor) c.args.clip.now c.loop.invariant.all c.loop.invariant.many c.len-end.ensures.len c.loop-test.false
