-- One size more, and the whole.
use Rattle.std.proofs.Common.{◌≡◌, ℕ, ◌+◌, ◌*◌, ◌^◌, ◌<◌, ◌≤◌, List, length, true, false, ◌&&◌, cond, sym, ◌∙◌, ap, arith, take, get_or}
use Rattle.std.specs.Prelude.{Some, nat_le, sum}
use Rattle.std.proofs.lemmas.Bool.Decides.{nat_tests}
use Rattle.std.proofs.lemmas.List.Sums.{sum_by_more}
use Rattle.tab_cells.proofs.Lists.{and_false}
use Rattle.tab_compact.specs.Plans.{plan, greatest, fits}
use Rattle.tab_compact.proofs.Plans.{fits_more, greatest_more}
use Rattle.tab_compact.proofs.planning.plan.Goals as goal
use Rattle.tab_compact.proofs.planning.plan.Goals.{then-i-gt0+then-largest-sum, else-i-gt0, else-i-gt0-via-then-i-gt0+else-largest-sum, else-i-gt0-via-else-i-gt0}

fits_now : (xs : List ℕ) (i : ℕ) → nat_le 1 i ≡ true → fits xs (i + 1) ≡ true → Some (i + 1) ≡ greatest xs (i + 1)
fits_now xs i two fit = sym (greatest_more xs i ∙ (λ j. cond (two j && fit j) (Some (i + 1)) (greatest xs i)))

fits_not : (xs : List ℕ) (i : ℕ) → fits xs (i + 1) ≡ false → greatest xs i ≡ greatest xs (i + 1)
fits_not xs i fit = sym (greatest_more xs i ∙ ap (λ v. cond (nat_le 1 i && v) (Some (i + 1)) (greatest xs i)) fit ∙ ap (λ v. cond v (Some (i + 1)) (greatest xs i)) (and_false (nat_le 1 i)))

one_alone : (xs : List ℕ) (i : ℕ) → nat_le 1 i ≡ false → greatest xs i ≡ greatest xs (i + 1)
one_alone xs i one = sym (greatest_more xs i ∙ ap (λ v. cond (v && fits xs (i + 1)) (Some (i + 1)) (greatest xs i)) one)

is_le : (a b : ℕ) → a ≤ b → nat_le a b ≡ true
is_le a b le = grind (arith, nat_tests)

is_above : (a b : ℕ) → b < a → nat_le a b ≡ false
is_above a b lt = grind (arith, nat_tests)

pub loop-i-preserved : goal.loop-i-preserved
loop-i-preserved c =
    let sizes = c.args.sizes.now in
    let i = c.loop-i.i in
    let size = c.from-largest.result in
    let lt : i < length sizes = omega arith in
    let item : size ≡ get_or sizes i 0 = c.from-largest.ensures in
    let more : sum (take (i + 1) sizes) ≡ sum (take i sizes) + get_or sizes i 0 = sum_by_more (λ x. x) sizes i 0 lt in
    let small : size < 2 ^ 64 = omega arith in
    let summed : c.loop-i.sum + size ≡ sum (take i sizes) + get_or sizes i 0 = omega (arith, item, c.loop-i.invariant.summed) in
    let decides : nat_le (3 * size) (c.loop-i.sum + size) ≡ fits sizes (i + 1) = ap (λ n. nat_le (3 * n) (c.loop-i.sum + size)) item ∙ fits_more sizes c.requires i 0 (c.loop-i.sum + size) lt summed in
    record {
      summed = summed ∙ sym more;
      small = omega (arith, small, c.loop-i.invariant.small);
      fitting = elim c.if-i-gt0.branch [
        | then-i-gt0+then-largest-sum w ↦ w.fitting-is ∙ fits_now sizes i (is_le 1 i (omega (arith, w.if-i-gt0.true))) (sym decides ∙ is_le (3 * size) (c.loop-i.sum + size) (omega (arith, w.if-largest-sum.true)))
        | else-i-gt0 w ↦ w.fitting-is ∙ c.loop-i.invariant.fitting ∙ elim w.else-i-gt0.branch [
          | else-i-gt0-via-then-i-gt0+else-largest-sum v ↦ fits_not sizes i (sym decides ∙ is_above (3 * size) (c.loop-i.sum + size) (omega (arith, v.if-largest-sum.false)))
          | else-i-gt0-via-else-i-gt0 v ↦ one_alone sizes i (is_above 1 i (omega (arith, v.if-i-gt0.false)))
        ]
      ];
    }

pub returns : goal.returns
unfolding plan
returns c =
    let end : c.loop-i.i ≡ length c.args.sizes.now = omega arith in
    c.loop-i.invariant.fitting ∙ ap (greatest c.args.sizes.now) end
