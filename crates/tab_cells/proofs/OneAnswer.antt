-- A scan's answer is the one rising list of the shown updates.
use Rattle.std.proofs.Common.{◌≡◌, ℕ, List, ap}
use Rattle.std.specs.Prelude.{filter, map}
use Rattle.tab_key.specs.Records.{Record, cell_of}
use Rattle.tab_key.specs.Sorted.{sorted, IsDistinct}
use Rattle.tab_key.proofs.Rising.{in_from, in_to, same_rising, in_sorted, sorted_in, rising_sorted, distinct_filter, in_filter, filter_in}
use Rattle.tab_cells.specs.Cells.{Query, is_shown, cells, IsAnswerList, OneAnswerList}

-- there is at most one answer
pub one_answer : (us : List Record) (n : ℕ) (q : Query) (xs ys : List Record) → IsAnswerList us n q xs → IsAnswerList us n q ys → xs ≡ ys
one_answer us n q xs ys a b =
    same_rising xs ys a.rising b.rising
    (λ u h. let s = a.sound u (in_to xs u h) in in_from ys u (b.complete u s.0 s.1))
    (λ u h. let s = b.sound u (in_to ys u h) in in_from xs u (a.complete u s.0 s.1))

-- what is computed is the answer
pub computed_answer : (us : List Record) (n : ℕ) (q : Query) → IsDistinct us → IsAnswerList us n q (sorted (filter (is_shown us n q) us))
computed_answer us n q d = record {
  rising = rising_sorted (filter (is_shown us n q) us) (distinct_filter (is_shown us n q) us d);
  sound = λ u c. let k = in_filter (is_shown us n q) us u (in_sorted (filter (is_shown us n q) us) u (in_from _ u c)) in (in_to us u k.0, k.1);
  complete = λ u c e. in_to _ u (sorted_in (filter (is_shown us n q) us) u (filter_in (is_shown us n q) us u (in_from us u c) e));
}

-- so a list that is the answer shows the cells
pub cells_of_answer : (us : List Record) (n : ℕ) (q : Query) (xs : List Record) → IsDistinct us → IsAnswerList us n q xs → map cell_of xs ≡ cells us n q
unfolding cells
cells_of_answer us n q xs d a = ap (map cell_of) (one_answer us n q xs _ a (computed_answer us n q d))

pub one_answer_list : OneAnswerList
one_answer_list us n q d =
    let xs : List Record = sorted (filter (is_shown us n q) us) in
    let a : IsAnswerList us n q xs = computed_answer us n q d in
    (xs, a, cells_of_answer us n q xs d a, λ ys b. one_answer us n q ys xs b a)
