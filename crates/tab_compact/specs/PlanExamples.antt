-- Worked examples, computed: how many of the smallest tables are merged.
use Rattle.std.specs.Prelude.{◌≡◌, [], ◌∷◌, Some, None, refl}
use Rattle.tab_compact.specs.Plans.{plan}

-- three small tables would do, and six do too
takes_the_greatest : plan (1 ∷ 1 ∷ 1 ∷ 9 ∷ 9 ∷ 9 ∷ []) ≡ Some 6
unfolding plan
takes_the_greatest = refl

-- where a later number doesn't fit, an earlier one counts
passes_over_what_does_not_fit : plan (1 ∷ 1 ∷ 1 ∷ 9 ∷ []) ≡ Some 3
unfolding plan
passes_over_what_does_not_fit = refl

-- two empty ones
two_empty_ones : plan (0 ∷ 0 ∷ []) ≡ Some 2
unfolding plan
two_empty_ones = refl

-- two that aren't empty never fit, three of one size do
two_of_some_size : plan (4 ∷ 5 ∷ []) ≡ None
unfolding plan
two_of_some_size = refl

three_of_one_size : plan (45 ∷ 45 ∷ 45 ∷ []) ≡ Some 3
unfolding plan
three_of_one_size = refl

-- one is none, even an empty one
one_alone : plan (7 ∷ []) ≡ None
unfolding plan
one_alone = refl

one_empty_one : plan (0 ∷ []) ≡ None
unfolding plan
one_empty_one = refl

nothing_at_all : plan [] ≡ None
unfolding plan
nothing_at_all = refl
