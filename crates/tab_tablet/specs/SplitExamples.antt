-- Worked examples, computed: splits, and the rows at which one by size is made.
use Rattle.std.specs.Prelude.{◌≡◌, ℕ, pos, List, [], ◌∷◌, Some, None, codes, refl}
use Rattle.tab_key.specs.Records.{Record}
use Rattle.tab_key.specs.Order.{column_cmp, key_cmp, place_cmp, newer_cmp}
use Rattle.tab_key.specs.declared.key.Kind.TheVariants.{Put}
use Rattle.tab_version.specs.Sources.{size_of}
use Rattle.tab_tablet.specs.Tablets.{Tablet, no_jobs}
use Rattle.tab_tablet.specs.Splitting.{lower_at, upper_at, split_at, middle_row, rows_in}

everything : ℕ
unfolding column_cmp key_cmp place_cmp newer_cmp
everything = 0

-- a put in this row by the mutation with this number
abbrev put : List ℕ → ℕ → Record
put row seq = record { key = record { row = row; family = codes "f"; qualifier = codes "q"; label = []; timestamp = pos 5 }; kind = Put; value = codes "v"; seq = seq; idx = 0 }

abbrev a : List ℕ
a = codes "a"

abbrev b : List ℕ
b = codes "b"

abbrev c : List ℕ
c = codes "c"

abbrev d : List ℕ
d = codes "d"

-- the rows a, b, c and d, a record each: one of them active, two in a run, one in a table of 100 bytes
abbrev four : Tablet
four = record { number = 6; end = None; active = put c 3 ∷ []; sources = record { runs = (put b 1 ∷ put d 2 ∷ []) ∷ []; tables = record { records = put a 0 ∷ []; size = 100 } ∷ [] }; jobs = no_jobs }

-- a tablet of one run
abbrev of_run : List Record → Tablet
of_run us = record { number = 6; end = None; active = []; sources = record { runs = us ∷ []; tables = [] }; jobs = no_jobs }

-- places are counted from 0, and half of an odd number is rounded down
middle_of_four : middle_row (rows_in four) ≡ Some c
unfolding everything
middle_of_four = refl

middle_of_three : middle_row (rows_in (lower_at c 7 four)) ≡ Some b
unfolding everything
middle_of_three = refl

-- of two rows the lower one, since the middle is the greatest
middle_of_two : middle_row (rows_in (lower_at b 7 four)) ≡ Some a
unfolding everything
middle_of_two = refl

-- of one row none, however many records it has
middle_of_one : middle_row (rows_in (upper_at c 7 four)) ≡ None
unfolding everything
middle_of_one = refl

many_of_one : middle_row (rows_in (of_run (put b 2 ∷ put b 1 ∷ put b 0 ∷ []))) ≡ None
unfolding everything
many_of_one = refl

-- records are counted, and not rows
many_of_greatest : middle_row (rows_in (of_run (put a 0 ∷ put b 3 ∷ put b 2 ∷ put b 1 ∷ []))) ≡ Some a
unfolding everything
many_of_greatest = refl

many_of_middle : middle_row (rows_in (of_run (put a 0 ∷ put b 3 ∷ put b 2 ∷ put b 1 ∷ put c 4 ∷ []))) ≡ Some b
unfolding everything
many_of_middle = refl

-- a split's row belongs to the lower tablet
lower_holds : rows_in (lower_at b 7 four) ≡ a ∷ b ∷ []
unfolding everything
lower_holds = refl

upper_holds : rows_in (upper_at b 8 four) ≡ c ∷ d ∷ []
unfolding everything
upper_holds = refl

-- all sources go to both, those without a record there too, and a table keeps its size; what was active is a run; each has a number of
-- its own
split_sources : split_at b 7 four
    ≡ record { number = 7; end = Some b; active = []; sources = record { runs = (put b 1 ∷ []) ∷ [] ∷ []; tables = record { records = put a 0 ∷ []; size = 100 } ∷ [] }; jobs = no_jobs }
    ∷ record { number = 8; end = None; active = []; sources = record { runs = (put d 2 ∷ []) ∷ (put c 3 ∷ []) ∷ []; tables = record { records = []; size = 100 } ∷ [] }; jobs = no_jobs }
    ∷ []
unfolding everything
split_sources = refl

upper_size : size_of (upper_at b 8 four).sources ≡ 100
unfolding everything
upper_size = refl
