-- Worked examples of the definitions, computed.
use Rattle.std.specs.Prelude.{◌≡◌, ◌+◌, ◌*◌, ℕ, ℤ, pos, List, [], ◌∷◌, true, false, codes, filter, refl}
use Rattle.tab_key.specs.Records.{Key, Record}
use Rattle.tab_key.specs.Order.{column_cmp, key_cmp, place_cmp, newer_cmp}
use Rattle.tab_key.specs.Kept.{same_column, hides, is_deleted, outranks, is_kept}
use Rattle.tab_key.specs.Sorted.{sorted}
use Rattle.tab_key.specs.Ranges.{is_bad_range, is_in_range}
use Rattle.tab_key.specs.Columns.{is_selected}
use Rattle.tab_key.specs.Words.{word_of, mark_of}
use Rattle.tab_key.specs.declared.key.Kind.TheVariants.{Delete, Put}
use Rattle.tab_key.specs.declared.range.Bound.TheVariants.{Unbounded, Inclusive, Exclusive}
use Rattle.tab_key.specs.declared.column.Column.TheVariants.{Family, Qualified}

everything : ℕ
unfolding column_cmp key_cmp place_cmp newer_cmp same_column hides is_deleted outranks is_kept word_of mark_of
everything = 0

-- a key of row r, family f, qualifier q
abbrev at : List ℕ → ℤ → Key
at label timestamp = record { row = codes "r"; family = codes "f"; qualifier = codes "q"; label = label; timestamp = timestamp }

-- a put of the value v by the mutation with this number
abbrev put : List ℕ → ℤ → ℕ → Record
put label timestamp seq = record { key = at label timestamp; kind = Put; value = codes "v"; seq = seq; idx = 0 }

-- a delete marker of that mutation
abbrev marker : List ℕ → ℤ → ℕ → Record
marker label timestamp seq = record { key = at label timestamp; kind = Delete; value = []; seq = seq; idx = 0 }

-- the greater timestamp first, at one timestamp the marker, then the greater number
order_of_one_column : sorted (put [] (pos 5) 1 ∷ put [] (pos 5) 2 ∷ marker [] (pos 5) 0 ∷ put [] (pos 6) 0 ∷ []) ≡ put [] (pos 6) 0 ∷ marker [] (pos 5) 0 ∷ put [] (pos 5) 2 ∷ put [] (pos 5) 1 ∷ []
unfolding everything
order_of_one_column = refl

-- labels are compared as bytes, a beginning first
order_of_labels : sorted (put (codes "B") (pos 9) 0 ∷ put (codes "AB") (pos 1) 1 ∷ put (codes "A") (pos 1) 2 ∷ put [] (pos 0) 3 ∷ []) ≡ put [] (pos 0) 3 ∷ put (codes "A") (pos 1) 2 ∷ put (codes "AB") (pos 1) 1 ∷ put (codes "B") (pos 9) 0 ∷ []
unfolding everything
order_of_labels = refl

-- a marker hides what lies at or below it
hides_below : hides (marker [] (pos 5) 0) (put [] (pos 4) 1) ≡ true
unfolding everything
hides_below = refl

hides_beside : hides (marker [] (pos 5) 0) (put [] (pos 5) 1) ≡ true
unfolding everything
hides_beside = refl

-- but not what lies above it, nor what another column has, and a put hides nothing
shows_above : hides (marker [] (pos 5) 1) (put [] (pos 6) 0) ≡ false
unfolding everything
shows_above = refl

shows_other_column : hides (marker (codes "A") (pos 5) 0) (put (codes "(A)") (pos 4) 1) ≡ false
unfolding everything
shows_other_column = refl

put_hides_nothing : hides (put [] (pos 5) 1) (put [] (pos 4) 0) ≡ false
unfolding everything
put_hides_nothing = refl

-- puts with equal keys are two versions, of which the later is the newer
abbrev twice : List Record
twice = put [] (pos 5) 0 ∷ put [] (pos 5) 1 ∷ []

two_versions : filter (is_kept twice 2) twice ≡ twice
unfolding everything
two_versions = refl

one_version : filter (is_kept twice 1) twice ≡ put [] (pos 5) 1 ∷ []
unfolding everything
one_version = refl

-- a hidden put takes no version's place
abbrev hidden : List Record
hidden = marker [] (pos 5) 2 ∷ put [] (pos 5) 1 ∷ put [] (pos 6) 0 ∷ []

kept_above_marker : filter (is_kept hidden 1) hidden ≡ put [] (pos 6) 0 ∷ []
unfolding everything
kept_above_marker = refl

-- a range of one row needs both its ends
one_row : is_bad_range (Inclusive (codes "a")) (Inclusive (codes "a")) ≡ false
one_row = refl

no_row : is_bad_range (Inclusive (codes "a")) (Exclusive (codes "a")) ≡ true
no_row = refl

backwards : is_bad_range (Inclusive (codes "b")) (Inclusive (codes "a")) ≡ true
backwards = refl

-- no row lies between a and what follows it, and yet that is a range
follows : is_bad_range (Exclusive (codes "a")) (Exclusive (codes "ab")) ≡ false
follows = refl

endless : is_bad_range (Exclusive (codes "a")) Unbounded ≡ false
endless = refl

exclusive_end : is_in_range (record { low = Inclusive (codes "a"); high = Exclusive (codes "b") }) (codes "b") ≡ false
exclusive_end = refl

inclusive_start : is_in_range (record { low = Inclusive (codes "a"); high = Exclusive (codes "b") }) (codes "a") ≡ true
inclusive_start = refl

-- no columns are all columns; a family takes each of its qualifiers
all_columns : is_selected [] (at [] (pos 0)) ≡ true
all_columns = refl

whole_family : is_selected (Family (codes "f") ∷ []) (at [] (pos 0)) ≡ true
whole_family = refl

other_qualifier : is_selected (Qualified (codes "f") (codes "p") ∷ []) (at [] (pos 0)) ≡ false
other_qualifier = refl

-- no bytes are the one alone, and a byte more is a digit more
words : (word_of [] ≡ 1) × (word_of (codes "A") ≡ 256 + 65) × (word_of (codes "A&B") ≡ 16777216 + 65 * 65536 + 38 * 256 + 66)
unfolding word_of
words = (refl, refl, refl)

-- the last eight bytes decide a mark, and fewer have none
marks : (mark_of (codes "f01q02") ≡ 0) × (mark_of (codes "r1f001q002") ≡ mark_of (codes "r2f001q002"))
unfolding mark_of
marks = (refl, refl)
