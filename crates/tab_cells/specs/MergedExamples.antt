-- Worked examples, computed: what a merge keeps.
use Rattle.std.specs.Prelude.{◌≡◌, ℕ, ℤ, pos, List, [], ◌∷◌, true, false, codes, refl}
use Rattle.tab_key.specs.Records.{Key, Record}
use Rattle.tab_key.specs.Order.{column_cmp, key_cmp, place_cmp, newer_cmp}
use Rattle.tab_key.specs.Kept.{same_column, hides, is_deleted, outranks, is_kept}
use Rattle.tab_key.specs.declared.key.Kind.TheVariants.{Delete, Put}
use Rattle.tab_cells.specs.Merged.{is_first_marker, survives, merged}

everything : ℕ
unfolding column_cmp key_cmp place_cmp newer_cmp same_column hides is_deleted outranks is_kept is_first_marker survives merged
everything = 0

-- a key of row r, family f, qualifier q
abbrev at : List ℕ → ℤ → Key
at label timestamp = record { row = codes "r"; family = codes "f"; qualifier = codes "q"; label = label; timestamp = timestamp }

-- a put of the value v under the empty label, by the mutation with this number
abbrev put : ℤ → ℕ → Record
put timestamp seq = record { key = at [] timestamp; kind = Put; value = codes "v"; seq = seq; idx = 0 }

-- the same under another label
abbrev put_under : List ℕ → ℤ → ℕ → Record
put_under label timestamp seq = record { key = at label timestamp; kind = Put; value = codes "v"; seq = seq; idx = 0 }

-- a delete marker of that mutation under the empty label
abbrev marker : ℤ → ℕ → Record
marker timestamp seq = record { key = at [] timestamp; kind = Delete; value = []; seq = seq; idx = 0 }

-- of two markers the first stays; what they hide doesn't
first_marker_stays : merged (put (pos 4) 1 ∷ marker (pos 3) 2 ∷ marker (pos 5) 0 ∷ put (pos 3) 3 ∷ []) false (pos 0) 2 ≡ marker (pos 5) 0 ∷ []
unfolding everything
first_marker_stays = refl

-- of two markers at one timestamp it is that of the later mutation
later_marker_stays : merged (marker (pos 5) 0 ∷ marker (pos 5) 1 ∷ []) false (pos 0) 1 ≡ marker (pos 5) 1 ∷ []
unfolding everything
later_marker_stays = refl

-- what lies above the first marker stays
shows_above : merged (marker (pos 5) 0 ∷ put (pos 6) 1 ∷ put (pos 5) 2 ∷ []) false (pos 0) 2 ≡ put (pos 6) 1 ∷ marker (pos 5) 0 ∷ []
unfolding everything
shows_above = refl

-- a full merge drops a marker below the floor, with what it hid
drops_below_floor : merged (marker (pos 5) 0 ∷ put (pos 4) 1 ∷ put (pos 6) 2 ∷ []) true (pos 6) 2 ≡ put (pos 6) 2 ∷ []
unfolding everything
drops_below_floor = refl

-- and none at the floor
keeps_at_floor : merged (marker (pos 5) 0 ∷ put (pos 4) 1 ∷ []) true (pos 5) 2 ≡ marker (pos 5) 0 ∷ []
unfolding everything
keeps_at_floor = refl

-- where the first marker goes, no later one stays in its place
drops_all_markers : merged (marker (pos 5) 0 ∷ marker (pos 3) 1 ∷ []) true (pos 6) 1 ≡ []
unfolding everything
drops_all_markers = refl

-- another merge keeps it below the floor
partial_keeps : merged (marker (pos 5) 0 ∷ put (pos 4) 1 ∷ []) false (pos 6) 2 ≡ marker (pos 5) 0 ∷ []
unfolding everything
partial_keeps = refl

-- of four puts the newest two
newest_stay : merged (put (pos 5) 0 ∷ put (pos 7) 1 ∷ put (pos 5) 2 ∷ put (pos 4) 3 ∷ []) false (pos 0) 2 ≡ put (pos 7) 1 ∷ put (pos 5) 2 ∷ []
unfolding everything
newest_stay = refl

-- with no versions only markers
no_versions : merged (put (pos 5) 0 ∷ marker (pos 4) 1 ∷ []) false (pos 0) 0 ≡ marker (pos 4) 1 ∷ []
unfolding everything
no_versions = refl

-- labels are apart: a marker hides nothing of another label's, and versions are counted for each
labels_are_apart : merged (marker (pos 5) 0 ∷ put_under (codes "A") (pos 4) 1 ∷ put_under (codes "A") (pos 3) 2 ∷ put_under (codes "(A)") (pos 2) 3 ∷ []) false (pos 0) 1 ≡ marker (pos 5) 0 ∷ put_under (codes "(A)") (pos 2) 3 ∷ put_under (codes "A") (pos 4) 1 ∷ []
unfolding everything
labels_are_apart = refl
