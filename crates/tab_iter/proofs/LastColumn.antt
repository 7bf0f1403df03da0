-- A remembered column: its parts in one piece, and the zero byte behind its label.
use Rattle.std.proofs.Common.{◌≡◌, ◌≢◌, ℕ, ◌+◌, ◌-◌, ◌≤◌, ◌<◌, List, [], ◌∷◌, ◌++◌, refl, sym, ◌∙◌, ap, length, take, drop, set, replicate, arith, length-drop, length-append}
use Rattle.std.specs.Prelude.{Option, Some, None, true, false, bytes_eq, ◌&&◌}
use Rattle.std.specs.Cmp.{first_so, second_so}
use Rattle.std.specs.Cmp.Lexicographic.{bytes_decides}
use Rattle.std.specs.List.{slice_range}
use Rattle.std.proofs.Math.Seq.{take-add}
use Rattle.std.proofs.lemmas.List.{take_all, take_at, drop_at, take-take, take-append-le, take_more_set, length-take-le}
use Rattle.std.proofs.lemmas.List.Folds.{drop_split}
use Rattle.tab_key.specs.Kept.{same_column}
use Rattle.tab_key.specs.Records.{Key}
use Rattle.tab_key.specs.Words.{mark_of}
use Rattle.tab_key.proofs.Columns.{four_parts}
use Rattle.tab_cells.proofs.Lists.{by_bool}
use Rattle.tab_iter.specs.Columns.{is_of}
use Rattle.tab_iter.specs.LastColumn.{parts_in, AreEnds, front_of, IsMarked}
use Rattle.tab_iter.specs.declared.last_column.ColumnEnds.{ColumnEnds}

-- the label goes on with the zero byte
pub label_behind : (body : List ℕ) (e : ColumnEnds) → AreEnds body e → slice_range body e.qualifier (length body) ≡ slice_range body e.qualifier e.label ++ 0 ∷ []
label_behind body e are =
    take_all (length body - e.qualifier) (drop e.qualifier body) (omega (arith, length-drop e.qualifier body))
    ∙ drop_split body e.qualifier e.label are.qualifier ∙ ap (λ z. slice_range body e.qualifier e.label ++ z) are.behind

-- what one step puts at the beginning, and the zero byte that goes over the step
pub step_put : (bytes rest : List ℕ) (n : ℕ) → n < 64 → 64 ≤ length bytes → take (n + 1) (set (take 64 bytes ++ rest) n 0) ≡ take n bytes ++ 0 ∷ []
step_put bytes rest n few fits =
    let long : length (take 64 bytes) ≡ 64 = length-take-le 64 bytes fits in
    let within : n < length (take 64 bytes ++ rest) = omega (arith, few, long, length-append (take 64 bytes) rest) in
    take_more_set (take 64 bytes ++ rest) n 0 within
    ∙ ap (λ t. t ++ 0 ∷ []) (take-append-le n (take 64 bytes) rest (omega (arith, long, few)) ∙ take-take n 64 bytes (omega (arith, few)))

-- zeros behind some bytes: the first one
pub zeros_behind : (bytes : List ℕ) → take (length bytes + 1) (bytes ++ replicate 64 0) ≡ bytes ++ 0 ∷ []
zeros_behind bytes =
    let zeros : List ℕ = replicate 64 0 in
    let front : take (length bytes) (bytes ++ zeros) ≡ bytes = take_at bytes zeros (length bytes) refl in
    let behind : take 1 (drop (length bytes) (bytes ++ zeros)) ≡ 0 ∷ [] = ap (take 1) (drop_at bytes zeros (length bytes) refl) in
    take-add (length bytes) 1 (bytes ++ zeros) ∙ (λ i. front i ++ behind i)

-- ---- a column that lies there
upto : (body : List ℕ) (e : ColumnEnds) → AreEnds body e → length body ≡ e.label + 1
upto body e are = omega (arith, length-drop e.label body, ap length are.behind)

width : (body : List ℕ) (i j : ℕ) → i ≤ j → j ≤ length body → length (slice_range body i j) ≡ j - i
width body i j up in_ = length-take-le (j - i) (drop i body) (omega (arith, length-drop i body))

pub row_width : (body : List ℕ) (e : ColumnEnds) → AreEnds body e → length (parts_in body e).row ≡ e.row
row_width body e are =
    let whole : e.row - 0 ≡ e.row = omega arith in
    width body 0 e.row (omega arith) (omega (arith, are.row, are.family, are.qualifier, upto body e are)) ∙ whole

pub family_width : (body : List ℕ) (e : ColumnEnds) → AreEnds body e → length (parts_in body e).family ≡ e.family - e.row
family_width body e are = width body e.row e.family are.row (omega (arith, are.family, are.qualifier, upto body e are))

pub qualifier_width : (body : List ℕ) (e : ColumnEnds) → AreEnds body e → length (parts_in body e).qualifier ≡ e.qualifier - e.family
qualifier_width body e are = width body e.family e.qualifier are.family (omega (arith, are.qualifier, upto body e are))

pub in_one_piece : (body : List ℕ) (e : ColumnEnds) → AreEnds body e → slice_range body 0 e.label ≡ (parts_in body e).row ++ (parts_in body e).family ++ (parts_in body e).qualifier ++ (parts_in body e).label
in_one_piece body e are = four_parts body 0 e.row e.family e.qualifier e.label (omega arith) are.row are.family are.qualifier (omega (arith, upto body e are))

-- ---- columns of different marks
same_front : (a b : Key) → same_column a b ≡ true → front_of a ≡ front_of b
unfolding same_column
same_front a b p =
    let p2 = first_so (bytes_eq a.row b.row && bytes_eq a.family b.family && bytes_eq a.qualifier b.qualifier) (bytes_eq a.label b.label) p in
    let p1 = first_so (bytes_eq a.row b.row && bytes_eq a.family b.family) (bytes_eq a.qualifier b.qualifier) p2 in
    let row = (bytes_decides a.row b.row).0 (first_so (bytes_eq a.row b.row) (bytes_eq a.family b.family) p1) in
    let family = (bytes_decides a.family b.family).0 (second_so (bytes_eq a.row b.row) (bytes_eq a.family b.family) p1) in
    let qualifier = (bytes_decides a.qualifier b.qualifier).0 (second_so (bytes_eq a.row b.row && bytes_eq a.family b.family) (bytes_eq a.qualifier b.qualifier) p2) in
    λ i. row i ++ family i ++ qualifier i

other_marks : (a b : Key) (m n : ℕ) → m ≡ mark_of (front_of a) → n ≡ mark_of (front_of b) → n ≢ m → same_column a b ≡ false
other_marks a b m n p q other = by_bool (same_column a b) (λ e. absurd (other (q ∙ sym (ap mark_of (same_front a b e)) ∙ sym p))) (λ f. f)

pub not_of_marked : (column : Option Key) (mark n : ℕ) (key : Key) → IsMarked mark column → n ≡ mark_of (front_of key) → n ≢ mark → is_of column key ≡ false
not_of_marked None mark n key p q other = refl
not_of_marked (Some k) mark n key p q other = other_marks k key mark n p q other
