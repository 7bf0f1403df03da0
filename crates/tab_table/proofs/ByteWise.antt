-- A byte of a part of a record, whose first bytes are those of another one.
use Rattle.std.proofs.Common.{◌≡◌, ◌≢◌, ℕ, zero, suc, ◌+◌, ◌-◌, ◌<◌, ◌≤◌, List, [], ◌∷◌, ◌++◌, Bool, true, false, ◌&&◌, refl, sym, ◌∙◌, ap, length, take, drop, get_or, arith, add-one}
use Rattle.std.specs.Prelude.{◌==◌, bytes_eq}
use Rattle.std.specs.Ordering.{int_eq}
use Rattle.std.proofs.Math.Seq.{drop-nil}
use Rattle.tab_key.specs.Encoding.{length_at, record_at}
use Rattle.tab_key.specs.Records.{Key, Record}
use Rattle.tab_key.specs.Kept.{same_column}
use Rattle.tab_key.specs.Order.{kind_rank}
use Rattle.tab_key.specs.Same.{same_record}
use Rattle.tab_table.specs.Blocks.{entry_at, IsEntry}
use Rattle.tab_table.specs.PartBytes.{part_of, offset_of, IsRestOf, same_but_column}
use Rattle.tab_table.specs.declared.part_bytes.KeyPart.{KeyPart}
use Rattle.tab_table.specs.declared.part_bytes.KeyPart.TheVariants.{Row, Family, Qualifier, Label}

rest_byte : (c : ℕ) (xs ys : List ℕ) (i : ℕ) → c ≤ length xs → c ≤ i → get_or (take c xs ++ ys) i 0 ≡ get_or ys (i - c) 0
rest_byte zero xs ys i le up = ap (λ k. get_or ys k 0) (omega arith)
rest_byte (suc c) [] ys i le up = absurd (omega (arith, le))
rest_byte (suc c) (x ∷ xs) ys zero le up = absurd (omega (arith, up))
rest_byte (suc c) (x ∷ xs) ys (suc i) le up = rest_byte c xs ys i (omega (arith, le)) (omega (arith, up)) ∙ ap (λ k. get_or ys k 0) (omega arith)

-- the parts of an entry's key
part_is : (part : KeyPart) (base : Key) (body : List ℕ) (p : ℕ) → part_of part (entry_at base body p).key ≡ take (length_at body (p + offset_of part)) (part_of part base) ++ part_of part (record_at body (p + 16)).key
part_is Row base body p = let same : p ≡ p + 0 = omega arith in ap (λ q. take (length_at body q) base.row ++ (record_at body (p + 16)).key.row) same
part_is Family base body p = refl
part_is Qualifier base body p = refl
part_is Label base body p = refl

part_inside : (part : KeyPart) (base : Key) (body : List ℕ) (p : ℕ) → IsEntry base body p → length_at body (p + offset_of part) ≤ length (part_of part base)
part_inside Row base body p e = let same : p + 0 ≡ p = omega arith in omega (arith, e.row, ap (length_at body) same)
part_inside Family base body p e = e.family
part_inside Qualifier base body p e = e.qualifier
part_inside Label base body p e = e.label

pub byte_behind : (part : KeyPart) (base : Key) (body : List ℕ) (p i : ℕ) → IsEntry base body p → length_at body (p + offset_of part) ≤ i → get_or (part_of part (entry_at base body p).key) i 0 ≡ get_or (part_of part (record_at body (p + 16)).key) (i - length_at body (p + offset_of part)) 0
byte_behind part base body p i e le = ap (λ xs. get_or xs i 0) (part_is part base body p) ∙ rest_byte (length_at body (p + offset_of part)) (part_of part base) (part_of part (record_at body (p + 16)).key) i (part_inside part base body p e) le

-- ---- byte strings that are compared byte by byte
bytes_there : (a b : List ℕ) (i : ℕ) → i < length a → i < length b → bytes_eq (drop i a) (drop i b) ≡ ((get_or a i 0 == get_or b i 0) && bytes_eq (drop (suc i) a) (drop (suc i) b))
bytes_there [] b i la lb = absurd (omega (arith, la))
bytes_there (x ∷ a) [] i la lb = absurd (omega (arith, lb))
bytes_there (x ∷ a) (y ∷ b) zero la lb = refl
bytes_there (x ∷ a) (y ∷ b) (suc i) la lb = bytes_there a b i (omega (arith, la)) (omega (arith, lb))

pub bytes_next : (a b : List ℕ) (i : ℕ) → i < length a → i < length b → bytes_eq (drop i a) (drop i b) ≡ ((get_or a i 0 == get_or b i 0) && bytes_eq (drop (i + 1) a) (drop (i + 1) b))
bytes_next a b i la lb = rw add-one (bytes_there a b i la lb)

pub bytes_ended : (a b : List ℕ) (i : ℕ) → length a ≤ i → length b ≤ i → bytes_eq (drop i a) (drop i b) ≡ true
bytes_ended [] [] zero la lb = refl
bytes_ended [] [] (suc i) la lb = refl
bytes_ended [] (y ∷ b) zero la lb = absurd (omega (arith, lb))
bytes_ended [] (y ∷ b) (suc i) la lb = ap (λ xs. bytes_eq xs (drop i b)) (sym (drop-nil i)) ∙ bytes_ended [] b i (omega arith) (omega (arith, lb))
bytes_ended (x ∷ a) b zero la lb = absurd (omega (arith, la))
bytes_ended (x ∷ a) [] (suc i) la lb = ap (bytes_eq (drop i a)) (sym (drop-nil i)) ∙ bytes_ended a [] i (omega (arith, la)) (omega arith)
bytes_ended (x ∷ a) (y ∷ b) (suc i) la lb = bytes_ended a b i (omega (arith, la)) (omega (arith, lb))

and_false : (v : Bool) → (v && false) ≡ false
and_false true = refl
and_false false = refl

pub bytes_differ : (a b : List ℕ) → length a ≢ length b → bytes_eq a b ≡ false
bytes_differ [] [] n = absurd (n refl)
bytes_differ [] (y ∷ b) n = refl
bytes_differ (x ∷ a) [] n = refl
bytes_differ (x ∷ a) (y ∷ b) n = ap (λ v. (x == y) && v) (bytes_differ a b (λ e. n (ap suc e))) ∙ and_false (x == y)

-- ---- the record of which all is known
pub same_by : (columns : Bool) (here there a b : Record) → IsRestOf here a → IsRestOf there b → columns ≡ same_column a.key b.key → same_but_column columns here there ≡ same_record a b
unfolding same_record
same_by columns here there a b h k e = λ i. e i && int_eq (h.timestamp i) (k.timestamp i) && kind_rank (h.kind i) == kind_rank (k.kind i) && bytes_eq (h.value i) (k.value i) && h.seq i == k.seq i && h.idx i == k.idx i

pub columns_are : (rows families qualifiers labels : Bool) (a b : Key) → rows ≡ bytes_eq a.row b.row → families ≡ bytes_eq a.family b.family → qualifiers ≡ bytes_eq a.qualifier b.qualifier → labels ≡ bytes_eq a.label b.label → (rows && families && qualifiers && labels) ≡ same_column a b
unfolding same_column
columns_are rows families qualifiers labels a b e f g h = λ i. e i && f i && g i && h i
