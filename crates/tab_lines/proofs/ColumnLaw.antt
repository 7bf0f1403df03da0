-- Columns are exactly what is read of their words.
use Rattle.std.proofs.Common.{ℕ, suc, ◌≡◌, ◌+◌, ◌≤◌, ◌<◌, ◌==◌, Bool, true, false, cond, not, List, [], ◌∷◌, ◌++◌, length, take, drop, get_or, refl, sym, ap, ◌∙◌, subst, arith, drop-cons, Some, None, Option}
use Rattle.std.specs.Prelude.{nat_lt, ◌&&◌, position}
use Rattle.std.specs.List.{list_all, prefix_len}
use Rattle.std.specs.Option.{option_map, option_and_then}
use Rattle.std.proofs.lemmas.Bool.{ltb-false, lt-ltb, le-ltb}
use Rattle.std.proofs.lemmas.List.{take-append-drop}
use Rattle.std.proofs.lemmas.List.Quantifiers.{position-Some}
use Rattle.std.proofs.lemmas.Bool.Decides.{nat_tests}
use Rattle.std.proofs.Math.Seq.{take-append_seam}
use Rattle.tab_key.specs.declared.column.Column.{Column}
use Rattle.tab_key.specs.declared.column.Column.TheVariants.{Family, Qualified}
use Rattle.tab_text.specs.Reading.{bytes_of}
use Rattle.tab_lines.specs.Fields.{is_colon, column_at, column_of, columns_of}
use Rattle.tab_lines.specs.Forms.{IsList, IsColumn}
use Rattle.tab_lines.proofs.WordLaw.{words_read}
use Rattle.tab_lines.proofs.ListLaw.{list_sound, list_complete, none_spells}
use Rattle.tab_lines.proofs.Inverting.{ReadsExactly, on_map, on_then}

abbrev is_other : ℕ → Bool
is_other b = not (b == 58)

-- how many bytes stand before the first colon
abbrev before : List ℕ → ℕ
before = prefix_len is_other

all_before : (xs : List ℕ) → list_all is_other xs ≡ true → before xs ≡ length xs
all_before [] all = refl
all_before (x ∷ xs) all =
    elim (is_other x) as (λ b. (b && list_all is_other xs) ≡ true → cond b (1 + before xs) 0 ≡ suc (length xs)) [
      | true ↦ λ e. let h = all_before xs e in omega arith
      | false ↦ λ e. absurd cc
    ] all

before_all : (xs : List ℕ) → length xs ≤ before xs → list_all is_other xs ≡ true
before_all [] le = refl
before_all (x ∷ xs) le =
    elim (is_other x) as (λ b. suc (length xs) ≤ cond b (1 + before xs) 0 → (b && list_all is_other xs) ≡ true) [
      | true ↦ λ e. before_all xs (omega arith)
      | false ↦ λ e. absurd (omega arith)
    ] le

front_all : (xs : List ℕ) → list_all is_other (take (before xs) xs) ≡ true
front_all [] = refl
front_all (x ∷ xs) =
    let more : 1 + before xs ≡ suc (before xs) = omega arith in
    elim (is_other x) as (λ b. is_other x ≡ b → list_all is_other (take (cond b (1 + before xs) 0) (x ∷ xs)) ≡ true) [
      | true ↦ λ is. rw more (ap (λ b. b && list_all is_other (take (before xs) xs)) is ∙ front_all xs)
      | false ↦ λ is. refl
    ] refl

before_seam : (front back : List ℕ) → list_all is_other front ≡ true → before (front ++ 58 ∷ back) ≡ length front
before_seam [] back all = refl
before_seam (x ∷ xs) back all =
    elim (is_other x) as (λ b. (b && list_all is_other xs) ≡ true → cond b (1 + before (xs ++ 58 ∷ back)) 0 ≡ suc (length xs)) [
      | true ↦ λ e. let h = before_seam xs back e in omega arith
      | false ↦ λ e. absurd cc
    ] all

-- what stands behind the colon
behind_seam : (front back : List ℕ) → drop (length front + 1) (front ++ 58 ∷ back) ≡ back
behind_seam [] back = refl
behind_seam (x ∷ xs) back = let e : suc (length xs) + 1 ≡ suc (length xs + 1) = omega arith in rw e (behind_seam xs back)

-- the length up to the colon is within the text
before_lt : (front back : List ℕ) → length front < length (front ++ 58 ∷ back)
before_lt [] back = omega arith
before_lt (x ∷ xs) back = let h = before_lt xs back in omega arith

-- the text parted at its first colon
parted : (part : List ℕ) → before part < length part → part ≡ take (before part) part ++ (58 ∷ drop (before part + 1) part)
parted part lt =
    let at : ℕ = before part in
    let found : position is_colon part ≡ Some at = ap (λ b. cond b (Some at) None) (lt-ltb at (length part) lt) in
    let test : (get_or part at 0 == 58) ≡ true = (position-Some is_colon part at 0 found).1 in
    let colon : get_or part at 0 ≡ 58 = grind (arith, nat_tests) in
    let one : suc at ≡ at + 1 = omega arith in
    sym (take-append-drop at part)
    ∙ ap (λ (t : List ℕ). take at part ++ t) (drop-cons part at 0 lt ∙ ap (λ (c : ℕ). c ∷ drop (suc at) part) colon ∙ ap (λ (n : ℕ). 58 ∷ drop n part) one)

column_sound : (part : List ℕ) (column : Column) → column_of part ≡ Some column → IsColumn part column
unfolding column_of
column_sound part column is =
    let at : ℕ = before part in
    elim (nat_lt at (length part)) as (λ b. nat_lt at (length part) ≡ b → column_at (cond b (Some at) None) part ≡ Some column → IsColumn part column) [
      | true ↦ λ yes e.
          let lt : at < length part = grind (arith, nat_tests) in
          on_then (λ family. option_map (λ qualifier. Qualified family qualifier) (bytes_of (drop (at + 1) part))) (bytes_of (take at part)) column (IsColumn part column) e (λ family read1 more.
          on_map (λ qualifier. Qualified family qualifier) (bytes_of (drop (at + 1) part)) column (IsColumn part column) more (λ qualifier read2 is'.
          subst (λ (c : Column). IsColumn part c) is' (take at part, drop (at + 1) part, parted part lt, front_all part, words_read.sound (take at part) family read1, words_read.sound (drop (at + 1) part) qualifier read2)))
      | false ↦ λ no e.
          on_map (λ family. Family family) (bytes_of part) column (IsColumn part column) e (λ family read is'.
          subst (λ (c : Column). IsColumn part c) is' (before_all part (ltb-false at (length part) no), words_read.sound part family read))
    ] refl is

column_complete : (part : List ℕ) (column : Column) → IsColumn part column → column_of part ≡ Some column
unfolding column_of
column_complete part (Family family) is =
    let len : before part ≡ length part = all_before part is.0 in
    let none : nat_lt (before part) (length part) ≡ false = le-ltb (before part) (length part) (omega arith) in
    ap (λ b. column_at (cond b (Some (before part)) None) part) none
    ∙ ap (λ (o : Option (List ℕ)). option_map (λ family. Family family) o) (words_read.complete part family is.1)
column_complete part (Qualified family qualifier) (front, back, e, none, is1, is2) =
    let whole : List ℕ = front ++ 58 ∷ back in
    let len : before whole ≡ length front = before_seam front back none in
    let some : nat_lt (before whole) (length whole) ≡ true = ap (λ (n : ℕ). nat_lt n (length whole)) len ∙ lt-ltb (length front) (length whole) (before_lt front back) in
    let read1 : bytes_of (take (length front) whole) ≡ Some family = ap (λ (t : List ℕ). bytes_of t) (take-append_seam front (58 ∷ back)) ∙ words_read.complete front family is1 in
    let read2 : bytes_of (drop (length front + 1) whole) ≡ Some qualifier = ap (λ (t : List ℕ). bytes_of t) (behind_seam front back) ∙ words_read.complete back qualifier is2 in
    ap (λ (t : List ℕ). column_of t) e
    ∙ ap (λ b. column_at (cond b (Some (before whole)) None) whole) some
    ∙ ap (λ (n : ℕ). column_at (Some n) whole) len
    ∙ ap (λ (o : Option (List ℕ)). option_and_then (λ f. option_map (λ q. Qualified f q) (bytes_of (drop (length front + 1) whole))) o) read1
    ∙ ap (λ (o : Option (List ℕ)). option_map (λ q. Qualified family q) o) read2

column_read : ReadsExactly column_of IsColumn
column_read = record { sound = column_sound; complete = column_complete }

-- \0 is no column
none_column : column_of (92 ∷ 48 ∷ []) ≡ None
unfolding column_of
none_column = ap (λ (o : Option (List ℕ)). option_map (λ f. Family f) o) none_spells

columns_sound : (word : List ℕ) (xs : List Column) → columns_of word ≡ Some xs → IsList IsColumn word xs
unfolding columns_of
columns_sound word xs is = list_sound column_of IsColumn column_read word xs is

columns_complete : (word : List ℕ) (xs : List Column) → IsList IsColumn word xs → columns_of word ≡ Some xs
unfolding columns_of
columns_complete word xs is = list_complete column_of IsColumn column_read none_column word xs is

-- a list of columns is exactly what is read of its word
pub columns_read : ReadsExactly columns_of (IsList IsColumn)
columns_read = record { sound = columns_sound; complete = columns_complete }
