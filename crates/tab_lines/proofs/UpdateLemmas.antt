-- How several updates are read, one after another.
use Rattle.std.proofs.Common.{ℕ, zero, suc, ◌≡◌, ◌≤◌, ◌<◌, true, false, cond, List, [], ◌∷◌, length, refl, sym, ap, ◌∙◌, subst, arith, append_assoc, append-nil, ◌++◌, Some, None, Option}
use Rattle.std.specs.Prelude.{codes}
use Rattle.std.specs.Option.{option_map}
use Rattle.std.specs.Str.{bytes_eq}
use Rattle.tab_mutation.specs.Mutations.{Mutation, Update, with_update}
use Rattle.tab_lines.specs.declared.updates.TimestampForm.{TimestampForm}
use Rattle.tab_lines.specs.declared.updates.TimestampForm.TheVariants.{Optional, Dashed}
use Rattle.tab_text.specs.declared.parse_error.ParseError.{ParseError}
use Rattle.tab_text.specs.declared.parse_error.ParseError.TheVariants.{Malformed, NoMemory}
use Rattle.tab_text.specs.Gives.{SaysNone}
use Rattle.tab_lines.specs.Gives.{◌>>=◌, field}
use Rattle.tab_text.specs.Reading.{bytes_of}
use Rattle.tab_lines.specs.Fields.{given_timestamp, timestamp_or_dash}
use Rattle.tab_lines.specs.Updates.{with_updates, updated, timestamp_of, put_of, delete_of, update_of, updates_behind, updates_within, updates_from}

abbrev Line : Type 0
Line = List (List ℕ)

-- what is read leaves no more words than there were
abbrev Shortens : {A : Type 0} → ℕ → Option (A × Line) → Type 0
Shortens n None = Unit {0}
Shortens n (Some x) = length x.1 ≤ n

field_shortens : {A : Type 0} (reads : List ℕ → Option A) (n : ℕ) (words : Line) → length words ≤ n → Shortens n (field reads words)
field_shortens reads n [] le = tt
field_shortens reads n (word ∷ words) le =
    elim (reads word) as (λ r. Shortens n (option_map (λ x. (x, words)) r)) [
      | None ↦ tt
      | Some x ↦ omega arith
    ]

bind_shortens : {A B : Type 0} (n : ℕ) (r : Option (A × Line)) (f : A × Line → Option (B × Line)) → Shortens n r → ((x : A × Line) → length x.1 ≤ n → Shortens n (f x)) → Shortens n (r >>= f)
bind_shortens n None f h g = tt
bind_shortens n (Some x) f h g = g x h

timestamp_shortens : (form : TimestampForm) (n : ℕ) (words : Line) → length words ≤ n → Shortens n (timestamp_of form words)
timestamp_shortens Optional n [] le = omega arith
timestamp_shortens Optional n (word ∷ words) le = field_shortens given_timestamp n (word ∷ words) le
timestamp_shortens Dashed n words le = field_shortens timestamp_or_dash n words le

put_shortens : (form : TimestampForm) (n : ℕ) (words : Line) → length words ≤ n → Shortens n (put_of form words)
unfolding put_of
put_shortens form n words le =
    bind_shortens n (field bytes_of words) _ (field_shortens bytes_of n words le) (λ family le1.
    bind_shortens n (field bytes_of family.1) _ (field_shortens bytes_of n family.1 le1) (λ qualifier le2.
    bind_shortens n (field bytes_of qualifier.1) _ (field_shortens bytes_of n qualifier.1 le2) (λ label le3.
    bind_shortens n (field bytes_of label.1) _ (field_shortens bytes_of n label.1 le3) (λ value le4.
    bind_shortens n (timestamp_of form value.1) _ (timestamp_shortens form n value.1 le4) (λ timestamp le5. le5)))))

delete_shortens : (form : TimestampForm) (n : ℕ) (words : Line) → length words ≤ n → Shortens n (delete_of form words)
unfolding delete_of
delete_shortens form n words le =
    bind_shortens n (field bytes_of words) _ (field_shortens bytes_of n words le) (λ family le1.
    bind_shortens n (field bytes_of family.1) _ (field_shortens bytes_of n family.1 le1) (λ qualifier le2.
    bind_shortens n (field bytes_of qualifier.1) _ (field_shortens bytes_of n qualifier.1 le2) (λ label le3.
    bind_shortens n (timestamp_of form label.1) _ (timestamp_shortens form n label.1 le3) (λ timestamp le4. le4))))

-- an update takes some words
update_shortens : (n : ℕ) (words : Line) → length words ≤ n → Shortens n (update_of words)
update_shortens n [] le = tt
update_shortens n (verb ∷ words) le =
    elim (bytes_eq verb (codes "put")) as (λ b. Shortens n (cond b (put_of Dashed words) (cond (bytes_eq verb (codes "del")) (delete_of Dashed words) None))) [
      | true ↦ put_shortens Dashed n words (omega arith)
      | false ↦ elim (bytes_eq verb (codes "del")) as (λ b. Shortens n (cond b (delete_of Dashed words) None)) [
        | true ↦ delete_shortens Dashed n words (omega arith)
        | false ↦ tt
      ]
    ]

pub update_len : (words rest : Line) (u : Update) → update_of words ≡ Some (u, rest) → length rest ≤ length words
update_len words rest u is = let P : Option (Update × Line) → Type 0 = λ r. Shortens (length words) r in subst P is (update_shortens (length words) words (omega arith))

-- what stands behind an update, where the reading of shorter rests agrees
behind_alike : (k : ℕ) (f g : Line → Option (List Update)) → ((rest : Line) → length rest < k → f rest ≡ g rest) → (rest : Line) → length rest ≤ k → updates_behind f rest ≡ updates_behind g rest
behind_alike k f g alike [] le = refl
behind_alike k f g alike (word ∷ rest) le =
    elim (bytes_eq word (codes ";")) as (λ b. cond b (f rest) None ≡ cond b (g rest) None) [
      | true ↦ alike rest (omega arith)
      | false ↦ refl
    ]

abbrev pub more_updates : Update → Option (List Update) → Option (List Update)
more_updates u = option_map (λ us. u ∷ us)

-- more steps than words change nothing
enough : (n m : ℕ) (words : Line) → length words ≤ n → length words ≤ m → updates_within n words ≡ updates_within m words
enough zero zero words le le' = refl
enough zero (suc m) [] le le' = refl
enough zero (suc m) (word ∷ words) le le' = absurd (omega arith)
enough (suc n) zero [] le le' = refl
enough (suc n) zero (word ∷ words) le le' = absurd (omega arith)
enough (suc n) (suc m) words le le' =
    let alike : (rest : Line) → length rest < length words → updates_within n rest ≡ updates_within m rest = λ rest lt. enough n m rest (omega arith) (omega arith) in
    elim (update_of words) as
    (λ r. update_of words ≡ r → (r >>= λ u. more_updates u.0 (updates_behind (updates_within n) u.1)) ≡ (r >>= λ u. more_updates u.0 (updates_behind (updates_within m) u.1))) [
      | None ↦ λ is. refl
      | Some u ↦ λ is. ap (more_updates u.0) (behind_alike (length words) (updates_within n) (updates_within m) alike u.1 (update_len words u.1 u.0 is))
    ] refl

-- an update, and those behind it
pub from_update : (words rest : Line) (u : Update) → update_of words ≡ Some (u, rest) → updates_from words ≡ more_updates u (updates_behind updates_from rest)
unfolding updates_from
from_update [] rest u is = absurd cc
from_update (verb ∷ words) rest u is =
    let n = length words in
    let alike : (r : Line) → length r < suc n → updates_within n r ≡ updates_within (length r) r = λ r lt. enough n (length r) r (omega arith) (omega arith) in
    ap (λ (r : Option (Update × Line)). r >>= λ u. more_updates u.0 (updates_behind (updates_within n) u.1)) is
    ∙ ap (more_updates u) (behind_alike (suc n) (updates_within n) (λ r. updates_within (length r) r) alike rest (update_len (verb ∷ words) rest u is))

-- no update, so none of several
pub from_none : (words : Line) → update_of words ≡ None → updates_from words ≡ None
unfolding updates_from
from_none [] is = refl
from_none (word ∷ words) is = ap (λ (r : Option (Update × Line)). r >>= λ u. more_updates u.0 (updates_behind (updates_within (length words)) u.1)) is

-- the update that was read, where the mutation has it and these words are left
pub record HasRead (m m' : Mutation) (words rest : Line) : Type 0 where
  pub update : Update
  pub read : update_of words ≡ Some (update, rest)
  pub added : m' ≡ with_update m update

has_read : (m m' : Mutation) (words rest : Line) → updated m (update_of words) ≡ Some (m', rest) → HasRead m m' words rest
has_read m m' words rest is =
    elim (update_of words) as (λ r. update_of words ≡ r → updated m r ≡ Some (m', rest) → HasRead m m' words rest) [
      | None ↦ λ read no. absurd cc
      | Some u ↦ λ read yes.
          let e : ◌≡◌ {A = Mutation × Line} (with_update m u.0, u.1) (m', rest) = cc in
          record { update = u.0; read = read ∙ ap (λ (r : Line). Some (u.0, r)) (ap (λ (p : Mutation × Line). p.1) e); added = sym (ap (λ (p : Mutation × Line). p.0) e) }
    ] refl is

-- all updates of these words, added to the mutation
abbrev pub all_updates : Mutation → Line → Option Mutation
all_updates m words = option_map (with_updates m) (updates_from words)

abbrev behind : Mutation → Line → Option Mutation
behind m rest = option_map (with_updates m) (updates_behind updates_from rest)

-- one update and then others, added to a mutation
with_more : (m : Mutation) (u : Update) (o : Option (List Update)) → option_map (with_updates m) (more_updates u o) ≡ option_map (with_updates (with_update m u)) o
with_more m u None = refl
with_more m u (Some us) =
    let e : m.updates ++ (u ∷ us) ≡ (m.updates ++ u ∷ []) ++ us = sym (append_assoc m.updates (u ∷ []) us) in
    ap (λ (all : List Update). let m' : Mutation = record { row = m.row; updates = all } in Some m') e

-- with no more updates
with_none : (m : Mutation) → with_updates m [] ≡ m
with_none m = let e : m.updates ++ [] ≡ m.updates = append-nil m.updates in ap (λ (all : List Update). let m' : Mutation = record { row = m.row; updates = all } in m') e

-- one update was read
step_behind : (m m' : Mutation) (words rest : Line) → updated m (update_of words) ≡ Some (m', rest) → all_updates m words ≡ behind m' rest
step_behind m m' words rest is =
    let h = has_read m m' words rest is in
    let u = h.update in
    ap (λ (us : Option (List Update)). option_map (with_updates m) us) (from_update words rest u h.read)
    ∙ with_more m u (updates_behind updates_from rest)
    ∙ ap (λ n. behind n rest) (sym h.added)

-- it was the last
pub step_last : (m m' : Mutation) (words left : Line) → updated m (update_of words) ≡ Some (m', left) → left ≡ [] → all_updates m words ≡ Some m'
step_last m m' words left is last = step_behind m m' words left is ∙ ap (λ (r : Line). behind m' r) last ∙ ap (λ (n : Mutation). Some n) (with_none m')

-- more follow
pub step_more : (m m' : Mutation) (words left rest : Line) (word : List ℕ) → updated m (update_of words) ≡ Some (m', left) → left ≡ word ∷ rest → bytes_eq word (codes ";") ≡ true → all_updates m words ≡ all_updates m' rest
step_more m m' words left rest word is more semicolon =
    step_behind m m' words left is ∙ ap (λ (r : Line). behind m' r) more ∙ ap (λ b. option_map (with_updates m') (cond b (updates_from rest) None)) semicolon

-- another word follows
pub step_other : (m m' : Mutation) (words left rest : Line) (word : List ℕ) → updated m (update_of words) ≡ Some (m', left) → left ≡ word ∷ rest → bytes_eq word (codes ";") ≡ false → all_updates m words ≡ None
step_other m m' words left rest word is more other =
    step_behind m m' words left is ∙ ap (λ (r : Line). behind m' r) more ∙ ap (λ b. option_map (with_updates m') (cond b (updates_from rest) None)) other

-- fewer words are left than there were
pub step_len : (m m' : Mutation) (words left rest : Line) (word : List ℕ) → updated m (update_of words) ≡ Some (m', left) → left ≡ word ∷ rest → length rest < length words
step_len m m' words left rest word is more =
    let h = has_read m m' words left is in
    let len : length left ≤ length words = update_len words left h.update h.read in
    let e : length left ≡ suc (length rest) = ap (λ (r : Line). length r) more in
    omega arith

-- no update was read
step_none : (m : Mutation) (words : Line) → updated m (update_of words) ≡ None → all_updates m words ≡ None
step_none m words is =
    elim (update_of words) as (λ r. update_of words ≡ r → updated m r ≡ None → all_updates m words ≡ None) [
      | None ↦ λ read yes. ap (λ (us : Option (List Update)). option_map (with_updates m) us) (from_none words read)
      | Some u ↦ λ read no. absurd cc
    ] refl is

-- the reading of an update stopped
pub step_fails : (error : ParseError) (m : Mutation) (words : Line) → SaysNone error (updated m (update_of words)) → SaysNone error (all_updates m words)
step_fails Malformed m words is = step_none m words is
step_fails NoMemory m words is = tt
