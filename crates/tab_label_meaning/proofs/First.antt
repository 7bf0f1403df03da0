-- The first update whose label is none, and its offset, are what a mutation is refused for.
use Rattle.std.proofs.Common.{◌≡◌, ℕ, zero, suc, ◌+◌, List, [], ◌∷◌, Result, Ok, Err, refl, sym, ap, ◌∙◌, subst, arith}
use Rattle.std.specs.Prelude.{Option, Some, None}
use Rattle.std.specs.List.{AllByRecursion}
use Rattle.tab_label.specs.Grammar.{Label, IsNoLabel, IsOffset}
use Rattle.tab_label.specs.Laws.{IsAnswer}
use Rattle.tab_label.specs.Reading.{label_of}
use Rattle.tab_label.proofs.LabelOf.{reading_is_the_grammar, the_grammar_is_reading}
use Rattle.tab_mutation.specs.Mutations.{Update}
use Rattle.tab_mutation.specs.Shape.{or_else, first_found}
use Rattle.tab_history.specs.Checks.{malformed, malformed_at}
use Rattle.tab_history.specs.declared.reply.Refusal.{Refusal}
use Rattle.tab_history.specs.declared.reply.Refusal.TheVariants.{MalformedVisibility}
use Rattle.tab_label_meaning.specs.Meaning.{IsOfBytes, IsLabel, IsFirstMalformed, IsVerdict, MalformedIsTheFirst}

abbrev HaveLabels : List Update → Type 0
HaveLabels = AllByRecursion (λ u. IsLabel u.label)

abbrev HaveBytes : List Update → Type 0
HaveBytes = AllByRecursion (λ u. IsOfBytes u.label)

-- the first malformed update of these, the first of which has the number s
abbrev found : ℕ → List Update → Option Refusal
found s us = first_found (λ i u. malformed_at i (label_of u.label)) s us

-- ---- from the grammar to what is found
none_found : (us : List Update) (s : ℕ) → HaveBytes us → HaveLabels us → found s us ≡ None
none_found [] s bytes labels = refl
none_found (u ∷ us) s bytes labels =
    let read : label_of u.label ≡ Ok labels.0.0 = the_grammar_is_reading u.label (Ok labels.0.0) bytes.0 labels.0.1 in
    ap (λ r. or_else (malformed_at s r) (found (s + 1) us)) read ∙ none_found us (s + 1) bytes.1 labels.1

-- at this place of the list
malformed_found : (us : List Update) (s i n : ℕ) → HaveBytes us → IsFirstMalformed us i n → found s us ≡ Some (MalformedVisibility (s + i) n)
malformed_found [] s i n bytes first = let gone : None ≡ Some first.update = first.there in absurd (cc)
malformed_found (u ∷ us) s zero n bytes first =
    let same : u ≡ first.update = some_is u first.update first.there in
    let read : label_of u.label ≡ Err n = the_grammar_is_reading u.label (Err n) bytes.0 (subst (λ (x : Update). IsNoLabel x.label × IsOffset x.label n) (sym same) (first.is_none, first.offset)) in
    let place : s ≡ s + 0 = omega arith in
    ap (λ r. or_else (malformed_at s r) (found (s + 1) us)) read ∙ ap (λ k. Some (MalformedVisibility k n)) place
  where
    some_is : (x y : Update) → Some x ≡ Some y → x ≡ y
    some_is x y e = cc
malformed_found (u ∷ us) s (suc i) n bytes first =
    let read : label_of u.label ≡ Ok first.earlier.0.0 = the_grammar_is_reading u.label (Ok first.earlier.0.0) bytes.0 first.earlier.0.1 in
    let later : IsFirstMalformed us i n = record { update = first.update; there = first.there; is_none = first.is_none; offset = first.offset; earlier = first.earlier.1 } in
    let place : s + 1 + i ≡ s + suc i = omega arith in
    ap (λ r. or_else (malformed_at s r) (found (s + 1) us)) read ∙ malformed_found us (s + 1) i n bytes.1 later ∙ ap (λ k. Some (MalformedVisibility k n)) place

-- ---- and back
-- what is found, by places of the list
Found : List Update → ℕ → Option Refusal → Type 0
Found us s None = HaveLabels us
Found us s (Some (MalformedVisibility k n)) = (i : ℕ) × (k ≡ s + i) × IsFirstMalformed us i n
Found us s (Some refusal) = ⊥

behind : (u : Update) (us : List Update) (s : ℕ) (verdict : Option Refusal) → IsLabel u.label → Found us (s + 1) verdict → Found (u ∷ us) s verdict
unfolding Found
behind u us s None label rest = (label, rest)
behind u us s (Some (MalformedVisibility k n)) label (i, place, first) =
    (suc i, (let at : k ≡ s + suc i = omega (arith, place) in at), record { update = first.update; there = first.there; is_none = first.is_none; offset = first.offset; earlier = (label, first.earlier) })
behind u us s (Some refusal) label rest = absurd rest

by_label : (u : Update) (us : List Update) (s : ℕ) (r : Result Label ℕ) → IsAnswer u.label r → Found us (s + 1) (found (s + 1) us) → Found (u ∷ us) s (or_else (malformed_at s r) (found (s + 1) us))
unfolding Found
by_label u us s (Ok m) reads rest = behind u us s (found (s + 1) us) (m, reads) rest
by_label u us s (Err n) none rest = (0, (let at : s ≡ s + 0 = omega arith in at), record { update = u; there = refl; is_none = none.0; offset = none.1; earlier = tt })

is_found : (us : List Update) (s : ℕ) → HaveBytes us → Found us s (found s us)
unfolding Found
is_found [] s bytes = tt
is_found (u ∷ us) s bytes = by_label u us s (label_of u.label) (reading_is_the_grammar u.label bytes.0) (is_found us (s + 1) bytes.1)

-- ---- the law
verdict_of : (us : List Update) (verdict : Option Refusal) → Found us 0 verdict → IsVerdict us verdict
unfolding Found
verdict_of us None labels = labels
verdict_of us (Some (MalformedVisibility k n)) (i, place, first) = subst (λ j. IsFirstMalformed us j n) (let same : i ≡ k = omega (arith, place) in same) first
verdict_of us (Some refusal) none = absurd none

found_verdict : (us : List Update) (verdict : Option Refusal) → HaveBytes us → IsVerdict us verdict → found 0 us ≡ verdict
found_verdict us None bytes labels = none_found us 0 bytes labels
found_verdict us (Some (MalformedVisibility i n)) bytes first = malformed_found us 0 i n bytes first ∙ ap (λ k. Some (MalformedVisibility k n)) (let same : 0 + i ≡ i = omega arith in same)
found_verdict us (Some refusal) bytes none = absurd none

pub first_is_malformed : MalformedIsTheFirst
unfolding malformed
first_is_malformed m bytes verdict = (λ is. subst (IsVerdict m.updates) is (verdict_of m.updates (found 0 m.updates) (is_found m.updates 0 bytes)), found_verdict m.updates verdict bytes)
