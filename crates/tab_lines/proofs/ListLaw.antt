-- Names, lists, bounds and columns are exactly what is read of their words.
use Rattle.std.proofs.Common.{ℕ, ◌≡◌, ◌==◌, true, false, cond, List, [], ◌∷◌, refl, sym, ap, ◌∙◌, subst, arith, inl, inr, Some, None, Option}
use Rattle.std.specs.Prelude.{codes}
use Rattle.std.specs.List.{AllZip}
use Rattle.std.specs.Option.{option_map, option_and_then}
use Rattle.std.specs.Str.{bytes_eq}
use Rattle.std.proofs.lemmas.Bool.Decides.{nat_tests}
use Rattle.std.proofs.lemmas.Slice.Eq.{bytes_eq-Decides}
use Rattle.tab_key.specs.declared.range.Bound.{Bound}
use Rattle.tab_key.specs.declared.range.Bound.TheVariants.{Unbounded, Inclusive, Exclusive}
use Rattle.tab_rules.specs.Constraints.{constraint_name, constraint_named}
use Rattle.tab_rules.specs.declared.constraint.Constraint.{Constraint}
use Rattle.tab_rules.specs.declared.constraint.Constraint.TheVariants.{KeySize, Alphanumeric, Numeric, Visibility}
use Rattle.tab_lines.specs.Words.{parts_at}
use Rattle.tab_text.specs.Words.{IsWord}
use Rattle.tab_text.specs.Reading.{bytes_of}
use Rattle.tab_lines.specs.Fields.{only_if, is_name, name_of, none_word, each_of, listed, list_of, constraint_of, constraints_of, bound_begun, bound_of}
use Rattle.tab_lines.specs.Forms.{IsNameWord, IsList, IsConstraint, IsBound}
use Rattle.tab_lines.proofs.NameLemmas.{name_is, name_passes}
use Rattle.tab_lines.proofs.WordLaw.{words_read}
use Rattle.tab_lines.proofs.Inverting.{ReadsExactly, some_inj, on_map, on_then}

-- ---- names

name_sound : (word name : List ℕ) → name_of word ≡ Some name → IsNameWord word name
name_sound word name is = on_then (only_if is_name) (bytes_of word) name (IsNameWord word name) is (λ bytes read one.
    elim (is_name bytes) as (λ b. is_name bytes ≡ b → cond b (Some bytes) None ≡ Some name → IsNameWord word name) [
      | true ↦ λ yes e. subst (λ (n : List ℕ). IsNameWord word n) (some_inj bytes name e) (words_read.sound word bytes read, name_is bytes yes)
      | false ↦ λ no e. absurd cc
    ] refl one)

name_complete : (word name : List ℕ) → IsNameWord word name → name_of word ≡ Some name
name_complete word name is =
    ap (λ (o : Option (List ℕ)). option_and_then (only_if is_name) o) (words_read.complete word name is.0)
    ∙ ap (λ b. cond b (Some name) None) (name_passes name is.1)

-- a name is exactly what is read of its word
pub names_read : ReadsExactly name_of IsNameWord
names_read = record { sound = name_sound; complete = name_complete }

-- ---- lists

module _ {A : Type 0} (reads : List ℕ → Option A) (Says : List ℕ → A → Type 0) (member : ReadsExactly reads Says) where
  each_sound : (parts : List (List ℕ)) (xs : List A) → each_of reads parts ≡ Some xs → AllZip Says parts xs
  each_sound [] [] is = tt
  each_sound [] (x ∷ xs) is = absurd cc
  each_sound (part ∷ parts) xs is =
      on_then (λ x. option_map (λ ys. x ∷ ys) (each_of reads parts)) (reads part) xs (AllZip Says (part ∷ parts) xs) is (λ x read more.
      on_map (λ ys. x ∷ ys) (each_of reads parts) xs (AllZip Says (part ∷ parts) xs) more (λ ys rest e.
      subst (λ (all : List A). AllZip Says (part ∷ parts) all) e (member.sound part x read, each_sound parts ys rest)))

  each_complete : (parts : List (List ℕ)) (xs : List A) → AllZip Says parts xs → each_of reads parts ≡ Some xs
  each_complete [] [] is = refl
  each_complete [] (x ∷ xs) is = absurd is
  each_complete (part ∷ parts) [] is = absurd is
  each_complete (part ∷ parts) (x ∷ xs) is =
      ap (λ (o : Option A). option_and_then (λ y. option_map (λ ys. y ∷ ys) (each_of reads parts)) o) (member.complete part x is.0)
      ∙ ap (λ (o : Option (List A)). option_map (λ ys. x ∷ ys) o) (each_complete parts xs is.1)

  pub list_sound : (word : List ℕ) (xs : List A) → listed reads word ≡ Some xs → IsList Says word xs
  list_sound word xs is =
      elim (bytes_eq word none_word) as (λ b. bytes_eq word none_word ≡ b → cond b (Some []) (each_of reads (parts_at 44 word)) ≡ Some xs → IsList Says word xs) [
        | true ↦ λ yes e. inl ((bytes_eq-Decides word none_word).0 yes, sym (some_inj [] xs e))
        | false ↦ λ no e. inr (each_sound (parts_at 44 word) xs e)
      ] refl is

  -- where \0 is no member
  pub list_complete : reads none_word ≡ None → (word : List ℕ) (xs : List A) → IsList Says word xs → listed reads word ≡ Some xs
  list_complete none word xs is = elim is [
    | inl h ↦ ap (λ (w : List ℕ). listed reads w) h.0 ∙ ap (λ (ys : List A). Some ys) (sym h.1)
    | inr h ↦
        let read : each_of reads (parts_at 44 word) ≡ Some xs = each_complete (parts_at 44 word) xs h in
        elim (bytes_eq word none_word) as (λ b. bytes_eq word none_word ≡ b → cond b (Some []) (each_of reads (parts_at 44 word)) ≡ Some xs) [
          | true ↦ λ yes.
              let here : each_of reads (parts_at 44 word) ≡ None = ap (λ (w : List ℕ). each_of reads (parts_at 44 w)) ((bytes_eq-Decides word none_word).0 yes) ∙ ap (λ (o : Option A). option_and_then (λ y. option_map (λ ys. y ∷ ys) (each_of reads [])) o) none in
              let no : None ≡ Some xs = sym here ∙ read in absurd cc
          | false ↦ λ no. read
        ] refl
  ]

-- \0 spells no bytes
pub none_spells : bytes_of none_word ≡ None
unfolding bytes_of
none_spells = refl

lists_sound : (word : List ℕ) (xs : List (List ℕ)) → list_of word ≡ Some xs → IsList IsWord word xs
unfolding list_of
lists_sound word xs is = list_sound bytes_of IsWord words_read word xs is

lists_complete : (word : List ℕ) (xs : List (List ℕ)) → IsList IsWord word xs → list_of word ≡ Some xs
unfolding list_of
lists_complete word xs is = list_complete bytes_of IsWord words_read none_spells word xs is

-- a list of byte strings is exactly what is read of its word
pub lists_read : ReadsExactly list_of (IsList IsWord)
lists_read = record { sound = lists_sound; complete = lists_complete }

-- ---- constraints

named_sound : (name : List ℕ) (c : Constraint) → constraint_named name ≡ Some c → name ≡ constraint_name c
named_sound name c is =
    elim (bytes_eq name (codes "keysize")) as (λ b. bytes_eq name (codes "keysize") ≡ b → cond b (Some KeySize) (cond (bytes_eq name (codes "alphanum")) (Some Alphanumeric) (cond (bytes_eq name (codes "numeric")) (Some Numeric) (cond (bytes_eq name (codes "visibility")) (Some Visibility) None))) ≡ Some c → name ≡ constraint_name c) [
      | true ↦ λ yes e. (bytes_eq-Decides name (codes "keysize")).0 yes ∙ ap constraint_name (some_inj KeySize c e)
      | false ↦ λ no e. elim (bytes_eq name (codes "alphanum")) as (λ b. bytes_eq name (codes "alphanum") ≡ b → cond b (Some Alphanumeric) (cond (bytes_eq name (codes "numeric")) (Some Numeric) (cond (bytes_eq name (codes "visibility")) (Some Visibility) None)) ≡ Some c → name ≡ constraint_name c) [
        | true ↦ λ yes e. (bytes_eq-Decides name (codes "alphanum")).0 yes ∙ ap constraint_name (some_inj Alphanumeric c e)
        | false ↦ λ no e. elim (bytes_eq name (codes "numeric")) as (λ b. bytes_eq name (codes "numeric") ≡ b → cond b (Some Numeric) (cond (bytes_eq name (codes "visibility")) (Some Visibility) None) ≡ Some c → name ≡ constraint_name c) [
          | true ↦ λ yes e. (bytes_eq-Decides name (codes "numeric")).0 yes ∙ ap constraint_name (some_inj Numeric c e)
          | false ↦ λ no e. elim (bytes_eq name (codes "visibility")) as (λ b. bytes_eq name (codes "visibility") ≡ b → cond b (Some Visibility) None ≡ Some c → name ≡ constraint_name c) [
            | true ↦ λ yes e. (bytes_eq-Decides name (codes "visibility")).0 yes ∙ ap constraint_name (some_inj Visibility c e)
            | false ↦ λ no e. absurd cc
          ] refl e
        ] refl e
      ] refl e
    ] refl is

named_complete : (c : Constraint) → constraint_named (constraint_name c) ≡ Some c
named_complete KeySize = refl
named_complete c = refl

constraint_sound : (word : List ℕ) (c : Constraint) → constraint_of word ≡ Some c → IsConstraint word c
constraint_sound word c is = on_then constraint_named (bytes_of word) c (IsConstraint word c) is (λ name read one.
    subst (λ (n : List ℕ). IsWord word n) (named_sound name c one) (words_read.sound word name read))

constraint_complete : (word : List ℕ) (c : Constraint) → IsConstraint word c → constraint_of word ≡ Some c
constraint_complete word c is = ap (λ (o : Option (List ℕ)). option_and_then constraint_named o) (words_read.complete word (constraint_name c) is) ∙ named_complete c

constraint_read : ReadsExactly constraint_of IsConstraint
constraint_read = record { sound = constraint_sound; complete = constraint_complete }

constraints_sound : (word : List ℕ) (xs : List Constraint) → constraints_of word ≡ Some xs → IsList IsConstraint word xs
unfolding constraints_of
constraints_sound word xs is = list_sound constraint_of IsConstraint constraint_read word xs is

constraints_complete : (word : List ℕ) (xs : List Constraint) → IsList IsConstraint word xs → constraints_of word ≡ Some xs
unfolding constraints_of
constraints_complete word xs is = list_complete constraint_of IsConstraint constraint_read (ap (λ (o : Option (List ℕ)). option_and_then constraint_named o) none_spells) word xs is

-- a list of constraints is exactly what is read of its word
pub constraints_read : ReadsExactly constraints_of (IsList IsConstraint)
constraints_read = record { sound = constraints_sound; complete = constraints_complete }

-- ---- bounds

begun_sound : (word : List ℕ) (bound : Bound) → bound_begun word ≡ Some bound → IsBound word bound
begun_sound [] bound is = absurd cc
begun_sound (c ∷ cs) bound is =
    elim (c == 91) as (λ b. (c == 91) ≡ b → cond b (option_map (λ bs. Inclusive bs) (bytes_of cs)) (cond (c == 40) (option_map (λ bs. Exclusive bs) (bytes_of cs)) None) ≡ Some bound → IsBound (c ∷ cs) bound) [
      | true ↦ λ yes e. on_map (λ bs. Inclusive bs) (bytes_of cs) bound (IsBound (c ∷ cs) bound) e (λ row read is'.
          let first : c ≡ 91 = grind (arith, nat_tests) in
          subst (λ (y : Bound). IsBound (c ∷ cs) y) is' (cs, ap (λ (d : ℕ). d ∷ cs) first, words_read.sound cs row read))
      | false ↦ λ no e. elim (c == 40) as (λ b. (c == 40) ≡ b → cond b (option_map (λ bs. Exclusive bs) (bytes_of cs)) None ≡ Some bound → IsBound (c ∷ cs) bound) [
        | true ↦ λ yes e2. on_map (λ bs. Exclusive bs) (bytes_of cs) bound (IsBound (c ∷ cs) bound) e2 (λ row read is'.
            let first : c ≡ 40 = grind (arith, nat_tests) in
            subst (λ (y : Bound). IsBound (c ∷ cs) y) is' (cs, ap (λ (d : ℕ). d ∷ cs) first, words_read.sound cs row read))
        | false ↦ λ no2 e2. absurd cc
      ] refl e
    ] refl is

bound_sound : (word : List ℕ) (bound : Bound) → bound_of word ≡ Some bound → IsBound word bound
unfolding bound_of
bound_sound word bound is =
    elim (bytes_eq word none_word) as (λ b. bytes_eq word none_word ≡ b → cond b (Some Unbounded) (bound_begun word) ≡ Some bound → IsBound word bound) [
      | true ↦ λ yes e. subst (λ (y : Bound). IsBound word y) (some_inj Unbounded bound e) ((bytes_eq-Decides word none_word).0 yes)
      | false ↦ λ no e. begun_sound word bound e
    ] refl is

bound_complete : (word : List ℕ) (bound : Bound) → IsBound word bound → bound_of word ≡ Some bound
unfolding bound_of
bound_complete word Unbounded is = ap (λ (w : List ℕ). bound_of w) is
bound_complete word (Inclusive row) (text, e, is) = ap (λ (w : List ℕ). bound_of w) e ∙ ap (λ (o : Option (List ℕ)). option_map (λ bs. Inclusive bs) o) (words_read.complete text row is)
bound_complete word (Exclusive row) (text, e, is) = ap (λ (w : List ℕ). bound_of w) e ∙ ap (λ (o : Option (List ℕ)). option_map (λ bs. Exclusive bs) o) (words_read.complete text row is)

-- an end of a range is exactly what is read of its word
pub bounds_read : ReadsExactly bound_of IsBound
bounds_read = record { sound = bound_sound; complete = bound_complete }
