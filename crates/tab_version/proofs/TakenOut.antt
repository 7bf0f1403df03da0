-- Lists that are compared member by member, and lists from which members are taken out.
use Rattle.std.proofs.Common.{◌≡◌, ◌≢◌, ℕ, suc, ◌+◌, ◌<◌, ◌≤◌, List, [], ◌∷◌, ◌++◌, Bool, true, false, cond, ◌&&◌, refl, sym, ◌∙◌, ap, length, take, drop, get_or, arith, append_assoc, add-one}
use Rattle.std.specs.Prelude.{Option, Some, None, option_map, option_and_then, unwrap_or, is_some}
use Rattle.std.specs.List.{remove}
use Rattle.std.proofs.lemmas.List.{drop_all, drop_more, take_more}
use Rattle.tab_version.specs.Sources.{same_lists, without}

-- ---- an index in a list
pub some_member : {X : Type 0} (xs : List X) (i : ℕ) → i < length xs → X
some_member [] i lt = absurd (omega (arith, lt))
some_member (x ∷ xs) i lt = x

-- ---- members that pair up
module _ {X : Type 0} (same : X → X → Bool) where
  pub pairs_differ : (xs ys : List X) → length xs ≢ length ys → same_lists same xs ys ≡ false
  pairs_differ [] [] n = absurd (n refl)
  pairs_differ [] (y ∷ ys) n = refl
  pairs_differ (x ∷ xs) [] n = refl
  pairs_differ (x ∷ xs) (y ∷ ys) n = ap (λ v. same x y && v) (pairs_differ xs ys (λ e. n (ap suc e))) ∙ and_false (same x y)
    where
      and_false : (v : Bool) → (v && false) ≡ false
      and_false true = refl
      and_false false = refl

  pub pairs_next : (xs ys : List X) (i : ℕ) (r : Bool) → i < length xs → i < length ys → ((u : X) → r ≡ same (get_or xs i u) (get_or ys i u)) → same_lists same (drop i xs) (drop i ys) ≡ (r && same_lists same (drop (i + 1) xs) (drop (i + 1) ys))
  pairs_next xs ys i r lx ly is =
      let u = some_member xs i lx in
      (λ k. same_lists same (drop_more xs i u lx k) (drop_more ys i u ly k)) ∙ ap (λ v. v && same_lists same (drop (i + 1) xs) (drop (i + 1) ys)) (sym (is u))

  -- one pair more is the same
  pub pairs_on : (xs ys : List X) (i : ℕ) (r : Bool) → i < length xs → i < length ys → ((u : X) → r ≡ same (get_or xs i u) (get_or ys i u)) → r ≡ true → same_lists same xs ys ≡ same_lists same (drop i xs) (drop i ys) → same_lists same xs ys ≡ same_lists same (drop (i + 1) xs) (drop (i + 1) ys)
  pairs_on xs ys i r lx ly is so old = old ∙ pairs_next xs ys i r lx ly is ∙ ap (λ v. v && same_lists same (drop (i + 1) xs) (drop (i + 1) ys)) so

  -- a pair that isn't
  pub pairs_break : (xs ys : List X) (i : ℕ) (r : Bool) → i < length xs → i < length ys → ((u : X) → r ≡ same (get_or xs i u) (get_or ys i u)) → r ≡ false → same_lists same xs ys ≡ same_lists same (drop i xs) (drop i ys) → same_lists same xs ys ≡ false
  pairs_break xs ys i r lx ly is so old = old ∙ pairs_next xs ys i r lx ly is ∙ ap (λ v. v && same_lists same (drop (i + 1) xs) (drop (i + 1) ys)) so

  -- all pairs are
  pub pairs_end : (xs ys : List X) (n : ℕ) → length xs ≤ n → length ys ≤ n → same_lists same xs ys ≡ same_lists same (drop n xs) (drop n ys) → same_lists same xs ys ≡ true
  pairs_end xs ys n lx ly old = old ∙ (λ k. same_lists same (drop_all n xs lx k) (drop_all n ys ly k))

-- ---- the first that passes
module _ {X : Type 0} (p : X → Bool) where
  -- none of the first i passes
  abbrev pub NoneBefore : List X → ℕ → Type 0
  NoneBefore xs i = without p xs ≡ option_map (λ ys. take i xs ++ ys) (without p (drop i xs))

  pub none_at_start : (xs : List X) → NoneBefore xs 0
  none_at_start xs = go (without p xs)
    where
      go : (o : Option (List X)) → o ≡ option_map (λ ys. ys) o
      go None = refl
      go (Some ys) = refl

  front_more : (xs : List X) (i : ℕ) (u : X) → i < length xs → (o : Option (List X)) → option_map (λ ys. take i xs ++ ys) (option_map (λ ys. get_or xs i u ∷ ys) o) ≡ option_map (λ ys. take (i + 1) xs ++ ys) o
  front_more xs i u lt None = refl
  front_more xs i u lt (Some ys) = ap Some (sym (append_assoc (take i xs) (get_or xs i u ∷ []) ys) ∙ ap (λ l. l ++ ys) (sym (take_more xs i u lt)))

  next_member : (xs : List X) (i : ℕ) (u : X) (r : Bool) → i < length xs → r ≡ p (get_or xs i u) → without p (drop i xs) ≡ cond r (Some (drop (i + 1) xs)) (option_map (λ ys. get_or xs i u ∷ ys) (without p (drop (i + 1) xs)))
  next_member xs i u r lt is = ap (without p) (drop_more xs i u lt) ∙ ap (λ v. cond v (Some (drop (i + 1) xs)) (option_map (λ ys. get_or xs i u ∷ ys) (without p (drop (i + 1) xs)))) (sym is)

  pub none_next : (xs : List X) (i : ℕ) (r : Bool) → i < length xs → ((u : X) → r ≡ p (get_or xs i u)) → r ≡ false → NoneBefore xs i → NoneBefore xs (i + 1)
  none_next xs i r lt is so old =
      let u = some_member xs i lt in
      old
      ∙ ap (option_map (λ ys. take i xs ++ ys)) (next_member xs i u r lt (is u) ∙ ap (λ v. cond v (Some (drop (i + 1) xs)) (option_map (λ ys. get_or xs i u ∷ ys) (without p (drop (i + 1) xs)))) so)
      ∙ front_more xs i u lt (without p (drop (i + 1) xs))

  pub first_here : (xs : List X) (i : ℕ) (r : Bool) → i < length xs → ((u : X) → r ≡ p (get_or xs i u)) → r ≡ true → NoneBefore xs i → without p xs ≡ Some (remove xs i)
  first_here xs i r lt is so old =
      let u = some_member xs i lt in
      old
      ∙ ap (option_map (λ ys. take i xs ++ ys)) (next_member xs i u r lt (is u) ∙ ap (λ v. cond v (Some (drop (i + 1) xs)) (option_map (λ ys. get_or xs i u ∷ ys) (without p (drop (i + 1) xs)))) so)
      ∙ ap (λ n. Some (take i xs ++ drop n xs)) (add-one i)

  pub none_at_end : (xs : List X) (n : ℕ) → length xs ≤ n → NoneBefore xs n → without p xs ≡ None
  none_at_end xs n le old = old ∙ ap (λ l. option_map (λ ys. take n xs ++ ys) (without p l)) (drop_all n xs le)

-- what there is, told by whether it is there and what is there then
pub taken : {Y : Type 0} (o : Option Y) (r : Bool) (new old : Y) → r ≡ is_some o → new ≡ unwrap_or o old → o ≡ cond r (Some new) None
taken None r new old e f = ap (λ v. cond v (Some new) None) (sym e)
taken (Some y) r new old e f = ap Some (sym f) ∙ ap (λ v. cond v (Some new) None) (sym e)

-- ---- one taken out for each of the inputs
module _ {X : Type 0} (out : X → List X → Option (List X)) (all : List X → List X → Option (List X)) (step : (x : X) (xs ys : List X) → all (x ∷ xs) ys ≡ option_and_then (all xs) (out x ys)) where
  next_input : (inputs old left new : List X) (i : ℕ) (x : X) (r : Bool) → i < length inputs → x ≡ get_or inputs i x → out x left ≡ cond r (Some new) None → all inputs old ≡ all (drop i inputs) left → all inputs old ≡ option_and_then (all (drop (i + 1) inputs)) (cond r (Some new) None)
  next_input inputs old left new i x r lt is e before =
      before
      ∙ ap (λ l. all l left) (drop_more inputs i x lt ∙ ap (λ z. z ∷ drop (i + 1) inputs) (sym is))
      ∙ step x (drop (i + 1) inputs) left
      ∙ ap (option_and_then (all (drop (i + 1) inputs))) e

  pub input_served : (inputs old left new : List X) (i : ℕ) (x : X) (r : Bool) → i < length inputs → x ≡ get_or inputs i x → out x left ≡ cond r (Some new) None → r ≡ true → all inputs old ≡ all (drop i inputs) left → all inputs old ≡ all (drop (i + 1) inputs) new
  input_served inputs old left new i x r lt is e so before = next_input inputs old left new i x r lt is e before ∙ ap (λ v. option_and_then (all (drop (i + 1) inputs)) (cond v (Some new) None)) so

  pub input_without : (inputs old left new : List X) (i : ℕ) (x : X) (r : Bool) → i < length inputs → x ≡ get_or inputs i x → out x left ≡ cond r (Some new) None → r ≡ false → all inputs old ≡ all (drop i inputs) left → all inputs old ≡ None
  input_without inputs old left new i x r lt is e so before = next_input inputs old left new i x r lt is e before ∙ ap (λ v. option_and_then (all (drop (i + 1) inputs)) (cond v (Some new) None)) so

  pub inputs_served : (none : (ys : List X) → all [] ys ≡ Some ys) (inputs old left : List X) (n : ℕ) → length inputs ≤ n → all inputs old ≡ all (drop n inputs) left → all inputs old ≡ Some left
  inputs_served none inputs old left n le before = before ∙ ap (λ l. all l left) (drop_all n inputs le) ∙ none left
