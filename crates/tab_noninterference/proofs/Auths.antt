-- What a user holds was given to him, and what was given before is among what was ever given.
use Rattle.std.proofs.Common.{◌≡◌, ℕ, List, [], ◌∷◌, ◌++◌, Bool, true, false, cond, sym}
use Rattle.std.specs.Prelude.{bytes_eq}
use mathlib.Core.Bool.{true≢false}
use Rattle.tab_label.specs.Sets.{has, union}
use Rattle.tab_label.specs.Laws.{IsSubset}
use Rattle.tab_label.proofs.Unions.{union_left, union_right}
use Rattle.tab_history.specs.Bases.{Base}
use Rattle.tab_history.specs.Changes.{Change, UserMade, UserDropped, AuthsSet}
use Rattle.tab_history.specs.Readings.{held_auths}
use Rattle.tab_noninterference.specs.Given.{auths_given}

within_either : (v : Bool) (few more many : List (List ℕ)) → IsSubset few many → IsSubset more many → IsSubset (cond v few more) many
within_either true few more many p q = p
within_either false few more many p q = q

nothing_within : (many : List (List ℕ)) → IsSubset [] many
nothing_within many term h = absurd (true≢false (sym h))

module _ (b : Base) (user : List ℕ) where
  given_more : (n : List ℕ) (set : List (List ℕ)) (j : List Change) → IsSubset (auths_given b user j) (auths_given b user (AuthsSet n set ∷ j))
  unfolding auths_given
  given_more n set j = go (bytes_eq n user)
    where
      go : (v : Bool) → IsSubset (auths_given b user j) (cond v (union set (auths_given b user j)) (auths_given b user j))
      go true = union_right set (auths_given b user j)
      go false = λ term h. h

  -- what was given before is among what was ever given
  pub given_before : (cs j : List Change) → IsSubset (auths_given b user j) (auths_given b user (cs ++ j))
  unfolding auths_given
  given_before [] j term h = h
  given_before (AuthsSet n set ∷ cs) j term h = given_more n set (cs ++ j) term (given_before cs j term h)
  given_before (_ ∷ cs) j term h = given_before cs j term h

  -- what the user holds is among what he ever holds
  pub held_given : (j : List Change) → IsSubset (held_auths b j user) (auths_given b user j)
  unfolding held_auths auths_given
  held_given [] term h = h
  held_given (UserMade n ∷ j) term h = within_either (bytes_eq n user) [] (held_auths b j user) (auths_given b user j) (nothing_within (auths_given b user j)) (held_given j) term h
  held_given (UserDropped n ∷ j) term h = within_either (bytes_eq n user) [] (held_auths b j user) (auths_given b user j) (nothing_within (auths_given b user j)) (held_given j) term h
  held_given (AuthsSet n set ∷ j) term h = go (bytes_eq n user) (held_given j term) h
    where
      go : (v : Bool) → (has (held_auths b j user) term ≡ true → has (auths_given b user j) term ≡ true) → has (cond v set (held_auths b j user)) term ≡ true → has (cond v (union set (auths_given b user j)) (auths_given b user j)) term ≡ true
      go true ih h = union_left set (auths_given b user j) term h
      go false ih h = ih h
  held_given (_ ∷ j) term h = held_given j term h
