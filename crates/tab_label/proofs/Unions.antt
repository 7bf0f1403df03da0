-- Sets within sets: what no member is missing from, and unions.
use Rattle.std.proofs.Common.{◌≡◌, ◌⊎◌, ℕ, List, [], ◌∷◌, Bool, true, false, cond, not, ◌||◌, Some, None, bytes_eq, refl, ap, ◌∙◌, inl, inr}
use Rattle.std.proofs.lemmas.Slice.Eq.{bytes_eq-Decides}
use Rattle.tab_label.specs.Sets.{has, first_missing, union}
use Rattle.tab_label.specs.Laws.{IsSubset}
use Rattle.tab_label.proofs.BoolLemmas.{either, from_either, same_test}
use Rattle.tab_label.proofs.SetLemmas.{has_fold_left, has_fold_right, has_fold_either}

-- Where nothing is missing, each member is one of the other set.
pub none_missing : (set other : List (List ℕ)) → first_missing set other ≡ None → IsSubset set other
none_missing [] other e term h = absurd cc
none_missing (x ∷ xs) other e term h = go (has other x) refl (none_missing xs other) e
  where
    go : (v : Bool) → has other x ≡ v → (first_missing xs other ≡ None → IsSubset xs other) → cond (not v) (Some x) (first_missing xs other) ≡ None → has other term ≡ true
    go true t ih e = elim (either (bytes_eq term x) (has xs term) h) [ inl same ↦ ap (has other) ((bytes_eq-Decides term x).0 same) ∙ t | inr later ↦ ih e term later ]
    go false t ih e = cc

-- Both sets are within their union.
pub union_left : (set other : List (List ℕ)) → IsSubset set (union set other)
union_left set other term h = has_fold_left other set term h

pub union_right : (set other : List (List ℕ)) → IsSubset other (union set other)
union_right set other term h = has_fold_right other set term h

-- A member of the union is one of either.
pub has_union : (set other : List (List ℕ)) (term : List ℕ) → has (union set other) term ≡ (has set term || has other term)
has_union set other term =
    same_test (has (union set other) term) (has set term || has other term) (λ h. from (has_fold_either other set term h)) (λ h. elim (either (has set term) (has other term) h) [ inl a ↦ has_fold_left other set term a | inr b ↦ has_fold_right other set term b ])
  where
    from : (has set term ≡ true) ⊎ (has other term ≡ true) → (has set term || has other term) ≡ true
    from e = from_either (has set term) (has other term) e
