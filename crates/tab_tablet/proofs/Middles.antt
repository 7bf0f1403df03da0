-- Rows that records have, of several lists.
use Rattle.std.proofs.Common.{◌≡◌, ℕ, ◌<◌, List, [], ◌∷◌, ◌++◌, refl, sym, ◌∙◌, ap, subst, length, append-nil, arith}
use Rattle.std.specs.Prelude.{All, Contains}
use Rattle.std.specs.List.Sorted.{IsPermutation}
use Rattle.std.proofs.lemmas.List.{nil_from_length, length_push}
use Rattle.std.proofs.lemmas.List.Elements.{All-nil, All-push, All-contains}
use Rattle.std.proofs.lemmas.List.Sorted.{All-permutation, length_permutation}
use Rattle.tab_key.specs.Records.{Record}
use Rattle.tab_tablet.specs.Selecting.{HasRow, AreMiddles}
use Rattle.tab_tablet.proofs.Probed.{has_left, has_right}

-- of no list
pub none_yet : (rows : List (List ℕ)) → rows ≡ [] → AreMiddles [] rows
none_yet rows e = record { held = subst (All (HasRow [])) (sym e) (All-nil (HasRow [])); none = λ _. refl }

-- with a list that holds no record
pub none_more : (us run : List Record) (rows : List (List ℕ)) → AreMiddles us rows → length run ≡ 0 → AreMiddles (us ++ run) rows
none_more us run rows m e = subst (λ l. AreMiddles l rows) (sym (append-nil us) ∙ ap (λ l. us ++ l) (sym (nil_from_length run e))) m

-- with one that has the row
pub one_more : (us run : List Record) (rows : List (List ℕ)) (row : List ℕ) → AreMiddles us rows → HasRow run row → AreMiddles (us ++ run) (rows ++ row ∷ [])
one_more us run rows row m h = record {
  held = All-push (HasRow (us ++ run)) rows row (λ k d lt. has_left us run _ (m.held k d lt)) (has_right us run row h);
  none = λ e. absurd (omega (arith, e, length_push rows row));
}

-- in another order
pub moved : (us : List Record) (rows others : List (List ℕ)) → IsPermutation rows others → AreMiddles us rows → AreMiddles us others
moved us rows others p m = record { held = All-permutation (HasRow us) rows others p m.held; none = λ e. m.none (sym (length_permutation rows others p) ∙ e) }

-- where there is a record, there is a row
pub some_row : (us : List Record) (rows : List (List ℕ)) → AreMiddles us rows → 0 < length us → 0 < length rows
some_row us [] m some = absurd (omega (arith, some, ap length (m.none (omega arith))))
some_row us (row ∷ rows) m some = omega arith

pub is_middle : (us : List Record) (rows : List (List ℕ)) (row : List ℕ) → AreMiddles us rows → Contains rows row → HasRow us row
is_middle us rows row m c = All-contains (HasRow us) rows row m.held c
