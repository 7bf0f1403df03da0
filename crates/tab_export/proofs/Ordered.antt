-- The order in which records are written.
use Rattle.std.proofs.Common.{◌∙◌, ap, ◌≡◌, ℕ, ◌+◌, ◌<◌, List, [], ◌∷◌, ◌++◌, length, get_or, take, append-nil}
use Rattle.std.specs.Cmp.{IsTotalOrder, IsStrictWeakOrder, then_total, on_total, nat_cmp_total, int_cmp_total}
use Rattle.std.specs.List.{flat_map}
use Rattle.std.proofs.lemmas.Grind.{flat_map-append}
use Rattle.std.proofs.lemmas.List.{take_more}
use Rattle.std.proofs.lemmas.List.MinMax.{ranks_by}
use Rattle.tab_key.specs.Records.{Record}
use Rattle.tab_export.specs.Places.{Place, number_cmp, written_cmp, written_before}

number_cmp_total : IsTotalOrder number_cmp
unfolding number_cmp
number_cmp_total = then_total (on_total (λ (r : Record). r.seq) nat_cmp_total) (on_total (λ (r : Record). r.idx) nat_cmp_total)

written_cmp_total : IsTotalOrder written_cmp
unfolding written_cmp
written_cmp_total = then_total (on_total (λ (r : Record). r.key.timestamp) int_cmp_total) number_cmp_total

pub written_order : IsStrictWeakOrder written_before
written_order = ranks_by written_cmp_total (λ (p : Place). p.held)

-- one more of a list of lists
pub one_more : {X Y : Type 0} (f : X → List Y) (xs : List X) (i : ℕ) (d : X) → i < length xs → flat_map f (take (i + 1) xs) ≡ flat_map f (take i xs) ++ f (get_or xs i d)
one_more f xs i d lt = ap (flat_map f) (take_more xs i d lt) ∙ flat_map-append f (take i xs) (get_or xs i d ∷ []) ∙ ap (λ t. flat_map f (take i xs) ++ t) (append-nil (f (get_or xs i d)))
