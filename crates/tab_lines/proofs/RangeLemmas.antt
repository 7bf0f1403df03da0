-- How pairs of bounds are read, one after another.
use Rattle.std.proofs.Common.{ℕ, ◌≡◌, List, [], ◌∷◌, ◌++◌, refl, ap, ◌∙◌, sym, Option, Some, None, append_assoc}
use Rattle.std.specs.Option.{option_map, option_and_then}
use Rattle.tab_key.specs.declared.range.Bound.{Bound}
use Rattle.tab_key.specs.declared.range.Bounds.{Bounds}
use Rattle.tab_lines.specs.Gives.{field}
use Rattle.tab_lines.specs.Fields.{bound_of}
use Rattle.tab_lines.specs.Lines.{ranges_of}
use Rattle.tab_lines.proofs.Inverting.{Words, on_read}

abbrev range : Bound → Bound → Bounds
range low high = record { low = low; high = high }

-- both ends of the first range are read, and then the ranges behind it
pub first_range : (l h : List ℕ) (words : Words) (low high : Bound) → bound_of l ≡ Some low → bound_of h ≡ Some high → ranges_of (l ∷ h ∷ words) ≡ option_map (λ rs. range low high ∷ rs) (ranges_of words)
first_range l h words low high b1 b2 =
    ap (λ (o : Option Bound). option_and_then (λ a. option_and_then (λ b. option_map (λ rs. range a b ∷ rs) (ranges_of words)) (bound_of h)) o) b1
    ∙ ap (λ (o : Option Bound). option_and_then (λ b. option_map (λ rs. range low b ∷ rs) (ranges_of words)) o) b2

-- behind the ranges that were read stands one more
one_behind : (done : List Bounds) (r : Bounds) (o : Option (List Bounds)) → option_map (λ rs. (done ++ r ∷ []) ++ rs) o ≡ option_map (λ rs. done ++ rs) (option_map (λ rs. r ∷ rs) o)
one_behind done r None = refl
one_behind done r (Some rs) = ap (λ (xs : List Bounds). Some xs) (append_assoc done (r ∷ []) rs)

-- a range is taken from the words
pub one_taken : (done more : List Bounds) (l : List ℕ) (words rest left : Words) (low high : Bound) → words ≡ l ∷ rest → bound_of l ≡ Some low → field bound_of rest ≡ Some (high, left)
    → more ≡ done ++ range low high ∷ [] → option_map (λ rs. more ++ rs) (ranges_of left) ≡ option_map (λ rs. done ++ rs) (ranges_of words)
one_taken done more l words rest left low high is b1 b2 added =
    let r : Bounds = range low high in
    let P : Words → Type 0 = λ ws. option_map (λ rs. (done ++ r ∷ []) ++ rs) (ranges_of left) ≡ option_map (λ rs. done ++ rs) (ranges_of (l ∷ ws)) in
    let read : P rest = on_read bound_of rest high left P b2 (λ h reads. one_behind done r (ranges_of left) ∙ ap (option_map (λ (rs : List Bounds). done ++ rs)) (sym (first_range l h left low high b1 reads))) in
    ap (λ (xs : List Bounds). option_map (λ rs. xs ++ rs) (ranges_of left)) added ∙ read ∙ ap (λ (ws : Words). option_map (λ rs. done ++ rs) (ranges_of ws)) (sym is)
