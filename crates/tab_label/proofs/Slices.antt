-- Parts of a text that grow by a byte.
use Rattle.std.proofs.Common.{◌≡◌, ℕ, ◌+◌, ◌-◌, ◌<◌, ◌≤◌, List, [], ◌∷◌, ◌++◌, length, take, drop, get_or, slice_range, slice_index, ap, ◌∙◌, length-drop, get_or-drop, drop-cons, Bool, refl, arith}
use Rattle.std.proofs.lemmas.List.{take_more}
use Rattle.std.proofs.Math.ListN.{drop_of_length-le}
use Rattle.std.specs.declared.cmp.Ordering.TheVariants.{Greater}
use Rattle.tab_key.specs.Bytes.{bytes_cmp}
use Rattle.tab_label.specs.Judging.{undone}

-- a part that ends a byte later
pub range_more : (text : List ℕ) (start i : ℕ) → start ≤ i → i < length text → slice_range text start (i + 1) ≡ slice_range text start i ++ slice_index text i ∷ []
range_more text start i le lt =
    let longer : (i + 1) - start ≡ (i - start) + 1 = omega arith in
    let place : start + (i - start) ≡ i = omega arith in
    let within : i - start < length (drop start text) = omega (arith, length-drop start text) in
    ap (λ (n : ℕ). take n (drop start text)) longer ∙ take_more (drop start text) (i - start) 0 within ∙ ap (λ (b : ℕ). take (i - start) (drop start text) ++ b ∷ []) (get_or-drop start text (i - start) 0 ∙ ap (λ (n : ℕ). get_or text n 0) place)

-- A byte string that goes on where the other is at its end is above it.
pub goes_on_above : (member quoted : List ℕ) (at i : ℕ) → at < length member → length quoted ≤ i → (escaping : Bool) → bytes_cmp (drop at member) (undone (drop i quoted) escaping) ≡ Greater
goes_on_above member quoted at i lt le escaping = rw (drop_of_length-le quoted {i = i} le, drop-cons member at 0 lt) refl
