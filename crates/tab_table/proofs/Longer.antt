-- A record that lies in the first bytes of a body lies in the body.
use Rattle.std.proofs.Common.{◌≡◌, ◌≤◌, List, ℕ, ◌++◌, sym, ◌∙◌, ap, length, take, drop, arith}
use Rattle.std.specs.Prelude.{Result, Ok, Err, OnOk}
use Rattle.std.proofs.lemmas.List.{length-take-le, take-take, take_at}
use Rattle.tab_key.specs.Encoding.{record_at, IsAt}
use Rattle.tab_table.proofs.Laid.{still_at, still_record}

module _ (body : List ℕ) (n p : ℕ) (inside : n ≤ length body) (there : IsAt (take n body) p) where
  front : take (length (take n body)) body ≡ take n body
  front = ap (λ k. take k body) (length-take-le n body inside)

  pub longer_at : IsAt body p
  longer_at = still_at (take n body) body front p there

  pub longer_record : record_at body p ≡ record_at (take n body) p
  longer_record = still_record (take n body) body front p there

-- what a vector holds behind a call that was lent all of it
pub back : (items out : List ℕ) (n : ℕ) → n ≡ length items → length out ≡ length items → take n (out ++ drop (length out) items) ≡ out
back items out n is same = take_at out (drop (length out) items) n (omega (arith, is, same))

-- of a body that grew the first bytes are what they were
pub grown_front : (old new : List ℕ) (n : ℕ) → n ≤ length old → take (length old) new ≡ old → take n new ≡ take n old
grown_front old new n inside front = sym (take-take n (length old) new inside) ∙ ap (take n) front

-- what holds holds where there is no error
pub on_ok : {T E : Type 0} (r : Result T E) {P : Type 0} → P → OnOk r P
on_ok (Ok x) p = p
on_ok (Err e) p = tt
