-- For proofs. At its end a cursor has nothing left: the ghost items of a source, which can cite no proofs of their own crate, are these.
use Rattle.std.specs.Prelude.{◌≡◌, ℕ, zero, suc, ◌-◌, ◌≤◌, List, [], ◌∷◌, take, drop, refl}
use Rattle.std.proofs.Common.{◌∙◌, ap}
use Rattle.tab_key.specs.Records.{Record}
use Rattle.tab_mem.specs.Lists.{part}
use Rattle.tab_mem.proofs.Cursors.{left_part}

none_part : (n : ℕ) (rs : List Record) → drop n (take n rs) ≡ []
none_part zero rs = refl
none_part (suc n) [] = refl
none_part (suc n) (r ∷ rs) = none_part n rs

pub nothing_left : (from at end : ℕ) (rs : List Record) → from ≤ at → at ≡ end → drop (at - from) (part from end rs) ≡ []
nothing_left from at end rs le e = left_part from at end rs le ∙ ap (λ k. part k end rs) e ∙ none_part end rs
