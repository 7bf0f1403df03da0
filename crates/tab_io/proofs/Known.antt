-- Known bytes that stay as they are, are taken away, or grow.
use Rattle.std.proofs.Common.{◌≡◌, ℕ, ◌+◌, ◌-◌, List, ◌++◌, length, take, drop, sym, ap, ◌∙◌, subst, arith, length-drop, Option, Some, None}
use Rattle.std.specs.Io.KnownBytes.{Appends, Consumes, Keeps}
use Rattle.std.proofs.KnownBytes.{Appends-trans}
use Rattle.std.proofs.lemmas.List.{take_all}
use Rattle.std.proofs.Math.Seq.{take-add}

-- bytes that stayed, and then were taken
pub kept_consumes : (a b c : Option (List ℕ)) (bs : List ℕ) → Keeps a b → Consumes b c bs → Consumes a c bs
kept_consumes None b c bs p q = tt
kept_consumes (Some x) None c bs p q = absurd p
kept_consumes (Some x) (Some y) None bs p q = absurd q
kept_consumes (Some x) (Some y) (Some z) bs p q = sym p ∙ q

-- bytes that stayed, and then grew
pub kept_appends : (a b c : Option (List ℕ)) (bs : List ℕ) → Keeps a b → Appends b c bs → Appends a c bs
kept_appends None b c bs p q = tt
kept_appends (Some x) None c bs p q = absurd p
kept_appends (Some x) (Some y) None bs p q = absurd q
kept_appends (Some x) (Some y) (Some z) bs p q = q ∙ ap (λ l. l ++ bs) p

-- a beginning was written, and then a beginning of the rest
pub written_more : (a b c : Option (List ℕ)) (bs rest : List ℕ) (done count : ℕ) → rest ≡ take (length bs - done) (drop done bs)
    → Appends a b (take done bs) → Appends b c (take count rest) → Appends a c (take (done + count) bs)
written_more a b c bs rest done count is p q =
    let P : List ℕ → Type 0 = λ r. Appends b c (take count r) in
    let Q : List ℕ → Type 0 = λ w. Appends a c w in
    subst Q (sym (take-add done count bs)) (Appends-trans a b c (take done bs) (take count (drop done bs)) p (subst P (is ∙ take_all (length bs - done) (drop done bs) (omega (arith, length-drop done bs))) q))
