-- For proofs. What ghost fields hold are propositions: each fact has one proof.
use Rattle.std.specs.Prelude.{◌≡◌, ℕ, List, [], ◌∷◌, Bool, false}
use Rattle.std.specs.List.{AllByRecursion-prop}
use Rattle.std.specs.Coded.{×_prop, Unit-prop, Coded-set, coded_bool, le_prop}
use mathlib.Core.HLevel.{Π_prop, ⊥_prop}
use Rattle.tab_key.specs.Records.{Record}
use Rattle.tab_key.specs.Sorted.{IsDistinct}
use Rattle.tab_iter.specs.Lists.{HasI64Timestamps}
use Rattle.tab_iter.specs.Bags.{IsDescending, Covers}
use Rattle.tab_iter.specs.Verdicts.{IsIn, AreSound, Tells, AreTold, IsSound}
use Rattle.tab_iter.specs.declared.verdicts.Verdict.{Verdict}
use Rattle.tab_iter.specs.declared.verdicts.Verdicts.{Verdicts}

pub HasI64Timestamps-prop : (xs : List Record) → IsProp (HasI64Timestamps xs)
HasI64Timestamps-prop xs = Π_prop λ _. Π_prop λ _. Coded-set coded_bool _ _

pub IsDistinct-prop : (xs : List Record) → IsProp (IsDistinct xs)
IsDistinct-prop [] = Unit-prop
IsDistinct-prop (x ∷ xs) = ×_prop (AllByRecursion-prop _ (λ y. Π_prop λ _. ⊥_prop) xs) (IsDistinct-prop xs)

pub IsDescending-prop : (unpositioned : Bool) (xss : List (List Record)) (os : List ℕ) → IsProp (unpositioned ≡ false → IsDescending xss os)
IsDescending-prop unpositioned xss os = Π_prop λ _. go os
  where
    go : (ps : List ℕ) → IsProp (IsDescending xss ps)
    go [] = Unit-prop
    go (p ∷ ps) = ×_prop (Coded-set coded_bool _ _) (×_prop (AllByRecursion-prop _ (λ q. ×_prop (Π_prop λ _. ⊥_prop) (Coded-set coded_bool _ _)) ps) (go ps))

pub Covers-prop : (unpositioned : Bool) (xss : List (List Record)) (os : List ℕ) → IsProp (unpositioned ≡ false → Covers xss os)
Covers-prop unpositioned xss os = Π_prop λ _. Π_prop λ _. Π_prop λ _. Coded-set coded_bool _ _

IsIn-prop : (body : List ℕ) (j : Verdict) → IsProp (IsIn body j)
IsIn-prop body j a b = λ i. record { order = le_prop a.order b.order i; within = le_prop a.within b.within i }

AreSound-prop : (auths : List (List ℕ)) (body : List ℕ) (js : List Verdict) → IsProp (AreSound auths body js)
AreSound-prop auths body [] = Unit-prop
AreSound-prop auths body (j ∷ js) = ×_prop (×_prop (IsIn-prop body j) (Coded-set coded_bool _ _)) (AreSound-prop auths body js)

AreTold-prop : (auths : List (List ℕ)) (numbers : List ℕ) → IsProp (AreTold auths numbers)
AreTold-prop auths numbers = AllByRecursion-prop (Tells auths) (λ _. Π_prop λ _. Π_prop λ _. Π_prop λ _. Π_prop λ _. Π_prop λ _. Coded-set coded_bool _ _) numbers

pub IsSound-prop : (auths : List (List ℕ)) (v : Verdicts) → IsProp (IsSound auths v)
IsSound-prop auths v = ×_prop (AreSound-prop auths v.body.items v.kept.items) (AreTold-prop auths v.numbers.items)
