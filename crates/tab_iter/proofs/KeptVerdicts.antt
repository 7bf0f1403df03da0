-- Verdicts that are found again and kept.
use Rattle.std.proofs.Common.{◌≡◌, ℕ, zero, suc, ◌+◌, ◌-◌, List, [], ◌∷◌, ◌++◌, take, drop, sym, refl, ◌∙◌, ap, subst, ◌<◌, length, get_or, arith, length-append, Vec, Global, map}
use Rattle.std.specs.Prelude.{true, bytes_eq}
use mathlib.Core.Bool.{true≢false}
use Rattle.std.specs.Cmp.{first_so, second_so}
use Rattle.std.specs.Cmp.Lexicographic.{pointwise, bytes_decides}
use Rattle.std.specs.List.{insert, slice_range}
use Rattle.std.proofs.lemmas.List.{take_at, take_all, drop_at}
use Rattle.tab_key.proofs.Bodies.{same_part}
use Rattle.tab_label.specs.Holding.{label_holds}
use Rattle.tab_iter.specs.declared.verdicts.Verdict.{Verdict}
use Rattle.tab_iter.specs.Verdicts.{label_in, IsIn, AreSound}

pub sound_at : (auths : List (List ℕ)) (body : List ℕ) (js : List Verdict) (k : ℕ) (j : Verdict) → k < length js → j ≡ get_or js k j → AreSound auths body js → IsIn body j × (j.holds ≡ label_holds (label_in body j) auths)
sound_at auths body [] k j lt is s = absurd (omega (arith, lt))
sound_at auths body (i ∷ js) zero j lt is s = subst (λ (v : Verdict). IsIn body v × (v.holds ≡ label_holds (label_in body v) auths)) (sym is) s.0
sound_at auths body (i ∷ js) (suc k) j lt is s = sound_at auths body js k j (omega (arith, lt)) is s.1

-- what comes behind the labels changes none
module _ (auths : List (List ℕ)) (body more : List ℕ) where
  front : take (length body) (body ++ more) ≡ body
  front = take_at body more (length body) refl

  one_behind : (v : Verdict) → IsIn body v × (v.holds ≡ label_holds (label_in body v) auths) → IsIn (body ++ more) v × (v.holds ≡ label_holds (label_in (body ++ more) v) auths)
  one_behind v (in_, right) = (
    record { order = in_.order; within = omega (arith, in_.within, length-append body more) },
    right ∙ ap (λ l. label_holds l auths) (sym (same_part body (body ++ more) front v.start v.end in_.order in_.within)),
  )

  pub sound_behind : (js : List Verdict) → AreSound auths body js → AreSound auths (body ++ more) js
  sound_behind [] s = tt
  sound_behind (j ∷ js) s = (one_behind j s.0, sound_behind js s.1)

-- one verdict more, at a place among them, on the label that was put behind the others
pub sound_more : (auths : List (List ℕ)) (body label new : List ℕ) (js now : List Verdict) (k : ℕ) (j : Verdict) → new ≡ body ++ label → now ≡ insert js k j → j.start ≡ length body → j.end ≡ length new → j.holds ≡ label_holds label auths → AreSound auths body js → AreSound auths new now
sound_more auths body label new js now k j grown is start end right s = subst (λ (vs : List Verdict). AreSound auths new vs) (sym is) (go js k (subst (λ (b : List ℕ). AreSound auths b js) (sym grown) (sound_behind auths body label js s)))
  where
    there : label_in new j ≡ label
    there =
        let size : length new ≡ length body + length label = ap length grown ∙ length-append body label in
        (λ i. slice_range (grown i) (start i) (end i)) ∙ ap (λ t. take (length new - length body) t) (drop_at body label (length body) refl) ∙ take_all (length new - length body) label (omega (arith, size))

    here : IsIn new j × (j.holds ≡ label_holds (label_in new j) auths)
    here =
        let size : length new ≡ length body + length label = ap length grown ∙ length-append body label in
        (record { order = omega (arith, start, end, size); within = omega (arith, end) }, right ∙ ap (λ l. label_holds l auths) (sym there))

    go : (is : List Verdict) (n : ℕ) → AreSound auths new is → AreSound auths new (take n is ++ j ∷ drop n is)
    go is zero s = (here, s)
    go [] (suc n) s = (here, s)
    go (i ∷ is) (suc n) s = (s.0, go is n s.1)

-- byte strings that are equal one by one are the same
pub same_strings : (xs ys : List (Vec ℕ Global)) → pointwise (λ x y. bytes_eq x.items y.items) xs ys ≡ true → map (λ (v : Vec ℕ Global). v.items) xs ≡ map (λ (v : Vec ℕ Global). v.items) ys
same_strings [] [] e = refl
same_strings [] (y ∷ ys) e = absurd (true≢false (sym e))
same_strings (x ∷ xs) [] e = absurd (true≢false (sym e))
same_strings (x ∷ xs) (y ∷ ys) e =
    let one = (bytes_decides x.items y.items).0 (first_so (bytes_eq x.items y.items) (pointwise (λ (a b : Vec ℕ Global). bytes_eq a.items b.items) xs ys) e) in
    let rest = same_strings xs ys (second_so (bytes_eq x.items y.items) (pointwise (λ (a b : Vec ℕ Global). bytes_eq a.items b.items) xs ys) e) in
    λ i. one i ∷ rest i
