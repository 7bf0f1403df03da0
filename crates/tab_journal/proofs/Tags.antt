-- Where a tagged batch stands its tag occurs.
use Rattle.std.proofs.Common.{◌≡◌, ℕ, ◌+◌, ◌-◌, ◌≤◌, ◌↔◌, false, true, List, ◌++◌, length, take, drop, Some, None, refl, sym, ap, subst, ◌∙◌, append_assoc, drop-drop, arith, inl, inr}
use Rattle.std.specs.Int.{w64, to_be_bytes}
use Rattle.std.proofs.lemmas.Bool.{cases_lt}
use Rattle.std.proofs.lemmas.List.{take_at, drop_at, length-append, length-drop}
use Rattle.memchr.specs.Find.{OccursAt, FindsNeedle}
use Rattle.memchr.proofs.lemmas.MatchLemmas.{OccursAt-from_part}
use Rattle.tab_journal.specs.declared.seal.Form.{Form}
use Rattle.tab_journal.specs.declared.seal.Form.TheVariants.{Tagged}
use Rattle.tab_journal.specs.declared.seal.Seal.{Seal}
use Rattle.tab_journal.specs.Journals.{IsTagOf}
use Rattle.tab_journal.specs.Damage.{IsLaterIn, IsDamagedIn}
use Rattle.tab_journal.proofs.Damaging.{no, NoneBefore}

-- a list that is parted at a place, from another one on
drop_drop_at : (xs ys : List ℕ) (m n : ℕ) → n + m ≡ length xs → drop m (drop n (xs ++ ys)) ≡ ys
drop_drop_at xs ys m n is = drop-drop m n (xs ++ ys) ∙ drop_at xs ys (n + m) (omega (arith, is))

module _ (seal : Seal) (window : List ℕ) (n : ℕ) (tagged : seal.form ≡ Tagged) where
  abbrev pub tag : List ℕ
  tag = to_be_bytes w64 seal.salt

  tag_occurs : (from q : ℕ) → from ≤ q → IsLaterIn seal n window q → OccursAt (drop from window) tag (q - from)
  tag_occurs from q le later =
      let s = later.1 in
      let i = s.whole in
      let is : i.t ≡ tag = (subst (λ (form : Form). IsTagOf form seal.salt i.t) tagged i.tag).0 in
      let front = s.ahead ++ s.sum in
      let long : length front ≡ q = length-append s.ahead s.sum ∙ sym s.place in
      let whole : window ≡ front ++ (tag ++ (i.r ++ s.behind)) =
      s.spelled ∙ sym (append_assoc s.ahead s.sum (s.text ++ s.behind))
      ∙ ap (λ (z : List ℕ). front ++ z) (ap (λ (z : List ℕ). z ++ s.behind) i.whole ∙ append_assoc i.t i.r s.behind ∙ ap (λ (z : List ℕ). z ++ (i.r ++ s.behind)) is) in
      let there : drop (q - from) (drop from window) ≡ tag ++ (i.r ++ s.behind) = ap (λ (z : List ℕ). drop (q - from) (drop from z)) whole ∙ drop_drop_at front (tag ++ (i.r ++ s.behind)) (q - from) from (omega (arith, le, long)) in
      let all : length window ≡ length front + length (tag ++ (i.r ++ s.behind)) = ap (λ (z : List ℕ). length z) whole ∙ length-append front (tag ++ (i.r ++ s.behind)) in
      OccursAt-from_part (drop from window) tag (q - from) (omega (arith, le, long, all, length-drop from window, length-append tag (i.r ++ s.behind)))
      (ap (λ (z : List ℕ). take (length tag) z) there ∙ take_at tag (i.r ++ s.behind) (length tag) refl)

  -- the first tag from a place on
  pub none_before_tag : (from at : ℕ) → NoneBefore seal window n from → FindsNeedle (drop from window) tag 0 (Some at) → NoneBefore seal window n (from + at)
  none_before_tag from at none found q later = elim (cases_lt q (from + at)) [
    | inl less ↦ absurd (found.0.before (q - from) (omega arith) (omega (arith, less, none q later, found.0.high)) (tag_occurs from q (none q later) later))
    | inr le ↦ le
  ]

  pub none_without_tag : (from : ℕ) → NoneBefore seal window n from → FindsNeedle (drop from window) tag 0 None → (false ≡ true) ↔ IsDamagedIn seal n window
  none_without_tag from none nowhere = no (λ (d : IsDamagedIn seal n window).
      let le = none d.0 d.1 in
      let occurs = tag_occurs from d.0 le d.1 in
      nowhere (d.0 - from) (omega arith) (omega (arith, occurs.fits)) occurs)

  module _ (from : ℕ) (hay needle : List ℕ) (here : hay ≡ drop from window) (is : needle ≡ tag) (none : NoneBefore seal window n from) where
    pub none_before_found : (at : ℕ) → FindsNeedle hay needle 0 (Some at) → NoneBefore seal window n (from + at)
    none_before_found at found =
        none_before_tag from at none (subst (λ (z : List ℕ). FindsNeedle z tag 0 (Some at)) here (subst (λ (z : List ℕ). FindsNeedle hay z 0 (Some at)) is found))

    pub none_if_missing : FindsNeedle hay needle 0 None → (false ≡ true) ↔ IsDamagedIn seal n window
    none_if_missing missing =
        none_without_tag from none (subst (λ (z : List ℕ). FindsNeedle z tag 0 None) here (subst (λ (z : List ℕ). FindsNeedle hay z 0 None) is missing))
