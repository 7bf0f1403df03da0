-- Damage is seen in a window as in all bytes.
use Rattle.std.proofs.Common.{◌≡◌, ℕ, ◌+◌, ◌-◌, ◌≤◌, ◌↔◌, List, ◌++◌, length, drop, refl, sym, ap, ◌∙◌, append_assoc, arith}
use Rattle.std.proofs.lemmas.List.{drop_at, drop-append-le, length-append, length-drop}
use Rattle.tab_journal.specs.declared.seal.Seal.{Seal}
use Rattle.tab_journal.specs.Journals.{Batch}
use Rattle.tab_journal.specs.Damage.{StandsAt, IsDamaged, IsDamagedIn}

module _ (seal : Seal) (front window bytes : List ℕ) (n : ℕ) (spelled : bytes ≡ front ++ window) (counted : n ≡ length front + 8) where
  stands_in_all : (q : ℕ) (b : Batch) → StandsAt seal q window b → StandsAt seal (length front + q) bytes b
  stands_in_all q b s = record {
    ahead = front ++ s.ahead;
    sum = s.sum;
    text = s.text;
    behind = s.behind;
    before = s.before;
    spelled = spelled ∙ ap (λ (z : List ℕ). front ++ z) s.spelled ∙ sym (append_assoc front s.ahead (s.sum ++ (s.text ++ s.behind)));
    place = omega (arith, s.place, length-append front s.ahead);
    summed = s.summed;
    whole = s.whole;
  }

  stands_in_window : (p : ℕ) (b : Batch) → length front + 8 ≤ p → StandsAt seal p bytes b → StandsAt seal (p - length front) window b
  stands_in_window p b low s =
      let k = length front in
      let eight : length s.sum ≡ 8 = ap (λ (z : List ℕ). length z) s.summed.0 in
      let back = s.sum ++ (s.text ++ s.behind) in
      let far : k ≤ length s.ahead = omega (arith, low, eight, s.place) in
      let same : front ++ window ≡ s.ahead ++ back = sym spelled ∙ s.spelled in
      let rest : window ≡ drop k s.ahead ++ back = sym (drop_at front window k refl) ∙ ap (λ (z : List ℕ). drop k z) same ∙ drop-append-le k s.ahead back far in
      record {
        ahead = drop k s.ahead;
        sum = s.sum;
        text = s.text;
        behind = s.behind;
        before = s.before;
        spelled = rest;
        place = omega (arith, low, eight, s.place, far, length-drop k s.ahead);
        summed = s.summed;
        whole = s.whole;
      }

  pub damaged_by_window : IsDamagedIn seal n window ↔ IsDamaged seal n bytes
  damaged_by_window = (
    λ d. (length front + d.0, (d.1.0, stands_in_all d.0 d.1.0 d.1.1, d.1.2, omega (arith, d.1.3, counted))),
    λ d.
        let low : length front + 8 ≤ d.0 = omega (arith, d.1.2, d.1.3, counted) in
        (d.0 - length front, (d.1.0, stands_in_window d.0 d.1.0 low d.1.1, d.1.2, omega (arith, d.1.3, counted, low))),
  )
