-- Two rules, one behind the other, are one rule.
use Rattle.std.proofs.Common.{◌≡◌, ◌+◌, List, [], ◌∷◌, ◌++◌, Bool, true, false, ◌&&◌, refl, sym, ◌∙◌, ap, subst, length, arith}
use Rattle.std.specs.Prelude.{Option, Some, None, filter}
use Rattle.std.specs.Coded.{Coded-set, coded_bool}
use Rattle.std.specs.declared.cmp.Ordering.TheVariants.{Less}
use Rattle.std.proofs.Math.Logic.{∥∥₁_map, ∥∥₁_elim}
use Rattle.std.proofs.lemmas.List.{length-append}
use Rattle.std.proofs.lemmas.List.Elements.{filter-append}
use Rattle.std.proofs.lemmas.List.Kept.{IsStrictlySortedBy-filter}
use Rattle.tab_key.specs.Order.{column_cmp, record_cmp}
use Rattle.tab_key.specs.Records.{Key, Record}
use Rattle.tab_key.specs.Sorted.{IsIn}
use Rattle.tab_key.proofs.Rising.{in_filter, filter_in}
use Rattle.tab_cells.proofs.Lists.{by_bool}
use Rattle.tab_iter.specs.Lists.{tail, IsRising, IsEnd, BeginsColumn}
use Rattle.tab_iter.specs.SourceLaws.{ends_filter}
use Rattle.tab_iter.specs.Both.{admits_both, HaveObserved, aim_of}
use Rattle.tab_iter.proofs.ListLaws.{filter_failing}

-- ---- what is let through of a list
rises_filter : (p : Record → Bool) (w : List Record) → IsRising w → IsRising (filter p w)
rises_filter p w up = IsStrictlySortedBy-filter record_cmp p w up

-- what is let through of the records before a column is of earlier columns
begins_filter : (p : Record → Bool) (rs w : List Record) → BeginsColumn rs w → BeginsColumn (filter p rs) (filter p w)
begins_filter p rs w b = record {
  passed = filter p b.passed;
  whole = sym (filter-append p b.passed rs) ∙ ap (filter p) b.whole;
  apart = λ x u h k. b.apart x u (in_filter p b.passed x h).0 (in_filter p rs u k).0;
}

filter_passing : (p : Record → Bool) (r : Record) (rs : List Record) → p r ≡ true → filter p (r ∷ rs) ≡ r ∷ filter p rs
filter_passing p r rs e = rw e refl

-- ---- a list has one record before an end of it
longer : (v : Record) (qs rs : List Record) → rs ≡ qs ++ v ∷ rs → ⊥
longer v qs rs e =
    let l : length rs ≡ length qs + length (v ∷ rs) = ap length e ∙ length-append qs (v ∷ rs) in
    omega (arith, l)

one_before : (ps qs rs : List Record) (u v : Record) → ps ++ u ∷ rs ≡ qs ++ v ∷ rs → u ≡ v
one_before [] [] rs u v e = cc
one_before [] (q ∷ qs) rs u v e = absurd (longer v qs rs (ap tail e))
one_before (p ∷ ps) [] rs u v e = absurd (longer u ps rs (sym (ap tail e)))
one_before (p ∷ ps) (q ∷ qs) rs u v e = one_before ps qs rs u v (ap tail e)

-- ---- what a rule ensures, by what it admits and knows before and behind
abbrev pub Begins : (List Record → List Record → Type 0) → Type 0
Begins F = (w rs : List Record) → IsRising w → BeginsColumn rs w → ∥ F w rs ∥₁

abbrev pub Judges : (List Record → Record → Bool) → (List Record → List Record → Type 0) → Record → Bool → Type 0
Judges p F r b = (w rs : List Record) → IsRising w → IsEnd (r ∷ rs) w → ∥ F w (r ∷ rs) ∥₁ → b ≡ p w r

abbrev pub Observes : (List Record → List Record → Type 0) → (List Record → List Record → Type 0) → Record → Type 0
Observes F G r = (w rs : List Record) → IsRising w → IsEnd (r ∷ rs) w → ∥ F w (r ∷ rs) ∥₁ → ∥ G w rs ∥₁

abbrev pub Keeps : (List Record → List Record → Type 0) → (List Record → List Record → Type 0) → Type 0
Keeps F G = (w rs : List Record) → ∥ F w rs ∥₁ → ∥ G w rs ∥₁

abbrev pub PassesNone : (List Record → Record → Bool) → (List Record → List Record → Type 0) → Record → Key → Type 0
PassesNone p F r k = (w rs : List Record) → IsRising w → IsEnd (r ∷ rs) w → ∥ F w rs ∥₁ → p w r ≡ false → (u : Record) → IsIn rs u → column_cmp u.key k ≡ Less → p w u ≡ false

-- ---- both as one
-- at the start of a column it isn't known whether the first lets a record through
pub begins_both : (p : List Record → Record → Bool) (F S : List Record → List Record → Type 0) → Begins F → Begins S → Begins (HaveObserved p F S None)
begins_both p F S f s w rs up b = ∣ record {
  first = f w rs up b;
  second = s (filter (p w) w) (filter (p w) rs) (rises_filter (p w) w up) (begins_filter (p w) rs w b);
  told = λ c e. cc;
} ∣₁

module _ (p q : List Record → Record → Bool) (F S : List Record → List Record → Type 0) where
  second_held : (w : List Record) (r : Record) (rs : List Record) → p w r ≡ false → ∥ S (filter (p w) w) (filter (p w) (r ∷ rs)) ∥₁ → ∥ S (filter (p w) w) (filter (p w) rs) ∥₁
  second_held w r rs e h = subst (λ l. ∥ S (filter (p w) w) l ∥₁) (filter_failing (p w) r rs e) h

  second_passed : (w : List Record) (r : Record) (rs : List Record) → p w r ≡ true → ∥ S (filter (p w) w) (filter (p w) (r ∷ rs)) ∥₁ → ∥ S (filter (p w) w) (r ∷ filter (p w) rs) ∥₁
  second_passed w r rs e h = subst (λ l. ∥ S (filter (p w) w) l ∥₁) (filter_passing (p w) r rs e) h

  end_passed : (w : List Record) (r : Record) (rs : List Record) → p w r ≡ true → IsEnd (r ∷ rs) w → IsEnd (r ∷ filter (p w) rs) (filter (p w) w)
  end_passed w r rs e end = subst (λ l. IsEnd l (filter (p w) w)) (filter_passing (p w) r rs e) (ends_filter (p w) (r ∷ rs) w end)

  told_of : (w : List Record) (r : Record) (rs : List Record) (b : Bool) → p w r ≡ b → IsEnd (r ∷ rs) w → (c : Bool) → Some b ≡ Some c → (u : Record) → IsEnd (u ∷ rs) w → p w u ≡ c
  told_of w r rs b e end c s u k =
      let same : u ≡ r = one_before k.passed end.passed rs u r (k.whole ∙ sym end.whole) in
      let is : b ≡ c = cc in
      ap (p w) same ∙ e ∙ is

  module _ (passed : Option Bool) (r : Record) (b : Bool) (judged : Judges p F r b) where
    -- the first holds the record back
    pub judges_held : b ≡ false → Judges (admits_both p q) (HaveObserved p F S passed) r false
    judges_held e w rs up end t = ∥∥₁_elim t (Coded-set coded_bool _ _) (λ h.
        ap (λ v. v && q (filter (p w) w) r) (sym e ∙ judged w rs up end h.first))

    pub observes_held : (p2 : List Record → Record → Bool) (F2 : List Record → List Record → Type 0) → p2 ≡ p → b ≡ false → Observes F F2 r → Observes (HaveObserved p F S passed) (HaveObserved p2 F2 S (Some false)) r
    observes_held p2 F2 same e seen w rs up end t = subst (λ n. ∥ HaveObserved n F2 S (Some false) w rs ∥₁) (sym same) (∥∥₁_map t (λ h.
        let no : p w r ≡ false = sym (judged w rs up end h.first) ∙ e in
        record { first = seen w rs up end h.first; second = second_held w r rs no h.second; told = told_of w r rs false no end }))

    -- .. or lets it through
    pub judges_passed : (c : Bool) → b ≡ true → Judges q S r c → Judges (admits_both p q) (HaveObserved p F S passed) r c
    judges_passed c e later w rs up end t = ∥∥₁_elim t (Coded-set coded_bool _ _) (λ h.
        let yes : p w r ≡ true = sym (judged w rs up end h.first) ∙ e in
        later (filter (p w) w) (filter (p w) rs) (rises_filter (p w) w up) (end_passed w r rs yes end) (second_passed w r rs yes h.second)
        ∙ ap (λ v. v && q (filter (p w) w) r) (sym yes))

    pub observes_passed : (p2 : List Record → Record → Bool) (F2 S2 : List Record → List Record → Type 0) → p2 ≡ p → b ≡ true → Observes F F2 r → Observes S S2 r → Observes (HaveObserved p F S passed) (HaveObserved p2 F2 S2 (Some true)) r
    observes_passed p2 F2 S2 same e seen later w rs up end t = subst (λ n. ∥ HaveObserved n F2 S2 (Some true) w rs ∥₁) (sym same) (∥∥₁_map t (λ h.
        let yes : p w r ≡ true = sym (judged w rs up end h.first) ∙ e in
        record {
          first = seen w rs up end h.first;
          second = later (filter (p w) w) (filter (p w) rs) (rises_filter (p w) w up) (end_passed w r rs yes end) (second_passed w r rs yes h.second);
          told = told_of w r rs true yes end;
        }))

  -- ---- an aim
  module _ (passed : Option Bool) where
    pub keeps_first : (p2 : List Record → Record → Bool) (F2 : List Record → List Record → Type 0) → p2 ≡ p → Keeps F F2 → Keeps (HaveObserved p F S passed) (HaveObserved p2 F2 S passed)
    keeps_first p2 F2 same keeps w rs t = subst (λ n. ∥ HaveObserved n F2 S passed w rs ∥₁) (sym same) (∥∥₁_map t (λ h.
        record { first = keeps w rs h.first; second = h.second; told = h.told }))

    pub keeps_second : (S2 : List Record → List Record → Type 0) → Keeps S S2 → Keeps (HaveObserved p F S passed) (HaveObserved p F S2 passed)
    keeps_second S2 keeps w rs t = ∥∥₁_map t (λ h. record { first = h.first; second = keeps (filter (p w) w) (filter (p w) rs) h.second; told = h.told })

    -- behind a record that the first holds back
    pub none_first : (r : Record) (a b : Key) → passed ≡ Some false → PassesNone p F r a → PassesNone (admits_both p q) (HaveObserved p F S passed) r (aim_of passed a b)
    none_first r a b e none w rs up end t held u i l = ∥∥₁_elim t (Coded-set coded_bool _ _) (λ h.
        ap (λ v. v && q (filter (p w) w) u) (none w rs up end h.first (h.told false e r end) u i (sym (ap (λ o. column_cmp u.key (aim_of o a b)) e) ∙ l)))

    -- behind one that only the second holds back
    pub none_second : (r : Record) (a b : Key) → passed ≡ Some true → PassesNone q S r b → PassesNone (admits_both p q) (HaveObserved p F S passed) r (aim_of passed a b)
    none_second r a b e none w rs up end t held u i l = ∥∥₁_elim t (Coded-set coded_bool _ _) (λ h.
        let yes : p w r ≡ true = h.told true e r end in
        let back : q (filter (p w) w) r ≡ false = sym (ap (λ v. v && q (filter (p w) w) r) yes) ∙ held in
        by_bool (p w u)
        (λ through. ap (λ v. v && q (filter (p w) w) u) through ∙ none (filter (p w) w) (filter (p w) rs) (rises_filter (p w) w up) (end_passed w r rs yes end) h.second back u (filter_in (p w) rs u i through) (sym (ap (λ o. column_cmp u.key (aim_of o a b)) e) ∙ l))
        (λ no. ap (λ v. v && q (filter (p w) w) u) no))
