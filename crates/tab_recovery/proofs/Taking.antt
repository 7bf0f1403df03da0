-- What is left where a journal is taken up.
use Rattle.std.proofs.Common.{◌≡◌, ℕ, List, length, take, refl, sym, ap, subst, ◌∙◌, arith}
use Rattle.std.proofs.lemmas.List.{take_all}
use Rattle.tab_codec.specs.Parts.{IsBytes}
use Rattle.tab_journal.specs.Device.{Only}
use Rattle.tab_recovery.specs.Cutting.{Cut}
use Rattle.tab_recovery.specs.TakingUp.{end_of, KeepsAll}
use Rattle.tab_recovery.proofs.Beginnings.{cuts_keep_all, cut_keeps}

-- before anything is cut
pub keeps_still : (bytes seen : List ℕ) (may_leave : List ℕ → Type 0) → seen ≡ bytes → Only seen may_leave → (c : List ℕ) → may_leave c → KeepsAll bytes c
keeps_still bytes seen may_leave there only c left =
    subst (KeepsAll bytes) (sym (only c left ∙ there)) (record { front = sym (take_all (length bytes) bytes (omega arith)); same = refl; sound = λ sound. sound })

module _ (bytes seen : List ℕ) (n : ℕ) (fits : IsBytes bytes) (there : seen ≡ bytes) (end : n ≡ end_of bytes) where
  pub keeps_cut : (c : List ℕ) → Cut n seen c → KeepsAll bytes c
  keeps_cut c cut = cut_keeps bytes c fits (subst (λ (k : ℕ). Cut k bytes c) end (subst (λ (z : List ℕ). Cut n z c) there cut))

  pub keeps_end : (new : List ℕ) → new ≡ take n seen → KeepsAll bytes new
  keeps_end new is =
      let same : new ≡ take (end_of bytes) bytes = is ∙ ap (λ (z : List ℕ). take n z) there ∙ ap (λ (k : ℕ). take k bytes) end in
      subst (KeepsAll bytes) (sym same) (cuts_keep_all bytes (end_of bytes) fits (omega arith))
