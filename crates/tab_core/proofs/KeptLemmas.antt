-- What is kept for users, where that of one of them changes.
use Rattle.std.proofs.Common.{ℕ, ◌≡◌, Bool, true, false, cond, List, Some, None, refl, sym, ap, ◌∙◌, subst, Option, OnSome, MutBor, inl}
use Rattle.std.specs.Prelude.{bytes_eq, is_some}
use Rattle.std.specs.Ordering.{is_eq}
use Rattle.std.specs.Option.{option_copied_mut}
use Rattle.std.specs.Map.{set_value}
use Rattle.std.proofs.lemmas.Map.Steps.{set_value_same}
use Rattle.std.proofs.lemmas.Slice.Eq.{bytes_eq-Decides}
use Rattle.tab_key.specs.Bytes.{bytes_cmp}
use Rattle.tab_policy.specs.Entries.{at_name}
use Rattle.tab_policy.proofs.NameLemmas.{same_name}
use Rattle.tab_cells.specs.SessionState.{SessionState}
use Rattle.tab_history.specs.declared.reply.Refusal.TheVariants.{NoSession}
use Rattle.tab_history.specs.declared.reply.Reply.TheVariants.{Refused}
use Rattle.tab_history.specs.Answers.{Told}
use Rattle.tab_core.specs.declared.sessions.UserSessions.{UserSessions}
use Rattle.tab_core.specs.Slots.{NextFrom, CloseFrom}
use Rattle.tab_core.specs.Sessions.{Keeping, none_kept, kept_in, kept_of, KeepsFor, NextIn, CloseIn}
use Rattle.tab_core.specs.Lending.{Leaves}

-- ---- what stands under a name
-- this stands under the user's name now
abbrev pub Puts : List ℕ → UserSessions → Keeping → Keeping → Type 0
Puts user kept old new = (q : List ℕ) → at_name q new ≡ cond (is_eq (bytes_cmp user q)) (Some kept) (at_name q old)

keeps_written : (user : List ℕ) (kept : UserSessions) (old new : Keeping) → Puts user kept old new → KeepsFor user kept old new
keeps_written user kept old new puts n = ap kept_in (puts n ∙ ap (λ b. cond b (Some kept) (at_name n old)) (same_name user n)) ∙ go (bytes_eq user n)
  where
    go : (b : Bool) → kept_in (cond b (Some kept) (at_name n old)) ≡ cond b kept (kept_of old n)
    go true = refl
    go false = refl

-- what is kept for him is what was
keeps_same : (user : List ℕ) (old new : Keeping) → new ≡ old → KeepsFor user (kept_of old user) old new
keeps_same user old new same n = ap (λ (ks : Keeping). kept_of ks n) same ∙ go (bytes_eq user n) refl
  where
    go : (b : Bool) → bytes_eq user n ≡ b → kept_of old n ≡ cond b (kept_of old user) (kept_of old n)
    go true is = ap (kept_of old) (sym ((bytes_eq-Decides user n).0 is))
    go false away = refl

-- a user for whom nothing was kept comes with nothing
pub none_more : (user : List ℕ) (old new : Keeping) → at_name user old ≡ None → Puts user none_kept old new → (n : List ℕ) → kept_of new n ≡ kept_of old n
none_more user old new none puts n =
    keeps_written user none_kept old new puts n ∙ ap (λ (k : UserSessions). cond (bytes_eq user n) k (kept_of old n)) (sym (ap kept_in none)) ∙ sym (keeps_same user old old refl n)

-- ---- what is lent
-- the user's was lent, if he is there, and this was left
pub leaves : (user : List ℕ) (old new : Keeping) (kept : UserSessions) (lent : Option (MutBor UserSessions)) → option_copied_mut lent ≡ at_name user old → new ≡ set_value (λ m. is_eq (bytes_cmp user m)) old kept
    → (is_some (at_name user old) ≡ true → Puts user kept old new) → OnSome lent (Leaves user old kept new)
leaves user old new kept None is set puts = tt
leaves user old new kept (Some lent) is set puts =
    record { keeps = keeps_written user kept old new (puts (ap is_some (sym is))); same = λ had. set ∙ set_value_same (λ m. is_eq (bytes_cmp user m)) old kept had }

-- where the same was kept for all before he was made one of those for whom something is kept
pub leaves_kept : (user : List ℕ) (old mid new : Keeping) (kept : UserSessions) (lent : Option (MutBor UserSessions)) → ((n : List ℕ) → kept_of mid n ≡ kept_of old n) → OnSome lent (Leaves user mid kept new) → OnSome lent (KeepsFor user kept old new)
leaves_kept user old mid new kept None same left = tt
leaves_kept user old mid new kept (Some lent) same left = λ n. left.keeps n ∙ ap (cond (bytes_eq user n) kept) (same n)

pub kept_value : (user : List ℕ) (old mid : Keeping) (lent : Option (MutBor UserSessions)) → option_copied_mut lent ≡ at_name user mid → ((n : List ℕ) → kept_of mid n ≡ kept_of old n) → OnSome lent (option_copied_mut lent ≡ Some (kept_of old user))
kept_value user old mid None is same = tt
kept_value user old mid (Some lent) is same = ap Some (ap kept_in is ∙ same user)

-- ---- a step of one of his sessions
module _ (old new : Keeping) (user : List ℕ) (number : ℕ) where
  pub next_kept : (count : ℕ) (reply : Told) (was : UserSessions) (slots : List (Option SessionState)) → at_name user old ≡ Some was → NextFrom was.numbered number count reply slots
      → KeepsFor user (record was { numbered = slots }) old new → NextIn old user number count reply new
  next_kept count reply was slots had from keeps =
      let is : was ≡ kept_of old user = sym (ap kept_in had) in
      (slots, subst (λ (k : UserSessions). NextFrom k.numbered number count reply slots) is from, subst (λ (k : UserSessions). KeepsFor user (record k { numbered = slots }) old new) is keeps)

  pub close_kept : (reply : Told) (was : UserSessions) (slots : List (Option SessionState)) → at_name user old ≡ Some was → CloseFrom was.numbered number reply slots
      → KeepsFor user (record was { numbered = slots }) old new → CloseIn old user number reply new
  close_kept reply was slots had from keeps =
      let is : was ≡ kept_of old user = sym (ap kept_in had) in
      (slots, subst (λ (k : UserSessions). CloseFrom k.numbered number reply slots) is from, subst (λ (k : UserSessions). KeepsFor user (record k { numbered = slots }) old new) is keeps)

  -- no session, where nothing is kept for him
  pub next_nowhere : (count : ℕ) → at_name user old ≡ None → new ≡ old → NextIn old user number count (Refused (NoSession number)) new
  next_nowhere count none same =
      let slots : List (Option SessionState) = (kept_of old user).numbered in
      (slots, subst (λ (k : UserSessions). NextFrom k.numbered number count (Refused (NoSession number)) k.numbered) (sym (ap kept_in none)) (record { answers = inl refl; after = refl }), keeps_same user old new same)

  pub close_nowhere : at_name user old ≡ None → new ≡ old → CloseIn old user number (Refused (NoSession number)) new
  close_nowhere none same =
      let slots : List (Option SessionState) = (kept_of old user).numbered in
      (slots, subst (λ (k : UserSessions). CloseFrom k.numbered number (Refused (NoSession number)) k.numbered) (sym (ap kept_in none)) (record { answers = refl; after = refl }), keeps_same user old new same)
