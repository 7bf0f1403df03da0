-- What an event changes has passed its checks, and there were numbers for it.
use Rattle.std.proofs.Common.{◌≡◌, ◌⊎◌, inl, inr, List, [], Bool, true, false, refl, sym, subst}
use Rattle.std.specs.Prelude.{Option, Some, None}
use Rattle.tab_history.specs.Changes.{Change, changes_of}
use Rattle.tab_history.specs.Checks.{Caller, standing, exists_in, user_named, refusal_of}
use Rattle.tab_history.specs.Answers.{Told, told, are_used_up, numbered, granted, changes_by}
use Rattle.tab_history.specs.Legal.{takes_memory}
use Rattle.tab_history.specs.declared.event.Event.{Event}
use Rattle.tab_history.specs.declared.event.Step.TheVariants.{Event as IsEvent}
use Rattle.tab_history.specs.declared.reply.Refusal.{Refusal}
use Rattle.tab_history.specs.declared.reply.Refusal.TheVariants.{NoMemory}
use Rattle.tab_history.specs.declared.reply.Reply.TheVariants.{Refused}
use Rattle.tab_tablets.specs.Parts.{TabletMerge}
use Rattle.tab_store.specs.Stores.{CoreContents, base_of}
use Rattle.tab_store.specs.Stepping.{now_at, plain_answer, told_exactly}

module _ (old : CoreContents) (event : Event) where
  abbrev pub caller : Caller
  caller = standing (base_of old) [] event.user

  -- why its checks refuse it
  abbrev pub refusal : Option Refusal
  refusal = refusal_of caller (exists_in (base_of old) [] (user_named event.act)) (now_at old event) event.user event.act

  -- whether there is no number left for it
  abbrev pub spent : Bool
  spent = are_used_up (base_of old) [] event.act

  -- it is told what the tablets give, or that memory lacked
  abbrev pub IsTold : Option TabletMerge → Told → Told → Type 0
  IsTold given plain r = (r ≡ told_exactly old (now_at old event) given event.act plain) ⊎ ((takes_memory event.act ≡ true) × (r ≡ Refused NoMemory))

  -- What holds where nothing is changed, and of what it changes once it has passed, holds of what it changes.
  module _ (P : List Change → Type 0) (none : P []) (given : Option TabletMerge) where
    of_any : (r : Told) → P (changes_of (now_at old event) event.user event.act) → P (changes_by (now_at old event) (IsEvent event) r)
    of_any (Refused x) p = none
    of_any _ p = p

    of_checks : (o : Option Refusal) (used_up : Bool) (r : Told) → (o ≡ None → used_up ≡ false → P (changes_of (now_at old event) event.user event.act)) → IsTold given (told o (numbered used_up (granted caller event.act))) r
        → P (changes_by (now_at old event) (IsEvent event) r)
    of_checks None false r f t = of_any r (f refl refl)
    of_checks None true r f (inl e) = subst (λ x. P (changes_by (now_at old event) (IsEvent event) x)) (sym e) none
    of_checks (Some k) used_up r f (inl e) = subst (λ x. P (changes_by (now_at old event) (IsEvent event) x)) (sym e) none
    of_checks o used_up r f (inr e) = subst (λ x. P (changes_by (now_at old event) (IsEvent event) x)) (sym e.1) none

    pub of_passed : (r : Told) → (refusal ≡ None → spent ≡ false → P (changes_of (now_at old event) event.user event.act)) → IsTold given (plain_answer old event) r → P (changes_by (now_at old event) (IsEvent event) r)
    of_passed r f t = of_checks refusal spent r f t
