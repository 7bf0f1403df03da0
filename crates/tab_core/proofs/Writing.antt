-- A mutation written, or refused.
use Rattle.std.proofs.Common.{◌≡◌, ◌⊎◌, inl, inr, ℕ, ◌+◌, List, [], ◌∷◌, ◌++◌, Bool, true, false, refl, Option, sym, ◌∙◌, ap, subst, Some, None}
use Rattle.std.specs.Prelude.{ℤ, nat_le}
use Rattle.tab_key.specs.declared.limited_part.LimitedPart.TheVariants.{Numbers}
use Rattle.tab_mutation.specs.Mutations.{Mutation}
use Rattle.tab_mutation.specs.Shape.{first_some, when}
use Rattle.tab_policy.specs.State.{readings, auths_of, table_exists}
use Rattle.tab_cells.specs.Written.{mutation_records}
use Rattle.tab_store.specs.Tablets.{written}
use Rattle.tab_history.specs.declared.event.Act.TheVariants as act
use Rattle.tab_history.specs.declared.reply.Refusal.{Refusal}
use Rattle.tab_history.specs.declared.reply.Refusal.TheVariants.{TooLarge, NoMemory}
use Rattle.tab_history.specs.declared.reply.Reply.TheVariants.{Done, Refused}
use Rattle.tab_history.specs.Changes.{changes_of}
use Rattle.tab_history.specs.Readings.{has_user, user_count, held_auths, has_system_right, has_table_right, table_count, settings_of, next_number}
use Rattle.tab_history.specs.Checks.{standing, mutation_checks}
use Rattle.tab_history.specs.Answers.{Told, told, numbered}
use Rattle.tab_store.specs.ByRow.{at_row}
use Rattle.tab_store.specs.Stores.{TableContents, CoreContents, base_of}
use Rattle.tab_store.specs.Stepping.{Writing, On, lays}
use Rattle.tab_store.specs.Tables.{TableState, with_tablets, table_at, settings_at}
use Rattle.tab_store.proofs.Changed.{settings_read, count_read, settings_kept, table_written}
use Rattle.tab_core.specs.Stepping.{Acts, ActsOnTables, own_answer, IsCore, write_checks}
use Rattle.tab_core.proofs.Acting.{becomes, knows_alike, done_exactly, refused}
use Rattle.tab_core.proofs.Lent.{Alters}

-- the check that stands last
last_check : (os : List (Option Refusal)) (used_up : Bool) (reply : Told) → told (first_some os) (numbered used_up reply) ≡ told (first_some (os ++ when used_up (TooLarge Numbers) ∷ [])) reply
last_check [] true reply = refl
last_check [] false reply = refl
last_check (None ∷ os) used_up reply = last_check os used_up reply
last_check (Some r ∷ os) used_up reply = refl

-- ---- the answer
own_write : (h : CoreContents) (now : ℤ) (user t : List ℕ) (m : Mutation) (auths : List (List ℕ)) → auths_of h.policy user ≡ auths
    → own_answer (base_of h) now user (act.Write t m) ≡ told (first_some (write_checks (settings_at (table_at h.tables t)) auths now m h.next)) Done
unfolding standing held_auths next_number
own_write h now user t m auths held =
    (λ i. told (first_some (mutation_checks (settings_read h t i) (held i) now m)) (numbered (nat_le 18446744073709551615 h.next) Done)) ∙ last_check (mutation_checks (settings_at (table_at h.tables t)) auths now m) (nat_le 18446744073709551615 h.next) Done

-- the first check that fails, or want of memory
abbrev pub Checks : List (List ℕ) → ℤ → List ℕ → Mutation → List TableContents → ℕ → Option Refusal → Type 0
Checks auths now t m ts nx o = (o ≡ first_some (write_checks (settings_at (table_at ts t)) auths now m nx)) ⊎ (o ≡ Some NoMemory)

-- what was found of the table that is there
pub checked : (auths : List (List ℕ)) (now : ℤ) (t : List ℕ) (m : Mutation) (ts : List TableContents) (nx : ℕ) (o : Option Refusal) (s : TableState) → table_at ts t ≡ Some s
    → (o ≡ first_some (write_checks (Some s.settings) auths now m nx)) ⊎ (o ≡ Some NoMemory) → Checks auths now t m ts nx o
checked auths now t m ts nx o s had = subst (λ (x : Option TableState). (o ≡ first_some (write_checks (settings_at x) auths now m nx)) ⊎ (o ≡ Some NoMemory)) (sym had)

write_refused : (h : CoreContents) (now : ℤ) (user t : List ℕ) (m : Mutation) (auths : List (List ℕ)) (r : Refusal) → IsCore h → auths_of h.policy user ≡ auths → Checks auths now t m h.tables h.next (Some r)
    → Acts (own_answer (base_of h) now user (act.Write t m)) h now None user (act.Write t m) (Refused r) h
write_refused h now user t m auths r core held fails = refused (own_answer (base_of h) now user (act.Write t m)) h now user (act.Write t m) r core (go fails)
  where
    go : Checks auths now t m h.tables h.next (Some r) → (Refused r ≡ own_answer (base_of h) now user (act.Write t m)) ⊎ ((true ≡ true) × (r ≡ NoMemory))
    go (inl e) = inl (ap (λ o. told o Done) e ∙ sym (own_write h now user t m auths held))
    go (inr e) = let is : r ≡ NoMemory = cc in inr (refl, is)

-- a table with the mutation in its tablet of the row
abbrev pub written_at : Mutation → ℤ → ℕ → TableState → TableState
written_at m now next = with_tablets (at_row m.row (λ x. written (mutation_records next now m) x ∷ []))

-- what a write leaves of these tables
abbrev pub Wrote : List ℕ → Mutation → ℤ → ℕ → List TableContents → List TableContents → Type 0
Wrote t m now next = Alters t (written_at m now next)

write_done : (h : CoreContents) (ts : List TableContents) (now : ℤ) (user t : List ℕ) (m : Mutation) (auths : List (List ℕ)) → IsCore h → auths_of h.policy user ≡ auths → Checks auths now t m h.tables h.next None → Wrote t m now h.next h.tables ts
    → Acts (own_answer (base_of h) now user (act.Write t m)) h now None user (act.Write t m) Done (record h { next = h.next + 1; tables = ts })
unfolding lays readings next_number has_user user_count held_auths has_system_right has_table_right table_count settings_of
write_done h ts now user t m auths core held passes after =
    let new : CoreContents = record h { next = h.next + 1; tables = ts } in
    let settings : (q : List ℕ) → settings_of (base_of (record h { tables = ts })) [] q ≡ settings_of (base_of h) [] q = settings_kept h (record h { tables = ts }) t (written_at m now h.next) (λ s. refl) after.changed in
    record {
      exact = done_exactly h new now (act.Write t m) (own_answer (base_of h) now user (act.Write t m)) (On t (Writing m)) refl (go passes ∙ sym (own_write h now user t m auths held)) refl (table_written h new t now Done m after.changed) after.names refl refl;
      becomes = becomes h (h.next + 1) h.policy ts (changes_of now user (act.Write t m)) (table_exists h.policy) refl refl (after.count ∙ sym (count_read h)) settings;
      hands = tt;
      knows = knows_alike h ts core settings;
    }
  where
    go : Checks auths now t m h.tables h.next None → Done ≡ told (first_some (write_checks (settings_at (table_at h.tables t)) auths now m h.next)) Done
    go (inl e) = ap (λ o. told o Done) e
    go (inr e) = absurd (cc)

-- ---- the same of whichever core has these tables and this next number
pub refuses : (auths : List (List ℕ)) (now : ℤ) (t : List ℕ) (m : Mutation) (ts : List TableContents) (nx : ℕ) (r : Refusal) → Checks auths now t m ts nx (Some r) → ActsOnTables auths now (act.Write t m) ts nx (Refused r) ts nx
refuses auths now t m ts nx r fails h user core tables next held =
    subst (λ (us : List TableContents). Acts (own_answer (base_of h) now user (act.Write t m)) h now None user (act.Write t m) (Refused r) (record h { next = nx; tables = us })) tables
    (subst (λ (n : ℕ). Acts (own_answer (base_of h) now user (act.Write t m)) h now None user (act.Write t m) (Refused r) (record h { next = n })) next
    (write_refused h now user t m auths r core held (subst (λ (n : ℕ). Checks auths now t m h.tables n (Some r)) (sym next) (subst (λ (us : List TableContents). Checks auths now t m us nx (Some r)) (sym tables) fails))))

pub wrote : (auths : List (List ℕ)) (now : ℤ) (t : List ℕ) (m : Mutation) (ts new : List TableContents) (nx : ℕ) → Checks auths now t m ts nx None → Wrote t m now nx ts new → ActsOnTables auths now (act.Write t m) ts nx Done new (nx + 1)
wrote auths now t m ts new nx passes after h user core tables next held =
    subst (λ (n : ℕ). Acts (own_answer (base_of h) now user (act.Write t m)) h now None user (act.Write t m) Done (record h { next = n + 1; tables = new })) next
    (write_done h new now user t m auths core held
    (subst (λ (n : ℕ). Checks auths now t m h.tables n None) (sym next) (subst (λ (us : List TableContents). Checks auths now t m us nx None) (sym tables) passes))
    (subst (λ (n : ℕ). Wrote t m now n h.tables new) (sym next) (subst (λ (us : List TableContents). Wrote t m now nx us new) (sym tables) after)))
