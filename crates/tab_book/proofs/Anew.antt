-- What a rotation is told, and on what a history begins anew.
use Rattle.std.proofs.Common.{◌≡◌, ◌⊎◌, inl, inr, ℕ, ℤ, ◌+◌, List, [], ◌∷◌, ◌++◌, Bool, true, false, true≢false, IsTrue, ◌↔◌, Option, Some, None, length, length-append, sym, ap, ◌∙◌, subst, arith}
use Rattle.tab_core.specs.OpenSession.{OpenSession}
use Rattle.tab_core.specs.Parts.{TabletMerge}
use Rattle.tab_history.specs.Answers.{Told, told_of, told}
use Rattle.tab_history.specs.Bases.{Base}
use Rattle.tab_history.specs.Checks.{standing, refusal_of, user_named, exists_in}
use Rattle.tab_history.specs.Histories.{Entry, world_of, world_after, journal, clock_of}
use Rattle.tab_history.specs.Legal.{LegalAlone, takes_memory}
use Rattle.tab_history.specs.Readings.{has_user, user_count, held_auths, has_system_right, has_table_right, table_count, settings_of, next_number, updates_of}
use Rattle.tab_history.specs.Refinement.{Refines}
use Rattle.tab_history.specs.declared.event.Act.TheVariants.{Rotate}
use Rattle.tab_history.specs.declared.reply.Refusal.{Refusal}
use Rattle.tab_history.specs.declared.reply.Refusal.TheVariants.{NoMemory, NoJob}
use Rattle.tab_history.specs.declared.reply.Reply.{Reply}
use Rattle.tab_history.specs.declared.reply.Reply.TheVariants.{Done, Refused}
use Rattle.tab_history.proofs.GoOn.{events_down}
use Rattle.tab_core.proofs.Recorded.{legal_empty}
use Rattle.tab_core.specs.Recording.{RefinesHistory, IsLegalFrom, StepsOn, StepsWith, entry_of}
use Rattle.tab_core.specs.Rotating.{raised}
use Rattle.tab_core.specs.Stepping.{LaysExactly, now_at}
use Rattle.tab_core.specs.Stores.{CoreContents, base_of}
use Rattle.tab_book.specs.Entries.{Posted, SeatState, Record, next_of, past}
use Rattle.tab_book.specs.Receipts.{Slip, Applies}
use Rattle.tab_book.specs.Rotating.{Portion, portion_of, FollowsOn, rotation, Rotates}
use Rattle.tab_book.proofs.Growing.{past_more}

-- ---- what it is told
-- it was done, or it was refused
abbrev pub IsPlain : Told → Type 0
IsPlain reply = (reply ≡ Done) ⊎ ((refusal : Refusal) × (reply ≡ Refused refusal))

laid : (o : Option Refusal) (old new : CoreContents) (now : ℤ) (reply : Told) (job : Option TabletMerge) → LaysExactly old now None Rotate (told o Done) reply job new → IsPlain reply
laid None old new now reply job lays = go lays.answers
  where
    go : (reply ≡ Done) ⊎ ((takes_memory Rotate ≡ true) × (reply ≡ Refused NoMemory)) → IsPlain reply
    go (inl e) = inl e
    go (inr h) = inr (NoMemory, h.1)
laid (Some r) old new now reply job lays = go lays.answers
  where
    go : (reply ≡ Refused r) ⊎ ((takes_memory Rotate ≡ true) × (reply ≡ Refused NoMemory)) → IsPlain reply
    go (inl e) = inr (r, e)
    go (inr h) = inr (NoMemory, h.1)

plainly : (old new : CoreContents) (user : List ℕ) (moment : ℤ) (reply : Reply OpenSession TabletMerge) → StepsOn old None (rotation user moment) reply new → IsPlain (told_of reply)
plainly old new user moment reply steps = go steps.exact
  where
    go : StepsWith old None (rotation user moment) reply new → IsPlain (told_of reply)
    go (inl s) = laid (refusal_of (standing (base_of old) [] user) (exists_in (base_of old) [] (user_named Rotate)) (now_at old (rotation user moment)) user Rotate) old new _ _ _ s.1.exact
    go (inr s) = inr (NoJob s.0, ap told_of s.2)

-- what wasn't done was refused
refused : (reply : Told) (done : Bool) → IsPlain reply → (IsTrue done ↔ (reply ≡ Done)) → done ≡ false → (refusal : Refusal) × (reply ≡ Refused refusal)
refused reply done (inl e) is off = absurd (true≢false (sym (is.1 e) ∙ off))
refused reply done (inr r) is off = r

-- ---- on what the history begins anew
-- a rotation changes nothing but the clock
risen : (b base : Base) (h : List Entry) (user : List ℕ) (moment : ℤ)
    → Refines (world_after (world_of b) (entry_of (rotation user moment) Done ∷ [])) (world_after (world_after (world_of base) h) (entry_of (rotation user moment) Done ∷ []))
    → Refines (world_of (raised moment b)) (world_after (world_of base) (entry_of (rotation user moment) Done ∷ h))
unfolding journal clock_of has_user user_count held_auths has_system_right has_table_right table_count settings_of next_number updates_of
risen b base h user moment r = record {
  reads = record {
    clock = r.reads.clock;
    next = r.reads.next;
    users = r.reads.users;
    tables = r.reads.tables;
    known = r.reads.known;
    auths = r.reads.auths;
    system = r.reads.system;
    rights = r.reads.rights;
    settings = r.reads.settings;
  };
  tables = r.tables;
}

-- what the core held before the rotation, with the clock raised, refines what the history with the rotation leaves
follows : (old new : CoreContents) (base : Base) (h : List Entry) (user : List ℕ) (moment : ℤ) (reply : Reply OpenSession TabletMerge)
    → RefinesHistory old (base_of old) [] → RefinesHistory old base h → StepsOn old None (rotation user moment) reply new → told_of reply ≡ Done
    → Refines (world_of (raised moment (base_of old))) (world_after (world_of base) (entry_of (rotation user moment) Done ∷ h))
unfolding RefinesHistory IsLegalFrom
follows old new base h user moment reply begins refines steps done =
    let more : LegalAlone (world_of (base_of old)) (entry_of (rotation user moment) (told_of reply) ∷ []) = steps.legal (base_of old) [] begins (legal_empty (base_of old)) in
    let legal : LegalAlone (world_of (base_of old)) (entry_of (rotation user moment) Done ∷ []) = subst (λ t. LegalAlone (world_of (base_of old)) (entry_of (rotation user moment) t ∷ [])) done more in
    risen (base_of old) base h user moment (events_down (world_of (base_of old)) (world_after (world_of base) h) refines (entry_of (rotation user moment) Done ∷ []) legal).1

-- ---- rotations
-- one that wasn't done
pub rotates_none : (book book' : Record) (seat seat' : SeatState) (user : List ℕ) (moment : ℤ) (slip : Slip) (done : Bool)
    → Applies book seat None (rotation user moment) slip book' seat' → (IsTrue done ↔ (slip.entry.reply ≡ Done)) → done ≡ false → Rotates book seat user moment slip None book' seat'
rotates_none book book' seat seat' user moment slip done applied is off =
    let s = applied.steps in
    record {
      receives = applied.receives;
      number = applied.number;
      steps = s;
      leaves = (refused slip.entry.reply done (subst IsPlain (sym s.1) (plainly book.core book'.core user moment s.0 s.3)) is off, applied.grows);
    }

-- one that was done: an entry more, and then all of them handed out
pub rotates_some : (book mid book' : Record) (seat seat' : SeatState) (user : List ℕ) (moment : ℤ) (slip : Slip) (part : Portion) (base : Base)
    → RefinesHistory book.core (base_of book.core) [] → RefinesHistory book.core book.base (past book.entries)
    → Applies book seat None (rotation user moment) slip mid seat' → slip.entry.reply ≡ Done
    → base ≡ raised moment (base_of book.core) → part ≡ portion_of mid → book' ≡ record mid { base = base; first = next_of mid; entries = [] }
    → Rotates book seat user moment slip (Some part) book' seat'
rotates_some book mid book' seat seat' user moment slip part base begins refines applied done up is now =
    let s = applied.steps in
    let grown = applied.grows in
    let core : mid.core ≡ book'.core = sym (ap (λ (b : Record). b.core) now) in
    let entries : mid.entries ≡ book.entries ++ slip.entry ∷ [] = ap (λ (b : Record). b.entries) grown in
    let many : length mid.entries ≡ length book.entries + 1 = ap length entries ∙ length-append book.entries (slip.entry ∷ []) in
    let next : next_of mid ≡ next_of book + 1 = omega (arith, ap (λ (b : Record). b.first) grown, many) in
    let handed : part ≡ record { first = book.first; base = book.base; entries = book.entries ++ slip.entry ∷ [] } = is ∙ ap portion_of grown in
    let asked : entry_of slip.entry.event slip.entry.reply ≡ entry_of (rotation user moment) Done = λ i. entry_of (ap (λ (p : Posted). p.event) applied.receives.entry i) (done i) in
    let whole : past (book.entries ++ slip.entry ∷ []) ≡ entry_of (rotation user moment) Done ∷ past book.entries = past_more book.entries slip.entry ∙ ap (λ e. e ∷ past book.entries) asked in
    let left : Refines (world_of (raised moment (base_of book.core))) (world_after (world_of book.base) (entry_of (rotation user moment) Done ∷ past book.entries)) =
    follows book.core mid.core book.base (past book.entries) user moment s.0 begins refines s.3 (sym s.1 ∙ done) in
    let begun : book' ≡ record book { base = raised moment (base_of book.core); first = next_of book + 1; entries = []; core = book'.core } =
    now ∙ (λ i. record { base = up i; first = next i; entries = []; core = core i; joined = (grown i).joined; out = (grown i).out; back = (grown i).back }) in
    let on : FollowsOn (record { first = book.first; base = book.base; entries = book.entries ++ slip.entry ∷ [] }) (record { first = next_of book + 1; base = raised moment (base_of book.core); entries = [] }) = record {
      number = omega (arith, length-append book.entries (slip.entry ∷ []));
      refines = subst (λ h. Refines (world_of (raised moment (base_of book.core))) (world_after (world_of book.base) h)) (sym whole) left;
    } in
    record {
      receives = applied.receives;
      number = applied.number;
      steps = (s.0, s.1, s.2, subst (StepsOn book.core None (rotation user moment) s.0) core s.3);
      leaves = (done, handed, begun, subst (λ p. FollowsOn p (portion_of book')) (sym handed) (subst (FollowsOn (record { first = book.first; base = book.base; entries = book.entries ++ slip.entry ∷ [] })) (sym (ap portion_of begun)) on));
    }
