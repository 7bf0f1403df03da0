-- The line open: a session is opened and kept.
use Rattle.std.proofs.Common.{ℕ, ◌≡◌, ◌≤◌, Bool, true, false, cond, ◌||◌, inl, inr, List, [], ◌∷◌, ◌++◌, length, refl, sym, ap, ◌∙◌, subst, arith, Option, Some, Ok}
use Rattle.std.specs.Prelude.{bytes_eq, count_by, is_some, nat_le}
use mathlib.Core.Bool.{true≢false}
use Rattle.std.proofs.lemmas.Bool.{leb-true, le-leb}
use Rattle.tab_key.specs.Records.{Cell}
use Rattle.tab_cells.specs.SessionState.{SessionState}
use Rattle.tab_core.specs.OpenSession.{OpenSession}
use Rattle.tab_history.specs.declared.event.Scan.{Scan}
use Rattle.tab_history.specs.declared.event.Act.TheVariants.{Open}
use Rattle.tab_history.specs.declared.reply.Refusal.TheVariants.{NoMemory}
use Rattle.tab_history.specs.declared.reply.Reply.{Reply}
use Rattle.tab_history.specs.declared.reply.Reply.TheVariants.{Done, Refused, Opened, Batch, Ranges, Rights as OwnRights, Counted, Rows, Begun, Nothing}
use Rattle.tab_history.specs.Answers.{Told, session_list, told_of, session_of}
use Rattle.tab_history.specs.Sessions.{Move, Opening, opened}
use Rattle.tab_history.specs.Histories.{Entry, World, journal, moves_of}
use Rattle.tab_core.specs.Stores.{CoreContents, base_of}
use Rattle.tab_core.specs.Parts.{TabletMerge}
use Rattle.tab_core.specs.Stepping.{Steps}
use Rattle.tab_core.specs.Slots.{are_full}
use Rattle.tab_core.specs.Owners.{kept_with, OpensIn}
use Rattle.tab_lines.specs.declared.line.Line.TheVariants as line
use Rattle.tab_core.specs.declared.sessions.UserSessions.{UserSessions}
use Rattle.tab_core.specs.Sessions.{Keeping, kept_of, opened_in, is_spent, KeepsFor}
use Rattle.tab_shell.specs.Numbers.{Numbers, with_number, KeptAre}
use Rattle.tab_replies.specs.Texts.{refusal_text, opened_text}
use Rattle.tab_shell.specs.Scripts.{Asker, ScriptState, ScriptRefines, ScriptAnswersLine, numbers_told, event_by, entry}
use Rattle.tab_shell.proofs.Saying.{same_cond}
use Rattle.tab_shell.proofs.JobSteps.{OpensExactly, opens_exactly, jobs_stay}
use Rattle.tab_shell.proofs.Keeping.{kept_opened}
use Rattle.tab_shell.proofs.Scanning.{own_kept, with_sessions, bytes_self, open_moves, other_moves, kept_by_user, kept_same, legal_open, starved_opens, recounted, with_kept}

-- the user's list of slots is full only where the script's is
full_is_spent : (kept : UserSessions) → is_spent kept ≡ false → are_full kept.numbered ≡ false
full_is_spent kept = go (nat_le 65536 (count_by is_some kept.numbered)) (nat_le 4294967295 (length kept.numbered)) refl
  where
    go : (a b : Bool) → nat_le 4294967295 (length kept.numbered) ≡ b → (a || nat_le 4294967295 (opened_in kept)) ≡ false → (a || b) ≡ false
    go true b is few = few
    go false false is few = refl
    go false true is few =
        let many : 4294967295 ≤ length kept.numbered = leb-true _ _ is in
        absurd (true≢false (sym (le-leb 4294967295 (opened_in kept) (omega (arith, many))) ∙ few))

-- a reply that opens no session moves none
abbrev IsQuiet : Scan → Told → Type 0
IsQuiet scan reply = (w : World) (who : Asker) (h : List Entry) (n : List ℕ) → moves_of w n (entry (event_by who (Open scan)) reply ∷ h) ≡ moves_of w n h

abbrev pub with_slots : UserSessions → List (Option SessionState) → UserSessions
with_slots kept slots = record kept { numbered = slots }

-- the core answered, and opened no session
quiet_answered : (s : ScriptState) (core : CoreContents) (kept : Keeping) (slots : List (Option SessionState)) (scan : Scan) (r : Reply OpenSession TabletMerge) → is_spent (own_kept s) ≡ false
    → Steps (base_of s.core) (event_by s.asker (Open scan)) r (base_of core) → OpensExactly s core scan (told_of r)
    → KeepsFor s.asker.user (with_slots (own_kept s) slots) s.kept kept → slots ≡ (own_kept s).numbered → IsQuiet scan (told_of r)
    → ((numbers : Numbers) (user : List ℕ) (slot : ℕ) → numbers_told numbers user slot (told_of r) ≡ numbers) → ((a b : ℕ) → opened_text a (told_of r) ≡ opened_text b (told_of r))
    → ScriptAnswersLine s (Ok (line.Open scan)) (opened_text 0 (told_of r)) (with_sessions s core kept)
quiet_answered s core kept slots scan r room steps exact keeps same quiet still plain = record {
  asker = refl;
  extends = λ w h numbers refines legal.
      let reply : Told = told_of r in
      let e : Entry = entry (event_by s.asker (Open scan)) reply in
      let stands : ScriptRefines (with_sessions s core kept) numbers w (e ∷ h) = record {
        core = steps.refines w h refines.core;
        sessions = λ n. subst (λ (k : UserSessions). KeptAre (moves_of w n (e ∷ h)) (numbers n) k) (sym (kept_same s.asker.user (with_slots (own_kept s) slots) s.kept kept keeps (sym (ap (with_slots (own_kept s)) same)) n)) (subst (λ (ms : List Move). KeptAre ms (numbers n) (kept_of s.kept n)) (sym (quiet w s.asker h n)) (refines.sessions n));
        jobs = jobs_stay s.jobs e h refl refines.jobs;
      } in (
        e ∷ [],
        (reply, refl, plain 0 (length (numbers s.asker.user))),
        record {
          legal = (legal, legal_open s core scan r w h numbers room steps refines);
          exact = exact;
          refines = subst (λ (n : Numbers). ScriptRefines (with_sessions s core kept) n w (e ∷ h)) (sym (still numbers s.asker.user (opened (moves_of w s.asker.user h)))) stands;
        },
      );
}

-- the core opened a session, which is kept
session_kept : (s : ScriptState) (core : CoreContents) (kept : Keeping) (slots : List (Option SessionState)) (scan : Scan) (session : OpenSession) → is_spent (own_kept s) ≡ false
    → Steps (base_of s.core) (event_by s.asker (Open scan)) (Opened session) (base_of core) → OpensExactly s core scan (Opened tt)
    → KeepsFor s.asker.user (with_slots (own_kept s) slots) s.kept kept → slots ≡ (own_kept s).numbered ++ Some session.state ∷ []
    → ScriptAnswersLine s (Ok (line.Open scan)) (opened_text (length (own_kept s).numbered) (Opened tt)) (with_sessions s core kept)
session_kept s core kept slots scan session room steps exact keeps more = record {
  asker = refl;
  extends = λ w h numbers refines legal.
      let user : List ℕ = s.asker.user in
      let own : UserSessions = own_kept s in
      let e : Entry = entry (event_by s.asker (Open scan)) (Opened tt) in
      let before : List Move = moves_of w user h in
      let all : List Cell = session_list w.base (journal w h) (Open scan) in
      let after : Numbers = with_number numbers user (opened before) in
      let are : KeptAre before (numbers user) own = refines.sessions user in
      let listed : slots ≡ own.numbered ++ Some (record { all = all; given = 0 }) ∷ [] = more ∙ ap (λ (x : OpenSession). own.numbered ++ Some x.state ∷ []) (steps.hands w h refines.core) in
      let begun : KeptAre (Opening all ∷ before) (numbers user ++ opened before ∷ []) (with_slots own slots) =
      subst (λ (ss : List (Option SessionState)). KeptAre (Opening all ∷ before) (numbers user ++ opened before ∷ []) (with_slots own ss)) (sym listed) (kept_opened before (numbers user) own all are) in
      let mine : after user ≡ numbers user ++ opened before ∷ [] = ap (λ (b : Bool). cond b (numbers user ++ opened before ∷ []) (numbers user)) (bytes_self user) in
      let moved : KeptAre (moves_of w user (e ∷ h)) (numbers user ++ opened before ∷ []) (with_slots own slots) =
      subst (λ (ms : List Move). KeptAre ms (numbers user ++ opened before ∷ []) (with_slots own slots)) (sym (open_moves w s.asker h scan tt)) begun in
      let own_now : KeptAre (moves_of w user (e ∷ h)) (after user) (with_slots own slots) = subst (λ (x : List ℕ). KeptAre (moves_of w user (e ∷ h)) x (with_slots own slots)) (sym mine) moved in (
        e ∷ [],
        (Opened tt, refl, ap (λ n. opened_text n (Opened tt)) (sym are.given)),
        record {
          legal = (legal, legal_open s core scan (Opened session) w h numbers room steps refines);
          exact = exact;
          refines = record {
            core = steps.refines w h refines.core;
            sessions = kept_by_user w user h (e ∷ h) numbers after s.kept kept (with_slots own slots) keeps (λ n away. other_moves w n e h away)
                (λ n away. ap (λ (b : Bool). cond b (numbers n ++ opened before ∷ []) (numbers n)) away) own_now refines.sessions;
            jobs = jobs_stay s.jobs e h refl refines.jobs;
          };
        },
      );
}

-- each answer of the core
core_answered : (s : ScriptState) (core : CoreContents) (kept : Keeping) (slots : List (Option SessionState)) (scan : Scan) (r : Reply OpenSession TabletMerge) → is_spent (own_kept s) ≡ false
    → Steps (base_of s.core) (event_by s.asker (Open scan)) r (base_of core) → OpensExactly s core scan (told_of r)
    → KeepsFor s.asker.user (with_slots (own_kept s) slots) s.kept kept → slots ≡ kept_with (own_kept s).numbered (session_of r)
    → ScriptAnswersLine s (Ok (line.Open scan)) (opened_text (length (own_kept s).numbered) (told_of r)) (with_sessions s core kept)
unfolding moves_of
core_answered s core kept slots scan (Opened session) room steps exact keeps more = session_kept s core kept slots scan session room steps exact keeps more
core_answered s core kept slots scan Done room steps exact keeps same =
    quiet_answered s core kept slots scan Done room steps exact keeps same (λ w who h n. same_cond (bytes_eq who.user n) (moves_of w n h)) (λ ns u k. refl) (λ a b. refl)
core_answered s core kept slots scan (Refused refusal) room steps exact keeps same =
    quiet_answered s core kept slots scan (Refused refusal) room steps exact keeps same (λ w who h n. same_cond (bytes_eq who.user n) (moves_of w n h)) (λ ns u k. refl) (λ a b. refl)
core_answered s core kept slots scan (Batch cells) room steps exact keeps same =
    quiet_answered s core kept slots scan (Batch cells) room steps exact keeps same (λ w who h n. same_cond (bytes_eq who.user n) (moves_of w n h)) (λ ns u k. refl) (λ a b. refl)
core_answered s core kept slots scan (Ranges ranges) room steps exact keeps same =
    quiet_answered s core kept slots scan (Ranges ranges) room steps exact keeps same (λ w who h n. same_cond (bytes_eq who.user n) (moves_of w n h)) (λ ns u k. refl) (λ a b. refl)
core_answered s core kept slots scan (OwnRights rights) room steps exact keeps same =
    quiet_answered s core kept slots scan (OwnRights rights) room steps exact keeps same (λ w who h n. same_cond (bytes_eq who.user n) (moves_of w n h)) (λ ns u k. refl) (λ a b. refl)
core_answered s core kept slots scan (Counted counts) room steps exact keeps same =
    quiet_answered s core kept slots scan (Counted counts) room steps exact keeps same (λ w who h n. same_cond (bytes_eq who.user n) (moves_of w n h)) (λ ns u k. refl) (λ a b. refl)
core_answered s core kept slots scan (Rows rows) room steps exact keeps same =
    quiet_answered s core kept slots scan (Rows rows) room steps exact keeps same (λ w who h n. same_cond (bytes_eq who.user n) (moves_of w n h)) (λ ns u k. refl) (λ a b. refl)
core_answered s core kept slots scan (Begun job) room steps exact keeps same =
    quiet_answered s core kept slots scan (Begun job) room steps exact keeps same (λ w who h n. same_cond (bytes_eq who.user n) (moves_of w n h)) (λ ns u k. refl) (λ a b. refl)
core_answered s core kept slots scan Nothing room steps exact keeps same =
    quiet_answered s core kept slots scan Nothing room steps exact keeps same (λ w who h n. same_cond (bytes_eq who.user n) (moves_of w n h)) (λ ns u k. refl) (λ a b. refl)

-- a session is opened, or the Open is refused
pub open_answered : (s : ScriptState) (core : CoreContents) (kept : Keeping) (slots : List (Option SessionState)) (scan : Scan) (reply : Told) → is_spent (own_kept s) ≡ false
    → OpensIn s.core (own_kept s).numbered (event_by s.asker (Open scan)) reply core slots → KeepsFor s.asker.user (with_slots (own_kept s) slots) s.kept kept
    → ScriptAnswersLine s (Ok (line.Open scan)) (opened_text (length (own_kept s).numbered) reply) (with_sessions s core kept)
open_answered s core kept slots scan reply room (inl full) keeps = absurd (true≢false (sym full.0 ∙ full_is_spent (own_kept s) room))
open_answered s core kept slots scan reply room (inr (inl (lacks, still, same))) keeps =
    let all : (n : List ℕ) → kept_of kept n ≡ kept_of s.kept n = kept_same s.asker.user (with_slots (own_kept s) slots) s.kept kept keeps (sym (ap (with_slots (own_kept s)) same)) in
    let starved : ScriptAnswersLine s (Ok (line.Open scan)) (refusal_text NoMemory) (with_kept s kept) = recounted s s kept (Ok (line.Open scan)) (refusal_text NoMemory) all (starved_opens s scan) in
    subst (λ (t : Told). ScriptAnswersLine s (Ok (line.Open scan)) (opened_text (length (own_kept s).numbered) t) (with_sessions s core kept)) (sym lacks)
    (subst (λ (x : CoreContents). ScriptAnswersLine s (Ok (line.Open scan)) (refusal_text NoMemory) (with_sessions s x kept)) (sym still) starved)
open_answered s core kept slots scan reply room (inr (inr (free, (r, steps, exact, is, more)))) keeps =
    subst (λ (t : Told). ScriptAnswersLine s (Ok (line.Open scan)) (opened_text (length (own_kept s).numbered) t) (with_sessions s core kept)) (sym is)
    (core_answered s core kept slots scan r room steps (opens_exactly s core scan r exact) keeps more)
