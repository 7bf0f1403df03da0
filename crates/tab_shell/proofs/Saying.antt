-- What one line does and prints.
use Rattle.std.proofs.Common.{ℕ, ℤ, ◌≡◌, ◌⊎◌, inl, inr, Bool, true, false, cond, List, [], ◌∷◌, ◌++◌, length, refl, sym, ap, ◌∙◌, subst, Option, Some, None, Result, Ok, Err}
use Rattle.std.specs.Prelude.{Result, codes, MatchResult}
use mathlib.Core.Bool.{true≢false}
use Rattle.tab_history.specs.declared.event.Act.{Act}
use Rattle.tab_history.specs.declared.event.Event.{Event}
use Rattle.tab_history.specs.declared.event.Step.TheVariants.{Event as IsEvent, Merge}
use Rattle.tab_history.specs.declared.reply.Reply.TheVariants.{Done, Refused, Opened}
use Rattle.tab_history.specs.declared.reply.Refusal.{Refusal}
use Rattle.tab_history.specs.declared.reply.Refusal.TheVariants as refusal
use Rattle.tab_history.specs.Answers.{Told, told, is_open, answer, IsEventReply, session_list}
use Rattle.tab_history.specs.Sessions.{Move, Opening}
use Rattle.tab_history.specs.Histories.{Entry, World, is_by, journal, moves_of}
use Rattle.tab_history.specs.Legal.{Legal, IsAnswer, LacksMemory}
use Rattle.tab_core.specs.Stores.{CoreContents, base_of}
use Rattle.tab_core.specs.JobSlots.{StepsIn, MergesIn}
use Rattle.tab_core.specs.declared.job_slots.JobSlot.{JobSlot}
use Rattle.tab_core.proofs.JobLemmas.{Lengthened, steps_lengthen, steps_exact, merge_lengthens, merge_exact}
use Rattle.tab_io.specs.Writing.{HasPut, Puts}
use Rattle.tab_io.specs.declared.writing.Output.{Ghosts}
use Rattle.tab_io.proofs.Putting.{put_none}
use Rattle.tab_lines.specs.declared.file_line.FileKind.{FileKind}
use Rattle.tab_lines.specs.declared.file_line.FileKind.TheVariants as kind
use Rattle.tab_lines.specs.declared.file_line.FileLine.{FileLine}
use Rattle.tab_lines.specs.declared.line.Line.{Line}
use Rattle.tab_lines.specs.declared.line.Line.TheVariants as line
use Rattle.tab_text.specs.declared.parse_error.ParseError.{ParseError}
use Rattle.tab_text.specs.declared.parse_error.ParseError.TheVariants as stop
use Rattle.tab_replies.specs.Texts.{reply_text, begun_text, refusal_text, fault_text}
use Rattle.tab_core.specs.Sessions.{kept_of}
use Rattle.tab_shell.specs.Numbers.{Numbers, KeptAre}
use Rattle.tab_shell.specs.Scripts.{Asker, ScriptState, ScriptRefines, ScriptGoes, LineAnswered, ScriptAnswersLine, ScriptAcceptsFile, asker_after, numbers_after, event_by, entry, own_entry, file_act}
use Rattle.tab_shell.specs.Progress.{PrintsAnswer, IsAccepted, AnswersOrAccepts, HandsBack}
use Rattle.tab_shell.proofs.JobSteps.{goes_nowhere}

-- ---- lines without a step
silent : (s : ScriptState) (said : Result Line ParseError) (text : List ℕ) → s.asker ≡ asker_after s.asker said → ((w : World) (h : List Entry) (numbers : Numbers) → LineAnswered s.asker numbers w h said [] text)
    → ((w : World) (h : List Entry) (numbers : Numbers) → numbers_after s.asker numbers w h said [] ≡ numbers) → ScriptAnswersLine s said text s
silent s said text same says kept = record {
  asker = same;
  extends = λ w h numbers refines legal.
      let stands : ScriptRefines s (numbers_after s.asker numbers w h said []) w h = subst (λ (n : Numbers). ScriptRefines s n w h) (sym (kept w h numbers)) refines in
      ([], says w h numbers, record { legal = legal; exact = goes_nowhere s.core s.jobs; refines = stands });
}

blank_answered : (s : ScriptState) → ScriptAnswersLine s (Ok line.Blank) [] s
blank_answered s = silent s (Ok line.Blank) [] refl (λ w h numbers. (refl, refl)) (λ w h numbers. refl)

pub blank_prints : {W : Type 0} (g : Ghosts W) (s : ScriptState) (o : W) → (text : List ℕ) × ScriptAnswersLine s (Ok line.Blank) text s × HasPut g o o text
blank_prints g s o = ([], blank_answered s, put_none g o)

-- the script with another user
abbrev pub with_user : ScriptState → List ℕ → ScriptState
with_user s user = record s { asker = record s.asker { user = user } }

user_answered : (s : ScriptState) (user : List ℕ) → ScriptAnswersLine s (Ok (line.As user)) [] (with_user s user)
user_answered s user = record {
  asker = refl;
  extends = λ w h numbers refines legal. ([], (refl, refl), record { legal = legal; exact = goes_nowhere s.core s.jobs; refines = record { core = refines.core; sessions = refines.sessions; jobs = refines.jobs } });
}

pub user_prints : {W : Type 0} (g : Ghosts W) (s : ScriptState) (user : List ℕ) (o : W) → (text : List ℕ) × ScriptAnswersLine s (Ok (line.As user)) text (with_user s user) × HasPut g o o text
user_prints g s user o = ([], user_answered s user, put_none g o)

-- the script at another moment
abbrev pub at_moment : ScriptState → ℤ → ScriptState
at_moment s moment = record s { asker = record s.asker { moment = moment } }

moment_answered : (s : ScriptState) (moment : ℤ) → ScriptAnswersLine s (Ok (line.At moment)) [] (at_moment s moment)
moment_answered s moment = record {
  asker = refl;
  extends = λ w h numbers refines legal. ([], (refl, refl), record { legal = legal; exact = goes_nowhere s.core s.jobs; refines = record { core = refines.core; sessions = refines.sessions; jobs = refines.jobs } });
}

pub moment_prints : {W : Type 0} (g : Ghosts W) (s : ScriptState) (moment : ℤ) (o : W) → (text : List ℕ) × ScriptAnswersLine s (Ok (line.At moment)) text (at_moment s moment) × HasPut g o o text
moment_prints g s moment o = ([], moment_answered s moment, put_none g o)

fault_answered : (s : ScriptState) → ScriptAnswersLine s (Err stop.Malformed) fault_text s
fault_answered s = silent s (Err stop.Malformed) fault_text refl (λ w h numbers. (refl, refl)) (λ w h numbers. refl)

pub fault_prints : {W E : Type 0} (g : Ghosts W) (s : ScriptState) (o o1 : W) (r : Result (Unit {0}) E) → Puts g o o1 fault_text r → PrintsAnswer g s (Err stop.Malformed) s o o1 r
fault_prints g s o o1 r put = (fault_text, fault_answered s, put)

no_memory_text : codes "refused 17 NoMemory\n" ≡ refusal_text refusal.NoMemory
no_memory_text = refl

memory_answered : (s : ScriptState) → ScriptAnswersLine s (Err stop.NoMemory) (codes "refused 17 NoMemory\n") s
memory_answered s = silent s (Err stop.NoMemory) (codes "refused 17 NoMemory\n") refl (λ w h numbers. (refl, no_memory_text)) (λ w h numbers. refl)

pub memory_prints : {W E : Type 0} (g : Ghosts W) (s : ScriptState) (o o1 : W) (r : Result (Unit {0}) E) → Puts g o o1 (codes "refused 17 NoMemory\n") r → PrintsAnswer g s (Err stop.NoMemory) s o o1 r
memory_prints g s o o1 r put = (codes "refused 17 NoMemory\n", memory_answered s, put)

-- ---- an act is one step of the core
pub same_cond : {A : Type 0} (b : Bool) (x : A) → cond b x x ≡ x
same_cond true x = refl
same_cond false x = refl

-- it opens shut session
act_moves : (w : World) (user : List ℕ) (h : List Entry) (event : Event) (r : Told) → is_open event.act ≡ false → moves_of w user (entry event r ∷ h) ≡ moves_of w user h
unfolding moves_of
act_moves w user h event (Opened u) shut =
    ap (λ (t : Bool). cond (is_by user (IsEvent event)) (cond t (Opening (session_list w.base (journal w h) event.act) ∷ []) [] ++ moves_of w user h) (moves_of w user h)) shut ∙ same_cond (is_by user (IsEvent event)) (moves_of w user h)
act_moves w user h event reply shut = same_cond (is_by user (IsEvent event)) (moves_of w user h)

-- the script with another core, and these jobs
abbrev pub with_core : ScriptState → CoreContents → List JobSlot → ScriptState
with_core s core jobs = record s { core = core; jobs = jobs }

-- an act that opens no session makes the history longer by its entry
pub act_goes : (s : ScriptState) (core : CoreContents) (jobs : List JobSlot) (act : Act) (reply : Told) → is_open act ≡ false → StepsIn s.core s.jobs (event_by s.asker act) reply core jobs
    → (w : World) (h : List Entry) (numbers : Numbers) → ScriptRefines s numbers w h → Legal w h → ScriptGoes s w h (entry (event_by s.asker act) reply ∷ []) numbers (with_core s core jobs)
act_goes s core jobs act reply shut steps w h numbers refines legal =
    let event : Event = event_by s.asker act in
    let longer : Lengthened w h (IsEvent event) reply (base_of core) jobs = steps_lengthen s.core core s.jobs jobs event reply shut steps w h refines.core refines.jobs in
    record {
      legal = (legal, longer.answers);
      exact = steps_exact s.core core s.jobs jobs event reply steps;
      refines = record {
        core = longer.refines;
        sessions = λ user. subst (λ (ms : List Move). KeptAre ms (numbers user) (kept_of s.kept user)) (sym (act_moves w user h event reply shut)) (refines.sessions user);
        jobs = longer.jobs;
      };
    }

pub act_answered : (s : ScriptState) (core : CoreContents) (jobs : List JobSlot) (act : Act) (reply : Told) → is_open act ≡ false → StepsIn s.core s.jobs (event_by s.asker act) reply core jobs
    → ScriptAnswersLine s (Ok (line.Act act)) (begun_text (length s.jobs) reply) (with_core s core jobs)
act_answered s core jobs act reply shut steps = record {
  asker = refl;
  extends = λ w h numbers refines legal.
      (entry (event_by s.asker act) reply ∷ [], (reply, refl, ap (λ (n : ℕ). begun_text n reply) (sym refines.jobs.count)), act_goes s core jobs act reply shut steps w h numbers refines legal);
}

-- ---- the merge of a job is one step of its slot
-- it is no step of anyone's
merge_moves : (w : World) (user : List ℕ) (h : List Entry) (job : ℕ) (reply : Told) → moves_of w user (own_entry (Merge job) reply ∷ h) ≡ moves_of w user h
unfolding moves_of
merge_moves w user h job reply = same_cond (is_by user (Merge job)) (moves_of w user h)

-- the script with these jobs
abbrev pub with_jobs : ScriptState → List JobSlot → ScriptState
with_jobs s jobs = record s { jobs = jobs }

pub merge_answered : (s : ScriptState) (jobs : List JobSlot) (job : ℕ) (reply : Told) → MergesIn s.jobs job reply jobs → ScriptAnswersLine s (Ok (line.Merge job)) (reply_text reply) (with_jobs s jobs)
merge_answered s jobs job reply merges = record {
  asker = refl;
  extends = λ w h numbers refines legal.
      let longer : Lengthened w h (Merge job) reply (base_of s.core) jobs = merge_lengthens (base_of s.core) s.jobs jobs job reply merges w h refines.core refines.jobs in (
        own_entry (Merge job) reply ∷ [],
        (reply, refl, refl),
        record {
          legal = (legal, longer.answers);
          exact = merge_exact s.core s.jobs jobs job reply merges;
          refines = record {
            core = longer.refines;
            sessions = λ user. subst (λ (ms : List Move). KeptAre ms (numbers user) (kept_of s.kept user)) (sym (merge_moves w user h job reply)) (refines.sessions user);
            jobs = longer.jobs;
          };
        },
      );
}

-- ---- so is what a file line asks
file_shut : (k : FileKind) → is_open (file_act k) ≡ false
file_shut kind.Save = refl
file_shut kind.Load = refl

-- it is done or refused
done_or_refused : (k : FileKind) (o : Option Refusal) (reply : Told) → IsEventReply (file_act k) (told o Done) reply → (reply ≡ Done) ⊎ ((r : Refusal) × (reply ≡ Refused r))
done_or_refused kind.Save None reply h = inl h
done_or_refused kind.Load None reply h = inl h
done_or_refused kind.Save (Some r) reply h = inr (r, h)
done_or_refused kind.Load (Some r) reply h = inr (r, h)

file_told : (w : World) (h : List Entry) (who : Asker) (k : FileKind) (reply : Told) → IsAnswer w h h (IsEvent (event_by who (file_act k))) reply ⊎ LacksMemory (IsEvent (event_by who (file_act k))) reply
    → (reply ≡ Done) ⊎ ((r : Refusal) × (reply ≡ Refused r))
unfolding answer
file_told w h who kind.Save reply (inl is) = done_or_refused kind.Save _ reply is
file_told w h who kind.Load reply (inl is) = done_or_refused kind.Load _ reply is
file_told w h who kind.Save reply (inr lacks) = absurd (true≢false (sym lacks.0))
file_told w h who kind.Load reply (inr lacks) = absurd (true≢false (sym lacks.0))

-- one that is done is accepted
pub file_accepted : (s : ScriptState) (core : CoreContents) (jobs : List JobSlot) (file : FileLine) (reply : Told) → reply ≡ Done → StepsIn s.core s.jobs (event_by s.asker (file_act file.kind)) reply core jobs → ScriptAcceptsFile s file (with_core s core jobs)
file_accepted s core jobs file reply done steps = record {
  asker = refl;
  extends = λ w h numbers refines legal.
      subst (λ (t : Told). ScriptGoes s w h (entry (event_by s.asker (file_act file.kind)) t ∷ []) numbers (with_core s core jobs)) done (act_goes s core jobs (file_act file.kind) reply (file_shut file.kind) steps w h numbers refines legal);
}

-- any other is refused
pub file_refused : (s : ScriptState) (core : CoreContents) (jobs : List JobSlot) (file : FileLine) (reply : Told) → (reply ≡ Done → ⊥) → StepsIn s.core s.jobs (event_by s.asker (file_act file.kind)) reply core jobs
    → ScriptAnswersLine s (Ok (line.File file)) (reply_text reply) (with_core s core jobs)
file_refused s core jobs file reply not steps = record {
  asker = refl;
  extends = λ w h numbers refines legal.
      let goes : ScriptGoes s w h (entry (event_by s.asker (file_act file.kind)) reply ∷ []) numbers (with_core s core jobs) = act_goes s core jobs (file_act file.kind) reply (file_shut file.kind) steps w h numbers refines legal in
      (entry (event_by s.asker (file_act file.kind)) reply ∷ [], says (file_told w h s.asker file.kind reply goes.legal.1), goes);
}
  where
    says : (reply ≡ Done) ⊎ ((r : Refusal) × (reply ≡ Refused r))
        → (r : Refusal) × (entry (event_by s.asker (file_act file.kind)) reply ∷ [] ≡ entry (event_by s.asker (file_act file.kind)) (Refused r) ∷ []) × (reply_text reply ≡ refusal_text r)
    says (inl done) = absurd (not done)
    says (inr (r, is)) = (r, ap (λ (t : Told). entry (event_by s.asker (file_act file.kind)) t ∷ []) is, ap reply_text is)

-- ---- what was printed of a line that isn't handed back
pub printed_answers : {W E : Type 0} (g : Ghosts W) (s d : ScriptState) (said : Result Line ParseError) (o o1 : W) (r : Result (Unit {0}) E) (r' : Result (Option FileLine) E)
    → MatchResult r (λ u. r' ≡ Ok None) (λ e. r' ≡ Err e) → PrintsAnswer g s said d o o1 r → AnswersOrAccepts g s said d o o1 r'
printed_answers g s d said o o1 (Ok u) r' is prints = subst (AnswersOrAccepts g s said d o o1) (sym is) prints
printed_answers g s d said o o1 (Err e) r' is prints = subst (AnswersOrAccepts g s said d o o1) (sym is) (inl prints)

-- a file line that was accepted is handed back
pub handed_back : {W E : Type 0} (g : Ghosts W) (s d : ScriptState) (file : FileLine) (o o1 : W) (r : Result (Option FileLine) E)
    → ScriptAcceptsFile s file d → HandsBack g file o o1 r → AnswersOrAccepts g s (Ok (line.File file)) d o o1 r
handed_back g s d file o o1 (Ok None) accepts back = absurd back
handed_back g s d file o o1 (Ok (Some given)) accepts back =
    subst (λ (f : FileLine). IsAccepted s (Ok (line.File file)) f d × HasPut g o o1 [] × (g.held o1 ≡ [])) (sym back.0) ((refl, accepts), back.1, back.2)
handed_back g s d file o o1 (Err e) accepts back = inr (file, (refl, accepts), back)
