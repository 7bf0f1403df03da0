-- A connection that went on, and then some more.
use Rattle.std.proofs.Common.{◌≡◌, ℕ, ◌<◌, ◌≤◌, Bool, true, false, List, [], ◌++◌, take, Option, Some, None, sym, ap, subst, ◌∙◌, inl, inr, arith, append-nil}
use Rattle.std.specs.Prelude.{Result, Ok, Err, IfOk, IfSome, is_some}
use Rattle.tab_io.specs.declared.reading.Input.{Ghosts as InputGhosts}
use Rattle.tab_io.specs.declared.writing.Output.{Ghosts as OutputGhosts}
use Rattle.std.specs.Io.KnownBytes.{Appends}
use Rattle.std.proofs.KnownBytes.{Appends-trans}
use Rattle.tab_io.specs.Streams.{Drains}
use Rattle.tab_io.specs.Writing.{HasPut, HasPutPart, WriteFailed}
use Rattle.tab_io.proofs.Putting.{put_more, put_part_more, all_written, part_written}
use Rattle.tab_serve.specs.declared.fault.ServeFault.{ServeFault}
use Rattle.tab_serve.specs.declared.fault.ServeFault.TheVariants.{Read, Write}
use Rattle.tab_serve.specs.declared.service.Service.{Ghosts}
use Rattle.tab_wire.specs.declared.asked.Asked.{Asked}
use Rattle.tab_wire.specs.declared.asked.Asked.TheVariants as asked
use Rattle.tab_wire.specs.Heard.{Heard, heard_by, HasUser}
use Rattle.tab_wire.specs.Asking.{Hears, Asks}
use Rattle.tab_wire.specs.Replies.{Sent, sent_bytes}
use Rattle.tab_wire.specs.Stream.{pieces_of}
use Rattle.tab_serve.specs.Turns.{Side, Tells}
use Rattle.tab_serve.specs.Progress.{AnswersAll, AnswersSome, AnswersFront, IsLeft, IsLeftButPart, NothingWaits, FlushesFirst, Goes, GoesAll, CostsOn, PutsOn, Faults, IsWritten, IsWrittenPart, Finishes, Converses, first_side, goes_on}
use Rattle.tab_serve.proofs.TurnLemmas.{one_on, one_last, one_some, then_front, then_all, then_some}

module _ {R W S : Type 0} (i : InputGhosts R) (o : OutputGhosts W) (s : Ghosts S) (a b c : Side S) (in0 in1 in2 : R) (out0 out1 out2 : W) where
  pub goes_then : (r : Result Bool ServeFault) → AnswersFront s a (i.remaining in0) b (IsLeft (i.remaining in1)) (HasPut o out0 out1) → Goes i o s b in1 out1 c in2 out2 r → Goes i o s a in0 out0 c in2 out2 r
  goes_then (Ok true) first next = then_front s a b c (HasPut o out1 out2) (HasPut o out0 out2) (HasPut o out0 out1) (λ t u p q. put_more p q) (i.remaining in0) (i.remaining in1) (IsLeft (i.remaining in2)) first next
  goes_then (Ok false) first next = then_all s a b c (HasPut o out1 out2) (HasPut o out0 out2) (HasPut o out0 out1) (λ t u p q. put_more p q) (i.remaining in0) (i.remaining in1) first next
  goes_then (Err Read) first next = then_front s a b c (HasPut o out1 out2) (HasPut o out0 out2) (HasPut o out0 out1) (λ t u p q. put_more p q) (i.remaining in0) (i.remaining in1) (IsLeftButPart (i.remaining in2)) first next
  goes_then (Err Write) first next = then_some s a b c (HasPutPart o out1 out2) (HasPutPart o out0 out2) (HasPut o out0 out1) (λ t u p q. put_part_more p q) (i.remaining in0) (i.remaining in1) first next

-- ---- one turn, after what was gathered was written or not
module _ {R W S : Type 0} (i : InputGhosts R) (o : OutputGhosts W) (s : Ghosts S) (old : Side S) (user : Option (List ℕ)) (service : S) (in0 in2 : R) (out0 out1 out2 : W) where
  pub told_goes : (what : Heard) (told : Sent) (r : Result Bool ServeFault) → IfSome (i.remaining in0) (λ bytes. Asks (is_some old.user) bytes (Some what) (i.remaining in2)) → Hears old.user what user
      → Tells s old.service what told service → IfOk r (λ on. on ≡ goes_on what) → HasPut o out0 out1 [] → PutsOn o out1 out2 (sent_bytes told) r
      → Goes i o s old in0 out0 (record { user = user; service = service }) in2 out2 r
  told_goes what told (Ok true) asks hears tells on before put =
      one_on s old (record { user = user; service = service }) what told hears tells (HasPut o out0 out2) (put_more before put) (i.remaining in0) (i.remaining in2) (sym on) asks
  told_goes what told (Ok false) asks hears tells on before put =
      one_last s old (record { user = user; service = service }) what told hears tells (HasPut o out0 out2) (put_more before put) (i.remaining in0) (i.remaining in2) (sym on) asks
  told_goes what told (Err Read) asks hears tells on before put = absurd put
  told_goes what told (Err Write) asks hears tells on before put =
      one_some s old (record { user = user; service = service }) what told hears tells (HasPutPart o out0 out2) (put_part_more before put) (i.remaining in0) (i.remaining in2) asks

-- ---- what is written before a read
-- after a flush nothing is gathered
pub flushed_away : {W E : Type 0} (o : OutputGhosts W) (a b : W) (P : Type 0) (r : Result (Unit {0}) E) → Drains (o.contents a) (o.held a) (o.contents b) (o.held b) r → IfOk r (λ u. P → o.held b ≡ [])
flushed_away o a b P (Ok u) drains = λ p. drains.1
flushed_away o a b P (Err e) drains = tt

module _ {R W : Type 0} (i : InputGhosts R) (o : OutputGhosts W) (input : R) (out0 out1 out2 : W) where
  pub none_flushes : HasPut o out0 out1 [] → NothingWaits i o input out1 → FlushesFirst i o input out0 out1
  none_flushes put nothing away = ([], all_written [] put (nothing away))

  pub told_flushes : HasPut o out0 out1 [] → NothingWaits i o input out1 → (text : List ℕ) (r : Result Bool ServeFault) → PutsOn o out1 out2 text r → IfOk r (λ on. FlushesFirst i o input out0 out2)
  told_flushes put nothing text (Ok on) told = λ away. (
    take told.bytes.count (o.held out1 ++ text),
    subst (λ (t : List ℕ). Appends (o.contents out0) (o.contents out2) t) (ap (λ (t : List ℕ). t ++ take told.bytes.count (o.held out1 ++ text)) (append-nil (o.held out0)))
        (Appends-trans (o.contents out0) (o.contents out1) (o.contents out2) (o.held out0 ++ []) (take told.bytes.count (o.held out1 ++ text)) (all_written [] put (nothing away)) told.bytes.written),
  )
  told_flushes put nothing text (Err e) told = tt

-- a request that is heard is one of somebody
pub has_user : (before after : Option (List ℕ)) (what : Asked) → Hears before (heard_by after what) after → HasUser after what
has_user before after (asked.Request request) hears = ap is_some hears.1
has_user before after (asked.Bad reason) hears = tt
has_user before after (asked.Broken reason) hears = tt
has_user before after asked.NoMemory hears = tt

-- ---- costs
pub costs_budget : {R : Type 0} (i : InputGhosts R) (old new : R) (on : Bool) → CostsOn i old new on → on ≡ true → i.budget new ≤ i.budget old
costs_budget i old new true (inl spent) is = omega (arith, spent)
costs_budget i old new true (inr taken) is = omega (arith, taken.0)
costs_budget i old new false costs is = absurd cc

-- ---- the end
pub goes_stopped : {R W S : Type 0} (i : InputGhosts R) (o : OutputGhosts W) (s : Ghosts S) (a b : Side S) (in0 in1 : R) (out0 out1 : W) (e : ServeFault) → Goes i o s a in0 out0 b in1 out1 (Err e) → GoesAll i o s a in0 out0 b in1 out1 (Err e)
goes_stopped i o s a b in0 in1 out0 out1 Read h = h
goes_stopped i o s a b in0 in1 out0 out1 Write h = h

-- all that was put is written
module _ {W : Type 0} (o : OutputGhosts W) (out0 out1 out2 : W) where
  written : (t : List ℕ) → HasPut o out0 out1 t → HasPut o out1 out2 [] → o.held out2 ≡ [] → IsWritten o out0 out2 t
  written t put flushed none = subst (λ (u : List ℕ). IsWritten o out0 out2 u) (append-nil t) (all_written (t ++ []) (put_more put flushed) none)

  written_part : (t : List ℕ) → HasPut o out0 out1 t → HasPutPart o out1 out2 [] → IsWrittenPart o out0 out2 t
  written_part t put flushed = subst (λ (u : List ℕ). IsWrittenPart o out0 out2 u) (append-nil t) (part_written (t ++ []) (put_part_more put flushed))

-- what was put of all is put of some
some_of_all : {S : Type 0} (s : Ghosts S) (a b : Side S) (ahead : Option (List ℕ)) (P Q : List ℕ → Type 0) → ((t : List ℕ) → P t → Q t) → AnswersAll s a ahead b P → AnswersSome s a ahead b Q
some_of_all s a b None P Q also h = tt
some_of_all s a b (Some bytes) P Q also h = (pieces_of bytes, [], h.0, sym (append-nil (pieces_of bytes)), h.1, also h.0 h.2)

all_of_all : {S : Type 0} (s : Ghosts S) (a b : Side S) (ahead : Option (List ℕ)) (P Q : List ℕ → Type 0) → ((t : List ℕ) → P t → Q t) → AnswersAll s a ahead b P → AnswersAll s a ahead b Q
all_of_all s a b None P Q also h = tt
all_of_all s a b (Some bytes) P Q also h = (h.0, h.1, also h.0 h.2)

some_of_some : {S : Type 0} (s : Ghosts S) (a b : Side S) (ahead : Option (List ℕ)) (P Q : List ℕ → Type 0) → ((t : List ℕ) → P t → Q t) → AnswersSome s a ahead b P → AnswersSome s a ahead b Q
some_of_some s a b None P Q also h = tt
some_of_some s a b (Some bytes) P Q also h = (h.0, h.1, h.2, h.3, h.4, also h.2 h.5)

-- the same of those in front of what is left
front_of_front : {S : Type 0} (s : Ghosts S) (a b : Side S) (ahead : Option (List ℕ)) (Behind P Q : List ℕ → Type 0) → ((t : List ℕ) → P t → Q t) → AnswersFront s a ahead b Behind P → AnswersFront s a ahead b Behind Q
front_of_front s a b None Behind P Q also h = tt
front_of_front s a b (Some bytes) Behind P Q also h = (h.0, h.1, h.2, h.3, h.4, h.5, h.6, also h.2 h.7)

some_of_front : {S : Type 0} (s : Ghosts S) (a b : Side S) (ahead : Option (List ℕ)) (Behind P Q : List ℕ → Type 0) → ((t : List ℕ) → P t → Q t) → AnswersFront s a ahead b Behind P → AnswersSome s a ahead b Q
some_of_front s a b None Behind P Q also h = tt
some_of_front s a b (Some bytes) Behind P Q also h = (h.0, pieces_of h.1, h.2, h.4, h.6, also h.2 h.7)

module _ {R W S : Type 0} (i : InputGhosts R) (o : OutputGhosts W) (s : Ghosts S) (old new : S) (user : Option (List ℕ)) (input input' : R) (out0 out1 out2 : W) where
  abbrev Done : Result (Unit {0}) ServeFault → Type 0
  Done r = Converses i o s old input out0 new input' out2 r

  pub all_done : (answered result : Result (Unit {0}) ServeFault) → GoesAll i o s (first_side old) input out0 (record { user = user; service = new }) input' out1 answered → Finishes o answered out1 out2 result → Done result
  all_done (Ok u) result goes (inl flushed) =
      subst Done (sym flushed.2) ((user, all_of_all s (first_side old) (record { user = user; service = new }) (i.remaining input) (HasPut o out0 out1) (IsWritten o out0 out2) (λ t put. written o out0 out1 out2 t put flushed.0 flushed.1) goes), flushed.1)
  all_done (Ok u) result goes (inr part) =
      subst Done (sym part.1) (user, some_of_all s (first_side old) (record { user = user; service = new }) (i.remaining input) (HasPut o out0 out1) (IsWrittenPart o out0 out2) (λ t put. written_part o out0 out1 out2 t put part.0) goes)
  all_done (Err Read) result goes (inl flushed) =
      subst Done (sym flushed.2) ((user, front_of_front s (first_side old) (record { user = user; service = new }) (i.remaining input) (IsLeftButPart (i.remaining input')) (HasPut o out0 out1) (IsWritten o out0 out2) (λ t put. written o out0 out1 out2 t put flushed.0 flushed.1) goes), flushed.1)
  all_done (Err Read) result goes (inr part) =
      subst Done (sym part.1) (user, some_of_front s (first_side old) (record { user = user; service = new }) (i.remaining input) (IsLeftButPart (i.remaining input')) (HasPut o out0 out1) (IsWrittenPart o out0 out2) (λ t put. written_part o out0 out1 out2 t put part.0) goes)
  all_done (Err Write) result goes kept =
      subst Done (sym kept.1) (
        user,
        some_of_some s (first_side old) (record { user = user; service = new }) (i.remaining input) (HasPutPart o out0 out1) (IsWrittenPart o out0 out2)
            (λ t put. subst (λ (z : W). IsWrittenPart o out0 z t) (sym kept.0) (part_written t put)) goes,
      )

-- ---- faults
module _ {R W : Type 0} (i : InputGhosts R) (o : OutputGhosts W) (in0 in1 : R) (out0 out1 out2 : W) where
  abbrev Blames : Result (Unit {0}) ServeFault → Type 0
  Blames r = Faults i o r in0 in1 out0 out2

  -- a write that failed after writes that didn't
  later : o.faults out1 ≡ o.faults out0 → WriteFailed o out1 out2 → WriteFailed o out0 out2
  later same (inl spent) = inl spent
  later same (inr counted) = inr (subst (λ (n : ℕ). n < o.faults out2) same counted)

  pub all_blamed : (answered result : Result (Unit {0}) ServeFault) → Faults i o answered in0 in1 out0 out1 → Finishes o answered out1 out2 result → Faults i o result in0 in1 out0 out2
  all_blamed (Ok u) result faults (inl flushed) = subst Blames (sym flushed.2) (faults.0, flushed.0.faults ∙ faults.1)
  all_blamed (Ok u) result faults (inr part) = subst Blames (sym part.1) (later faults.1 part.0.failed)
  all_blamed (Err Read) result faults (inl flushed) = subst Blames (sym flushed.2) (faults.0, flushed.0.faults ∙ faults.1)
  all_blamed (Err Read) result faults (inr part) = subst Blames (sym part.1) (later faults.1 part.0.failed)
  all_blamed (Err Write) result faults kept = subst Blames (sym kept.1) (subst (λ (z : W). WriteFailed o out0 z) (sym kept.0) faults)
