-- How a run ends, and two runs that are one.
use Rattle.std.proofs.Common.{ℕ, Bool, true, false, ◌≡◌, ◌<◌, ◌⊎◌, inl, inr, List, [], ◌∷◌, ◌++◌, length, refl, sym, ap, ◌∙◌, subst, append_assoc, Option, Some, None, Result, Err}
use Rattle.std.specs.Prelude.{Result, IfSome, MatchBool}
use Rattle.std.specs.Io.KnownBytes.{Appends}
use Rattle.std.proofs.KnownBytes.{Appends-trans}
use Rattle.std.proofs.lemmas.List.{append-nil}
use Rattle.tab_io.specs.Writing.{HasPut, HasPutPart}
use Rattle.tab_io.specs.declared.reading.Input.{Ghosts as InputGhosts}
use Rattle.tab_io.specs.declared.writing.Output.{Ghosts}
use Rattle.tab_io.proofs.Putting.{put_more, put_part_more, all_written, part_written}
use Rattle.tab_lines.specs.declared.file_line.FileLine.{FileLine}
use Rattle.tab_lines.specs.declared.line.Line.{Line}
use Rattle.tab_text.specs.declared.parse_error.ParseError.{ParseError}
use Rattle.tab_shell.specs.declared.pending.Pending.{Pending}
use Rattle.tab_shell.specs.declared.script.Ended.TheVariants.{Input, File}
use Rattle.tab_shell.specs.declared.script.ScriptFault.{ScriptFault}
use Rattle.tab_shell.specs.declared.script.ScriptFault.TheVariants.{Read, Write}
use Rattle.tab_replies.specs.Texts.{lines_of}
use Rattle.tab_shell.specs.Scripts.{ScriptState, ScriptAnswersLine, ScriptAnswersLines}
use Rattle.tab_shell.specs.Ahead.{Pends, ReadsLine, Ahead, AtEnd}
use Rattle.tab_shell.specs.Progress.{AnswersWhole, AnswersAll, AnswersToFile, BeginsWithFile, IsAccepted, HasAccepted, HasEnded, StopsAhead, IsWritten, IsWrittenPart, IsLeft, FailedSide, RunsScript, RunsAreOne}
use Rattle.tab_shell.proofs.ProgressLemmas.{ran_both, ran_line, whole_as, file_then}
use Rattle.tab_shell.proofs.Taking.{lines_last, lines_join}

pub when_true : (b : Bool) (X Y : Type 0) → b ≡ true → MatchBool b X Y → X
when_true true X Y is m = m
when_true false X Y is m = absurd cc

pub when_false : (b : Bool) (X Y : Type 0) → b ≡ false → MatchBool b X Y → Y
when_false false X Y is m = m
when_false true X Y is m = absurd cc

-- from the beginning of a line
pub from_start : (r : Option (List ℕ)) (p : Pending) (X : List ℕ → Type 0) → Pends p [] → ((todo : List ℕ) → Ahead r p todo → X todo) → IfSome r X
from_start None p X fresh f = tt
from_start (Some bytes) p X fresh f = f bytes ([], fresh, refl)

-- what is ahead is a part of a line, and what is left to read
left_behind : (r : Option (List ℕ)) (p : Pending) (after : List ℕ) → Ahead r p after → IsLeft r after
left_behind None p after ahead = absurd ahead
left_behind (Some rest) p after ahead = (ahead.0, rest, ahead.2, ahead.1.inside, refl)

-- what was answered where writing failed
abbrev Stops : {W : Type 0} → Ghosts W → ScriptState → ScriptState → Option (List ℕ) → W → W → List ℕ → Type 0
Stops g a d left o o1 bytes = AnswersWhole a bytes d (IsLeft left) (IsWrittenPart g o o1) ⊎ AnswersAll a bytes d left (IsWrittenPart g o o1) ⊎ ((file : FileLine) × AnswersToFile a bytes file d left (IsWrittenPart g o o1))

-- up to a file line, with what follows from the facts
to_file : (a d : ScriptState) (file : FileLine) (todo : List ℕ) (left : Option (List ℕ)) (H K : List ℕ → Type 0) → AnswersToFile a todo file d left H → ((t : List ℕ) → H t → K t) → AnswersToFile a todo file d left K
to_file a d file todo left H K x holds = (x.0, whole_as a x.0 todo (BeginsWithFile file left) (BeginsWithFile file left) H K x.1 (λ behind h. h) holds, x.2)

-- a fault while lines end
pub stops_after : {R W : Type 0} (i : InputGhosts R) (g : Ghosts W) (fault : ScriptFault) (a d : ScriptState) (input input' : R) (p p1 : Pending) (o o1 : W)
    → Pends p [] → StopsAhead g fault a (i.remaining input) p o d (i.remaining input') p1 o1 → FailedSide i g fault input input' o o1 → RunsScript i g a input o d input' o1 (Err fault)
stops_after i g Read a d input input' p p1 o o1 fresh f failed =
    let r : Option (List ℕ) = i.remaining input in
    let r1 : Option (List ℕ) = i.remaining input' in
    let ends = λ (todo : List ℕ) (ahead : Ahead r p todo). whole_as a d todo (Ahead r1 p1) (IsLeft r1) (HasPut g o o1) (IsWritten g o o1) (f.0 todo ahead) (left_behind r1 p1) (λ t h. all_written t h f.1) in
    (from_start r p (λ bytes. AnswersWhole a bytes d (IsLeft r1) (IsWritten g o o1)) fresh ends, f.1, failed)
stops_after i g Write a d input input' p p1 o o1 fresh (inl f) failed =
    let r : Option (List ℕ) = i.remaining input in
    let r1 : Option (List ℕ) = i.remaining input' in
    let ends : (todo : List ℕ) → Ahead r p todo → Stops g a d r1 o o1 todo = λ todo ahead. inl (whole_as a d todo (Ahead r1 p1) (IsLeft r1) (HasPutPart g o o1) (IsWrittenPart g o o1) (f todo ahead) (left_behind r1 p1) (λ t h. part_written t h)) in
    (from_start r p (Stops g a d r1 o o1) fresh ends, failed)
stops_after i g Write a d input input' p p1 o o1 fresh (inr (file, f)) failed =
    let r : Option (List ℕ) = i.remaining input in
    let r1 : Option (List ℕ) = i.remaining input' in
    let ends : (todo : List ℕ) → Ahead r p todo → Stops g a d r1 o o1 todo = λ todo ahead. inr (inr (file, to_file a d file todo r1 (HasPutPart g o o1) (IsWrittenPart g o o1) (f todo ahead) (λ t h. part_written t h))) in
    (from_start r p (Stops g a d r1 o o1) fresh ends, failed)

module _ {W : Type 0} (g : Ghosts W) where
  -- no line has begun at the end
  pub ends_clean : (a d : ScriptState) (r r1 : Option (List ℕ)) (p p1 : Pending) (o o1 : W)
      → Pends p [] → HasEnded g a r p o d r1 p1 o1 → g.held o1 ≡ [] → ((gone : List ℕ) → Pends p1 gone → gone ≡ []) → IfSome r (λ bytes. AnswersAll a bytes d r1 (IsWritten g o o1))
  ends_clean a d r r1 p p1 o o1 fresh f none over = from_start r p (λ bytes. AnswersAll a bytes d r1 (IsWritten g o o1)) fresh ends
    where
      ends : (todo : List ℕ) → Ahead r p todo → AnswersAll a todo d r1 (IsWritten g o o1)
      ends todo ahead =
          let x = f todo ahead in
          let all : todo ≡ x.0 = x.3 ∙ ap (λ (t : List ℕ). x.0 ++ t) (over x.1 x.5.1) ∙ append-nil x.0 in
          (x.2, subst (λ (t : List ℕ). ScriptAnswersLines a (lines_of t) x.2 d) (sym all) x.6, x.5.0, all_written x.2 x.7 none)

  -- the last line lacks its line feed: all lines were answered with it
  last_line : (a b d : ScriptState) (said : Result Line ParseError) (r r1 : Option (List ℕ)) (p p1 : Pending) (o o1 : W) (H K : List ℕ → Type 0) → HasEnded g a r p o b r1 p1 o1 → ((gone : List ℕ) → Pends p1 gone → 0 < length gone)
      → ((gone : List ℕ) → Pends p1 gone → ReadsLine said (gone ++ [])) → (text : List ℕ) × ScriptAnswersLine b said text d × H text → ((t u : List ℕ) → HasPut g o o1 t → H u → K (t ++ u)) → (todo : List ℕ) → Ahead r p todo → AnswersAll a todo d r1 K
  last_line a b d said r r1 p p1 o o1 H K f some says prints join todo ahead =
      let x = f todo ahead in
      let gone : List ℕ = x.1 in
      let pends : Pends p1 gone = x.5.1 in
      let spelled : ReadsLine said gone = subst (λ (l : List ℕ). ReadsLine said l) (append-nil gone) (says gone pends) in
      let all : lines_of todo ≡ lines_of x.0 ++ gone ∷ [] = ap lines_of x.3 ∙ lines_join x.0 gone x.4 ∙ ap (λ (ls : List (List ℕ)). lines_of x.0 ++ ls) (lines_last gone pends.inside (some gone pends)) in (
        x.2 ++ prints.0,
        subst (λ (ls : List (List ℕ)). ScriptAnswersLines a ls (x.2 ++ prints.0) d) (sym all) (ran_both a b d (lines_of x.0) (gone ∷ []) x.2 prints.0 x.6 (ran_line b d said gone prints.0 spelled prints.1)),
        x.5.0,
        join x.2 prints.0 x.7 prints.2,
      )

  -- it is answered, and a flush leaves nothing held
  pub ends_open : (a b d : ScriptState) (said : Result Line ParseError) (r r1 : Option (List ℕ)) (p p1 : Pending) (o o1 o2 o3 : W)
      → Pends p [] → HasEnded g a r p o b r1 p1 o1 → ((gone : List ℕ) → Pends p1 gone → 0 < length gone) → ((gone : List ℕ) → Pends p1 gone → ReadsLine said (gone ++ []))
      → (text : List ℕ) × ScriptAnswersLine b said text d × HasPut g o1 o2 text → HasPut g o2 o3 [] → g.held o3 ≡ [] → IfSome r (λ bytes. AnswersAll a bytes d r1 (IsWritten g o o3))
  ends_open a b d said r r1 p p1 o o1 o2 o3 fresh f some says prints flush none =
      let joined : (t u : List ℕ) → HasPut g o o1 t → HasPut g o1 o2 u → IsWritten g o o3 (t ++ u) =
      λ t u h k. all_written (t ++ u) (subst (λ (x : List ℕ). HasPut g o o3 x) (append-nil (t ++ u)) (put_more (put_more h k) flush)) none in
      from_start r p (λ bytes. AnswersAll a bytes d r1 (IsWritten g o o3)) fresh (last_line a b d said r r1 p p1 o o1 (HasPut g o1 o2) (IsWritten g o o3) f some says prints joined)

  -- it is a file line, which is accepted
  last_file : (a b d : ScriptState) (said : Result Line ParseError) (file : FileLine) (r r1 : Option (List ℕ)) (p p1 : Pending) (o o1 : W) (H K : List ℕ → Type 0) → HasEnded g a r p o b r1 p1 o1
      → ((gone : List ℕ) → Pends p1 gone → ReadsLine said (gone ++ [])) → IsAccepted b said file d → ((t : List ℕ) → HasPut g o o1 t → K t) → (todo : List ℕ) → Ahead r p todo → AnswersToFile a todo file d r1 K
  last_file a b d said file r r1 p p1 o o1 H K f says accepted holds todo ahead = (b, whole_as a b todo (AtEnd r1 p1) (BeginsWithFile file r1) (HasPut g o o1) K (f todo ahead) begins holds, accepted.1)
    where
      begins : (gone : List ℕ) → AtEnd r1 p1 gone → BeginsWithFile file r1 gone
      begins gone end =
          let spelled : ReadsLine said gone = subst (λ (l : List ℕ). ReadsLine said l) (append-nil gone) (says gone end.1) in
          (gone, [], end.1.inside, subst (λ (s : Result Line ParseError). ReadsLine s gone) accepted.0 spelled, end.0, inr (refl, refl))

  -- up to a file line, and nothing is held
  pub ends_at_file : (a d : ScriptState) (file : FileLine) (r r1 : Option (List ℕ)) (p : Pending) (o o1 : W) → Pends p [] → HasAccepted g a r p o file d r1 o1 → g.held o1 ≡ [] → IfSome r (λ bytes. AnswersToFile a bytes file d r1 (IsWritten g o o1))
  ends_at_file a d file r r1 p o o1 fresh f none =
      from_start r p (λ bytes. AnswersToFile a bytes file d r1 (IsWritten g o o1)) fresh (λ todo ahead. to_file a d file todo r1 (HasPut g o o1) (IsWritten g o o1) (f todo ahead) (λ t h. all_written t h none))

  pub ends_in_file : (a b d : ScriptState) (said : Result Line ParseError) (file : FileLine) (r r1 : Option (List ℕ)) (p p1 : Pending) (o o1 o2 : W) → Pends p [] → HasEnded g a r p o b r1 p1 o1 → ((gone : List ℕ) → Pends p1 gone → ReadsLine said (gone ++ []))
      → IsAccepted b said file d → HasPut g o1 o2 [] → g.held o2 ≡ [] → IfSome r (λ bytes. AnswersToFile a bytes file d r1 (IsWritten g o o2))
  ends_in_file a b d said file r r1 p p1 o o1 o2 fresh f says accepted put none =
      let written : (t : List ℕ) → HasPut g o o1 t → IsWritten g o o2 t = λ t h. all_written t (subst (λ (u : List ℕ). HasPut g o o2 u) (append-nil t) (put_more h put)) none in
      from_start r p (λ bytes. AnswersToFile a bytes file d r1 (IsWritten g o o2)) fresh (last_file a b d said file r r1 p p1 o o1 (HasPut g o o1) (IsWritten g o o2) f says accepted written)

  -- it fails, or the flush after it
  pub stops_open : (a b d : ScriptState) (said : Result Line ParseError) (r r1 : Option (List ℕ)) (p p1 : Pending) (o o1 o2 : W)
      → Pends p [] → HasEnded g a r p o b r1 p1 o1 → ((gone : List ℕ) → Pends p1 gone → 0 < length gone) → ((gone : List ℕ) → Pends p1 gone → ReadsLine said (gone ++ []))
      → ((text : List ℕ) × ScriptAnswersLine b said text d × HasPutPart g o1 o2 text) ⊎ ((file : FileLine) × IsAccepted b said file d × HasPutPart g o1 o2 []) → IfSome r (Stops g a d r1 o o2)
  stops_open a b d said r r1 p p1 o o1 o2 fresh f some says (inl prints) =
      let all = last_line a b d said r r1 p p1 o o1 (HasPutPart g o1 o2) (IsWrittenPart g o o2) f some says prints (λ t u h k. part_written (t ++ u) (put_part_more h k)) in
      from_start r p (Stops g a d r1 o o2) fresh (λ todo ahead. inr (inl (all todo ahead)))
  stops_open a b d said r r1 p p1 o o1 o2 fresh f some says (inr (file, accepted, put)) =
      let written : (t : List ℕ) → HasPut g o o1 t → IsWrittenPart g o o2 t = λ t h. part_written t (subst (λ (u : List ℕ). HasPutPart g o o2 u) (append-nil t) (put_part_more h put)) in
      let all = last_file a b d said file r r1 p p1 o o1 (HasPut g o o1) (IsWrittenPart g o o2) f says accepted written in
      from_start r p (Stops g a d r1 o o2) fresh (λ todo ahead. inr (inr (file, all todo ahead)))

  -- a flush that fails behind a text
  pub flush_behind : (b d : ScriptState) (said : Result Line ParseError) (o o1 o2 : W) → (text : List ℕ) × ScriptAnswersLine b said text d × HasPut g o o1 text → HasPutPart g o1 o2 [] → (text : List ℕ) × ScriptAnswersLine b said text d × HasPutPart g o o2 text
  flush_behind b d said o o1 o2 prints flush =
      (prints.0, prints.1, subst (λ (t : List ℕ). HasPutPart g o o2 t) (append-nil prints.0) (put_part_more prints.2 flush))

-- ---- two runs
written_both : {W : Type 0} (g : Ghosts W) (o o1 o2 : W) (t u : List ℕ) → g.held o1 ≡ [] → IsWritten g o o1 t → IsWritten g o1 o2 u → IsWritten g o o2 (t ++ u)
written_both g o o1 o2 t u none x y =
    let h : List ℕ = g.held o in
    let second : Appends (g.contents o1) (g.contents o2) u = subst (λ (held : List ℕ). Appends (g.contents o1) (g.contents o2) (held ++ u)) none y in
    subst (λ (bs : List ℕ). Appends (g.contents o) (g.contents o2) bs) (append_assoc h t u) (Appends-trans (g.contents o) (g.contents o1) (g.contents o2) (h ++ t) u x second)

-- what was answered of some bytes, where these are what was to come
known : (r : Option (List ℕ)) (bytes : List ℕ) (X : List ℕ → Type 0) → r ≡ Some bytes → IfSome r X → X bytes
known r bytes X is x = subst (λ (s : Option (List ℕ)). IfSome s X) is x

unknown : (r : Option (List ℕ)) (bytes : List ℕ) (X : List ℕ → Type 0) → r ≡ Some bytes → X bytes → IfSome r X
unknown r bytes X is x = subst (λ (s : Option (List ℕ)). IfSome s X) (sym is) x

pub runs_are_one : {R W : Type 0} (i : InputGhosts R) (g : Ghosts W) → RunsAreOne i g
runs_are_one i g a b Input old mid new first first' second second' both both' o o1 o2 ra whole rb rab same x y =
    let p : AnswersAll old a mid (i.remaining first') (IsWritten g o o1) = known (i.remaining first) a (λ bytes. AnswersAll old bytes mid (i.remaining first') (IsWritten g o o1)) ra x.0 in
    let q : AnswersAll mid b new (i.remaining second') (IsWritten g o1 o2) = known (i.remaining second) b (λ bytes. AnswersAll mid bytes new (i.remaining second') (IsWritten g o1 o2)) rb y.0 in
    let answered : ScriptAnswersLines old (lines_of (a ++ b)) (p.0 ++ q.0) new =
    subst (λ (ls : List (List ℕ)). ScriptAnswersLines old ls (p.0 ++ q.0) new) (sym (lines_join a b whole)) (ran_both old mid new (lines_of a) (lines_of b) p.0 q.0 p.1 q.1) in
    let all : AnswersAll old (a ++ b) new (i.remaining both') (IsWritten g o o2) = (p.0 ++ q.0, answered, same ∙ q.2, written_both g o o1 o2 p.0 q.0 x.1 p.3 q.3) in
    (unknown (i.remaining both) (a ++ b) (λ bytes. AnswersAll old bytes new (i.remaining both') (IsWritten g o o2)) rab all, y.1)
runs_are_one i g a b (File file) old mid new first first' second second' both both' o o1 o2 ra whole rb rab same x y =
    let p : AnswersAll old a mid (i.remaining first') (IsWritten g o o1) = known (i.remaining first) a (λ bytes. AnswersAll old bytes mid (i.remaining first') (IsWritten g o o1)) ra x.0 in
    let q : AnswersToFile mid b file new (i.remaining second') (IsWritten g o1 o2) = known (i.remaining second) b (λ bytes. AnswersToFile mid bytes file new (i.remaining second') (IsWritten g o1 o2)) rb y.0 in
    let front : AnswersWhole old (a ++ b) mid (λ behind. behind ≡ b) (IsWritten g o o1) = (a, b, p.0, refl, whole, refl, p.1, p.3) in
    let all : AnswersToFile old (a ++ b) file new (i.remaining second') (IsWritten g o o2) =
    file_then old mid new file (a ++ b) (i.remaining second') (λ behind. behind ≡ b) (IsWritten g o o1) (IsWritten g o1 o2) (IsWritten g o o2) front q (λ t u h k. written_both g o o1 o2 t u x.1 h k) in
    let one : AnswersToFile old (a ++ b) file new (i.remaining both') (IsWritten g o o2) = subst (λ (left : Option (List ℕ)). AnswersToFile old (a ++ b) file new left (IsWritten g o o2)) (sym same) all in
    (unknown (i.remaining both) (a ++ b) (λ bytes. AnswersToFile old bytes file new (i.remaining both') (IsWritten g o o2)) rab one, y.1)
