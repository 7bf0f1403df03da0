-- How far a script has come with its input.
use Rattle.std.proofs.Common.{ℕ, Bool, true, false, ◌≡◌, ◌<◌, ◌⊎◌, inl, inr, List, [], ◌∷◌, ◌++◌, length, refl, sym, ap, ◌∙◌, subst, arith, append_assoc, Option, Some, None, Result, Ok, Err}
use Rattle.std.specs.Prelude.{Result}
use Rattle.std.specs.Io.KnownBytes.{Keeps}
use Rattle.std.proofs.lemmas.List.{append-nil}
use Rattle.tab_history.specs.Histories.{Entry, World}
use Rattle.tab_history.specs.Legal.{Legal}
use Rattle.tab_io.specs.Streams.{IsEnd, Fills}
use Rattle.tab_io.specs.Writing.{HasPut, HasPutPart, WriteFailed}
use Rattle.tab_io.specs.declared.reading.Input.{Ghosts as InputGhosts}
use Rattle.tab_io.specs.declared.writing.Output.{Ghosts}
use Rattle.tab_io.proofs.Putting.{put_none, put_more, put_part_more}
use Rattle.tab_lines.specs.declared.file_line.FileLine.{FileLine}
use Rattle.tab_lines.specs.declared.line.Line.{Line}
use Rattle.tab_lines.specs.declared.line.Line.TheVariants as line
use Rattle.tab_text.specs.declared.parse_error.ParseError.{ParseError}
use Rattle.tab_shell.specs.declared.pending.Pending.{Pending}
use Rattle.tab_replies.specs.Texts.{lines_of}
use Rattle.tab_shell.specs.Numbers.{Numbers}
use Rattle.tab_shell.specs.Scripts.{Asker, ScriptState, ScriptRefines, asker_after, numbers_after, ScriptAnswersLine, LinesAnswered, ScriptAnswersLines, IsInside}
use Rattle.tab_shell.specs.Ahead.{Pends, ReadsLine, Ahead, IsNext, AtEnd, TakesLine, TakesOn}
use Rattle.tab_shell.specs.Progress.{AnswersWhole, AnswersToFile, BeginsWithFile, IsAccepted, HasAnswered, HasAnsweredPart, HasAccepted, HasAcceptedPart, HasFailed, HasEnded, IsEmptied, ComesFurther}
use Rattle.tab_core.proofs.JobLemmas.{goes_on_exactly}
use Rattle.tab_shell.proofs.JobSteps.{goes_nowhere}
use Rattle.tab_shell.proofs.Taking.{lines_cut, lines_none, lines_join, ends_both}

-- lines, and then more lines
lines_both : (who mid last : Asker) (n m after : Numbers) (w : World) (h : List Entry) (ls ms : List (List ℕ)) (es fs : List Entry) (t u : List ℕ) → LinesAnswered who n w h ls es t mid m → LinesAnswered mid m w (es ++ h) ms fs u last after
    → LinesAnswered who n w h (ls ++ ms) (fs ++ es) (t ++ u) last after
lines_both who mid last n m after w h [] ms es fs t u a b =
    let asked : LinesAnswered who m w (es ++ h) ms fs u last after = subst (λ (x : Asker). LinesAnswered x m w (es ++ h) ms fs u last after) a.2 b in
    let here : LinesAnswered who n w (es ++ h) ms fs u last after = subst (λ (x : Numbers). LinesAnswered who x w (es ++ h) ms fs u last after) a.3 asked in
    let one : LinesAnswered who n w h ms fs u last after = subst (λ (e : List Entry). LinesAnswered who n w (e ++ h) ms fs u last after) a.0 here in
    let ends : fs ++ es ≡ fs = ap (λ (e : List Entry). fs ++ e) a.0 ∙ append-nil fs in
    let texts : t ++ u ≡ u = ap (λ (x : List ℕ). x ++ u) a.1 in
    subst (λ (x : List ℕ). LinesAnswered who n w h ms (fs ++ es) x last after) (sym texts) (subst (λ (e : List Entry). LinesAnswered who n w h ms e u last after) (sym ends) one)
lines_both who mid last n m after w h (l ∷ ls) ms es fs t u a b =
    let said : Result Line ParseError = a.0 in
    let first : List Entry = a.1 in
    let more : List Entry = a.2 in
    let rest : LinesAnswered mid m w (more ++ (first ++ h)) ms fs u last after = subst (λ (e : List Entry). LinesAnswered mid m w e ms fs u last after) (ap (λ (e : List Entry). e ++ h) a.8 ∙ append_assoc more first h) b in (
      said,
      first,
      fs ++ more,
      a.3,
      a.4 ++ u,
      a.5,
      a.6,
      lines_both (asker_after who said) mid last (numbers_after who n w h said first) m after w (first ++ h) ls ms more fs a.4 u a.7 rest,
      ap (λ (e : List Entry). fs ++ e) a.8 ∙ sym (append_assoc fs more first),
      ap (λ (x : List ℕ). x ++ u) a.9 ∙ append_assoc a.3 a.4 u,
    )

pub ran_none : (s : ScriptState) → ScriptAnswersLines s [] [] s
ran_none s w h numbers refines legal = ([], numbers, (refl, refl, refl, refl), record { legal = legal; exact = goes_nowhere s.core s.jobs; refines = refines })

pub ran_both : (a b c : ScriptState) (ls ms : List (List ℕ)) (t u : List ℕ) → ScriptAnswersLines a ls t b → ScriptAnswersLines b ms u c → ScriptAnswersLines a (ls ++ ms) (t ++ u) c
ran_both a b c ls ms t u f g w h numbers refines legal =
    let x = f w h numbers refines legal in
    let y = g w (x.0 ++ h) x.1 x.3.refines x.3.legal in
    let es : (y.0 ++ x.0) ++ h ≡ y.0 ++ (x.0 ++ h) = append_assoc y.0 x.0 h in (
      y.0 ++ x.0,
      y.1,
      lines_both a.asker b.asker c.asker numbers x.1 y.1 w h ls ms x.0 y.0 t u x.2 y.2,
      record {
        legal = subst (λ (e : List Entry). Legal w e) (sym es) y.3.legal;
        exact = goes_on_exactly a.core b.core c.core a.jobs b.jobs c.jobs x.0 y.0 x.3.exact y.3.exact;
        refines = subst (λ (e : List Entry). ScriptRefines c y.1 w e) (sym es) y.3.refines;
      },
    )

-- one line
pub ran_line : (a b : ScriptState) (said : Result Line ParseError) (line : List ℕ) (text : List ℕ) → ReadsLine said line → ScriptAnswersLine a said text b → ScriptAnswersLines a (line ∷ []) text b
ran_line a b said line text says answered w h numbers refines legal =
    let x = answered.extends w h numbers refines legal in
    (x.0, numbers_after a.asker numbers w h said x.0, (said, x.0, [], text, [], says, x.1, (refl, refl, answered.asker, refl), refl, sym (append-nil text)), x.2)

-- ---- of some bytes
-- no line yet
whole_none : (s : ScriptState) (todo : List ℕ) (B H : List ℕ → Type 0) → B todo → H [] → AnswersWhole s todo s B H
whole_none s todo B H behind holds = ([], todo, [], refl, inl refl, behind, subst (λ (ls : List (List ℕ)). ScriptAnswersLines s ls [] s) (sym lines_none) (ran_none s), holds)

-- one line with its line feed
whole_line : (a b : ScriptState) (said : Result Line ParseError) (line after todo text : List ℕ) (B H : List ℕ → Type 0)
    → ReadsLine said line → IsInside line → todo ≡ line ++ 10 ∷ after → B after → ScriptAnswersLine a said text b → H text → AnswersWhole a todo b B H
whole_line a b said line after todo text B H says inside is behind answered holds =
    let one : lines_of (line ++ 10 ∷ []) ≡ line ∷ [] = lines_cut line [] inside ∙ ap (λ (ls : List (List ℕ)). line ∷ ls) lines_none in (
      line ++ 10 ∷ [],
      after,
      text,
      is ∙ sym (append_assoc line (10 ∷ []) after),
      inr (line, refl),
      behind,
      subst (λ (ls : List (List ℕ)). ScriptAnswersLines a ls text b) (sym one) (ran_line a b said line text says answered),
      holds,
    )

-- more of what stood behind
whole_then : (a b d : ScriptState) (todo : List ℕ) (B C H K M : List ℕ → Type 0) (x : AnswersWhole a todo b B H) → AnswersWhole b x.1 d C K → ((t u : List ℕ) → H t → K u → M (t ++ u)) → AnswersWhole a todo d C M
whole_then a b d todo B C H K M x y join = (
  x.0 ++ y.0,
  y.1,
  x.2 ++ y.2,
  x.3 ∙ ap (λ (t : List ℕ). x.0 ++ t) y.3 ∙ sym (append_assoc x.0 y.0 y.1),
  ends_both x.0 y.0 x.4 y.4,
  y.5,
  subst (λ (ls : List (List ℕ)). ScriptAnswersLines a ls (x.2 ++ y.2) d) (sym (lines_join x.0 y.0 x.4)) (ran_both a b d (lines_of x.0) (lines_of y.0) x.2 y.2 x.6 y.6),
  join x.2 y.2 x.7 y.7,
)

whole_both : (a b d : ScriptState) (todo : List ℕ) (B C H K M : List ℕ → Type 0) → AnswersWhole a todo b B H → ((after : List ℕ) → B after → AnswersWhole b after d C K) → ((t u : List ℕ) → H t → K u → M (t ++ u)) → AnswersWhole a todo d C M
whole_both a b d todo B C H K M x more join = whole_then a b d todo B C H K M x (more x.1 x.5) join

-- more of it, and then a file line
pub file_then : (a b d : ScriptState) (file : FileLine) (todo : List ℕ) (left : Option (List ℕ)) (B H K M : List ℕ → Type 0) (x : AnswersWhole a todo b B H) → AnswersToFile b x.1 file d left K → ((t u : List ℕ) → H t → K u → M (t ++ u)) → AnswersToFile a todo file d left M
file_then a b d file todo left B H K M x y join = (y.0, whole_then a b y.0 todo B (BeginsWithFile file left) H K M x y.1 join, y.2)

-- the same lines, with what follows from the facts
pub whole_as : (a b : ScriptState) (todo : List ℕ) (B C H K : List ℕ → Type 0) → AnswersWhole a todo b B H → ((after : List ℕ) → B after → C after) → ((t : List ℕ) → H t → K t) → AnswersWhole a todo b C K
whole_as a b todo B C H K x behind holds = (x.0, x.1, x.2, x.3, x.4, behind x.1 x.5, x.6, holds x.2 x.7)

-- ---- over an output
pub goes_none : {W : Type 0} (g : Ghosts W) (s : ScriptState) (r : Option (List ℕ)) (p : Pending) (o : W) → HasAnswered g s r p o s r p o
goes_none g s r p o todo ahead = whole_none s todo (Ahead r p) (HasPut g o o) ahead (put_none g o)

module _ {W : Type 0} (g : Ghosts W) where
  pub goes_both : (a b d : ScriptState) (r r1 r2 : Option (List ℕ)) (p p1 p2 : Pending) (o o1 o2 : W) → HasAnswered g a r p o b r1 p1 o1 → HasAnswered g b r1 p1 o1 d r2 p2 o2 → HasAnswered g a r p o d r2 p2 o2
  goes_both a b d r r1 r2 p p1 p2 o o1 o2 f more todo ahead =
      whole_both a b d todo (Ahead r1 p1) (Ahead r2 p2) (HasPut g o o1) (HasPut g o1 o2) (HasPut g o o2) (f todo ahead) more (λ t u h k. put_more h k)

  pub part_both : (a b d : ScriptState) (r r1 r2 : Option (List ℕ)) (p p1 p2 : Pending) (o o1 o2 : W) → HasAnswered g a r p o b r1 p1 o1 → HasAnsweredPart g b r1 p1 o1 d r2 p2 o2 → HasAnsweredPart g a r p o d r2 p2 o2
  part_both a b d r r1 r2 p p1 p2 o o1 o2 f more todo ahead =
      whole_both a b d todo (Ahead r1 p1) (Ahead r2 p2) (HasPut g o o1) (HasPutPart g o1 o2) (HasPutPart g o o2) (f todo ahead) more (λ t u h k. put_part_more h k)

  -- what is to come is ahead
  next_ahead : (r : Option (List ℕ)) (p : Pending) (todo : List ℕ) → IsNext r p todo → Ahead r p todo
  next_ahead r p todo next = subst (λ (x : Option (List ℕ)). Ahead x p todo) (sym next.0) ([], next.1, refl)

  -- one line is taken and answered
  line_goes : (a b : ScriptState) (said : Result Line ParseError) (r r1 : Option (List ℕ)) (p p1 : Pending) (H : List ℕ → Type 0)
      → TakesLine r p said r1 p1 → (text : List ℕ) × ScriptAnswersLine a said text b × H text → (todo : List ℕ) → Ahead r p todo → AnswersWhole a todo b (Ahead r1 p1) H
  line_goes a b said r r1 p p1 H takes prints todo ahead =
      let x = takes todo ahead in
      whole_line a b said x.0 x.1 todo prints.0 (Ahead r1 p1) H x.2 x.3 x.4 (next_ahead r1 p1 x.1 x.5) prints.1 prints.2

  pub goes_line : (a b d : ScriptState) (said : Result Line ParseError) (r r1 r2 : Option (List ℕ)) (p p1 p2 : Pending) (o o1 o2 : W)
      → HasAnswered g a r p o b r1 p1 o1 → TakesLine r1 p1 said r2 p2 → (text : List ℕ) × ScriptAnswersLine b said text d × HasPut g o1 o2 text → HasAnswered g a r p o d r2 p2 o2
  goes_line a b d said r r1 r2 p p1 p2 o o1 o2 f takes prints = goes_both a b d r r1 r2 p p1 p2 o o1 o2 f (line_goes b d said r1 r2 p1 p2 (HasPut g o1 o2) takes prints)

  pub part_line : (a b d : ScriptState) (said : Result Line ParseError) (r r1 r2 : Option (List ℕ)) (p p1 p2 : Pending) (o o1 o2 : W)
      → HasAnswered g a r p o b r1 p1 o1 → TakesLine r1 p1 said r2 p2 → (text : List ℕ) × ScriptAnswersLine b said text d × HasPutPart g o1 o2 text → HasAnsweredPart g a r p o d r2 p2 o2
  part_line a b d said r r1 r2 p p1 p2 o o1 o2 f takes prints = part_both a b d r r1 r2 p p1 p2 o o1 o2 f (line_goes b d said r1 r2 p1 p2 (HasPutPart g o1 o2) takes prints)

  -- one line is taken, and it is this file line
  takes_file : (said : Result Line ParseError) (file : FileLine) (r r1 : Option (List ℕ)) (p p1 : Pending) → said ≡ Ok (line.File file) → TakesLine r p said r1 p1 → (todo : List ℕ) → Ahead r p todo → BeginsWithFile file r1 todo
  takes_file said file r r1 p p1 is takes todo ahead =
      let x = takes todo ahead in
      (x.0, x.1, x.3, subst (λ (s : Result Line ParseError). ReadsLine s x.0) is x.2, x.5.0, inl x.4)

  -- it was accepted, behind lines that were answered
  pub goes_file : (a b d : ScriptState) (said : Result Line ParseError) (file : FileLine) (r r1 r2 : Option (List ℕ)) (p p1 p2 : Pending) (o o1 o2 : W)
      → HasAnswered g a r p o b r1 p1 o1 → TakesLine r1 p1 said r2 p2 → IsAccepted b said file d → HasPut g o1 o2 [] → HasAccepted g a r p o file d r2 o2
  goes_file a b d said file r r1 r2 p p1 p2 o o1 o2 f takes accepted put todo ahead = (
    b,
    whole_as a b todo (Ahead r1 p1) (BeginsWithFile file r2) (HasPut g o o1) (HasPut g o o2) (f todo ahead) (takes_file said file r1 r2 p1 p2 accepted.0 takes) (λ t h. subst (λ (u : List ℕ). HasPut g o o2 u) (append-nil t) (put_more h put)),
    accepted.1,
  )

  pub part_file : (a b d : ScriptState) (said : Result Line ParseError) (file : FileLine) (r r1 r2 : Option (List ℕ)) (p p1 p2 : Pending) (o o1 o2 : W)
      → HasAnswered g a r p o b r1 p1 o1 → TakesLine r1 p1 said r2 p2 → IsAccepted b said file d → HasPutPart g o1 o2 [] → HasAcceptedPart g a r p o file d r2 o2
  part_file a b d said file r r1 r2 p p1 p2 o o1 o2 f takes accepted put todo ahead = (
    b,
    whole_as a b todo (Ahead r1 p1) (BeginsWithFile file r2) (HasPut g o o1) (HasPutPart g o o2) (f todo ahead) (takes_file said file r1 r2 p1 p2 accepted.0 takes) (λ t h. subst (λ (u : List ℕ). HasPutPart g o o2 u) (append-nil t) (put_part_more h put)),
    accepted.1,
  )

  -- a write failed at one line that was taken
  pub fails_line : (a b d : ScriptState) (said : Result Line ParseError) (r r1 r2 : Option (List ℕ)) (p p1 p2 : Pending) (o o1 o2 : W) → HasAnswered g a r p o b r1 p1 o1 → TakesLine r1 p1 said r2 p2
      → ((text : List ℕ) × ScriptAnswersLine b said text d × HasPutPart g o1 o2 text) ⊎ ((file : FileLine) × IsAccepted b said file d × HasPutPart g o1 o2 []) → HasFailed g a r p o d r2 p2 o2
  fails_line a b d said r r1 r2 p p1 p2 o o1 o2 f takes (inl prints) = inl (part_line a b d said r r1 r2 p p1 p2 o o1 o2 f takes prints)
  fails_line a b d said r r1 r2 p p1 p2 o o1 o2 f takes (inr (file, accepted, put)) = inr (file, part_file a b d said file r r1 r2 p p1 p2 o o1 o2 f takes accepted put)

  -- lines were answered, and then more of them, up to a file line
  pub file_both : (a b d : ScriptState) (file : FileLine) (r r1 r2 : Option (List ℕ)) (p p1 : Pending) (o o1 o2 : W) → HasAnswered g a r p o b r1 p1 o1 → HasAccepted g b r1 p1 o1 file d r2 o2 → HasAccepted g a r p o file d r2 o2
  file_both a b d file r r1 r2 p p1 o o1 o2 f more todo ahead =
      let x = f todo ahead in
      file_then a b d file todo r2 (Ahead r1 p1) (HasPut g o o1) (HasPut g o1 o2) (HasPut g o o2) x (more x.1 x.5) (λ t u h k. put_more h k)

  -- the same where a write failed
  pub failed_both : (a b d : ScriptState) (r r1 r2 : Option (List ℕ)) (p p1 p2 : Pending) (o o1 o2 : W) → HasAnswered g a r p o b r1 p1 o1 → HasFailed g b r1 p1 o1 d r2 p2 o2 → HasFailed g a r p o d r2 p2 o2
  failed_both a b d r r1 r2 p p1 p2 o o1 o2 f (inl part) = inl (part_both a b d r r1 r2 p p1 p2 o o1 o2 f part)
  failed_both a b d r r1 r2 p p1 p2 o o1 o2 f (inr (file, part)) = inr (file, both)
    where
      both : HasAcceptedPart g a r p o file d r2 o2
      both todo ahead =
          let x = f todo ahead in
          file_then a b d file todo r2 (Ahead r1 p1) (HasPut g o o1) (HasPutPart g o1 o2) (HasPutPart g o o2) x (part x.1 x.5) (λ t u h k. put_part_more h k)

  -- no line ended, and what was there is kept
  pub goes_on : (a b : ScriptState) (r r1 r2 : Option (List ℕ)) (p p1 p2 : Pending) (o o1 : W) → HasAnswered g a r p o b r1 p1 o1 → TakesOn r1 p1 r2 p2 → HasAnswered g a r p o b r2 p2 o1
  goes_on a b r r1 r2 p p1 p2 o o1 f takes todo ahead = whole_as a b todo (Ahead r1 p1) (Ahead r2 p2) (HasPut g o o1) (HasPut g o o1) (f todo ahead) takes (λ t h. h)

  -- a flush puts nothing more
  pub goes_flush : (a b : ScriptState) (r r1 : Option (List ℕ)) (p p1 : Pending) (o o1 o2 : W) → HasAnswered g a r p o b r1 p1 o1 → HasPut g o1 o2 [] → HasAnswered g a r p o b r1 p1 o2
  goes_flush a b r r1 p p1 o o1 o2 f flush todo ahead =
      whole_as a b todo (Ahead r1 p1) (Ahead r1 p1) (HasPut g o o1) (HasPut g o o2) (f todo ahead) (λ after h. h) (λ t h. subst (λ (u : List ℕ). HasPut g o o2 u) (append-nil t) (put_more h flush))

  pub part_flush : (a b : ScriptState) (r r1 : Option (List ℕ)) (p p1 : Pending) (o o1 o2 : W) → HasAnswered g a r p o b r1 p1 o1 → HasPutPart g o1 o2 [] → HasAnsweredPart g a r p o b r1 p1 o2
  part_flush a b r r1 p p1 o o1 o2 f flush todo ahead =
      whole_as a b todo (Ahead r1 p1) (Ahead r1 p1) (HasPut g o o1) (HasPutPart g o o2) (f todo ahead) (λ after h. h) (λ t h. subst (λ (u : List ℕ). HasPutPart g o o2 u) (append-nil t) (put_part_more h flush))

  -- a fill keeps what is ahead
  keeps_ahead : (r r1 : Option (List ℕ)) (p : Pending) → Keeps r r1 → TakesOn r p r1 p
  keeps_ahead None r1 p keeps todo ahead = absurd ahead
  keeps_ahead (Some rest) None p keeps todo ahead = absurd keeps
  keeps_ahead (Some rest) (Some rest1) p keeps todo ahead = (ahead.0, ahead.1, ahead.2 ∙ ap (λ (x : List ℕ). ahead.0 ++ x) (sym keeps))

  pub goes_fill : (a b : ScriptState) (r r1 r2 : Option (List ℕ)) (p p1 : Pending) (o o1 : W) → HasAnswered g a r p o b r1 p1 o1 → Keeps r1 r2 → HasAnswered g a r p o b r2 p1 o1
  goes_fill a b r r1 r2 p p1 o o1 f keeps = goes_on a b r r1 r2 p p1 p1 o o1 f (keeps_ahead r1 r2 p1 keeps)

  -- at the end only what has gone by is left
  end_left : (r r1 : Option (List ℕ)) (p : Pending) → IsEnd r r1 → (todo : List ℕ) → Ahead r p todo → AtEnd r1 p todo
  end_left None r1 p end todo ahead = absurd ahead
  end_left (Some rest) r1 p end todo ahead =
      let gone : todo ≡ ahead.0 = ahead.2 ∙ ap (λ (x : List ℕ). ahead.0 ++ x) end.0 ∙ append-nil ahead.0 in
      (end.1, subst (λ (x : List ℕ). Pends p x) (sym gone) ahead.1)

  pub goes_end : (a b : ScriptState) (r r1 r2 : Option (List ℕ)) (p p1 : Pending) (o o1 : W) → HasAnswered g a r p o b r1 p1 o1 → IsEnd r1 r2 → HasEnded g a r p o b r2 p1 o1
  goes_end a b r r1 r2 p p1 o o1 f end todo ahead = whole_as a b todo (Ahead r1 p1) (AtEnd r2 p1) (HasPut g o o1) (HasPut g o o1) (f todo ahead) (end_left r1 r2 p1 end) (λ t h. h)

-- a write that failed, after writes that didn't
pub later_fault : {W : Type 0} (g : Ghosts W) (a b c : W) → g.faults b ≡ g.faults a → WriteFailed g b c → WriteFailed g a c
later_fault g a b c same (inl spent) = inl spent
later_fault g a b c same (inr counted) = inr (subst (λ (n : ℕ). n < g.faults c) same counted)

-- a write failed at a line, answered or accepted
pub fault_at : {W : Type 0} (g : Ghosts W) (b d : ScriptState) (said : Result Line ParseError) (o o1 : W)
    → ((text : List ℕ) × ScriptAnswersLine b said text d × HasPutPart g o o1 text) ⊎ ((file : FileLine) × IsAccepted b said file d × HasPutPart g o o1 []) → WriteFailed g o o1
fault_at g b d said o o1 (inl (text, answered, part)) = part.failed
fault_at g b d said o o1 (inr (file, accepted, part)) = part.failed

-- ---- how far the reader has come
pub further_file : {R : Type 0} (i : InputGhosts R) (a b c : R) (file : FileLine) → (i.budget b < i.budget a) ⊎ (b ≡ a) → i.budget c ≡ i.budget b → IsEmptied (Some file) (i.front b) (i.front c) → ComesFurther i a c
further_file i a b c file (inl less) same shorter = inl (omega (arith, less, same))
further_file {R} i a b c file (inr is) same shorter = inr (same ∙ ap i.budget is, subst (λ (x : R). length (i.front c) < length (i.front x)) is shorter.0, shorter.1)

pub further_fill : {R : Type 0} (i : InputGhosts R) (a b c d : R) → (i.budget b < i.budget a) ⊎ (b ≡ a) → i.budget c ≡ i.budget b → i.budget d < i.budget c → i.budget d < i.budget a
further_fill i a b c d (inl less) same spent = omega (arith, less, same, spent)
further_fill i a b c d (inr is) same spent = let e : i.budget b ≡ i.budget a = ap i.budget is in omega (arith, e, same, spent)

-- ---- a fill
end_keeps : (r r1 : Option (List ℕ)) → IsEnd r r1 → Keeps r r1
end_keeps None r1 h = tt
end_keeps (Some rest) None h = absurd cc
end_keeps (Some rest) (Some rest1) h = let is : Some rest1 ≡ Some [] = h.1 in cc

pub fills_keeps : {E : Type 0} (old new : Option (List ℕ)) (front : List ℕ) (more : Bool) (r : Result Bool E) → r ≡ Ok more → Fills old new front r → Keeps old new
fills_keeps old new front more (Ok true) is h = h.0
fills_keeps old new front more (Ok false) is h = end_keeps old new h.0
fills_keeps old new front more (Err e) is h = h

pub fills_end : {E : Type 0} (old new : Option (List ℕ)) (front : List ℕ) (r : Result Bool E) → r ≡ Ok false → Fills old new front r → IsEnd old new
fills_end old new front (Ok true) is h = absurd cc
fills_end old new front (Ok false) is h = h.0
fills_end old new front (Err e) is h = absurd cc
