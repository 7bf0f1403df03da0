-- One who judges goes with one who builds: the judge's states are what the builder's come to under the authorizations.
use Rattle.std.proofs.Common.{◌≡◌, ◌≢◌, ℕ, ◌+◌, ◌<◌, ◌≤◌, ◌==◌, ◌||◌, nat_lt, Bool, true, false, List, [], ◌∷◌, ◌++◌, length, map, take, get_or, Option, Some, None, Result, Err, option_map, option_and_then, refl, sym, ap, ◌∙◌, append_assoc}
use Rattle.std.proofs.lemmas.Bool.{eqb-true}
use Rattle.std.proofs.lemmas.List.{length-map, take_more}
use Rattle.tab_label.specs.declared.joiner.Joiner.{Joiner}
use Rattle.tab_label.specs.declared.joiner.Joiner.TheVariants.{And, Or}
use Rattle.tab_label.specs.declared.levels.Level.{Level}
use Rattle.tab_label.specs.declared.levels.Level.TheVariants.{Empty, Joined}
use Rattle.tab_label.specs.Grammar.{Expr, TermOf, Label, Only_if, is_term_byte, escaped, escaped_byte, IsNoLabel, IsOffset}
use Rattle.tab_label.specs.Sets.{has}
use Rattle.tab_label.specs.Machine as machine
use Rattle.tab_label.specs.Holding.{expr_holds, all_hold, some_holds, holds, read_judged, judged}
use Rattle.tab_label.specs.Judging.{undone, unescaped, Phase, Awaiting, InPlain, InQuotes, Escaping, Behind, Judgement, start, closed, joined, at, await, up, after, behind_quotes, step_in, step, settled, outermost, ending, run}
use Rattle.tab_label.specs.JudgeViews.{or_length}
use Rattle.tab_label.proofs.Sound.{escaped_push, escaped_self, escaped_escape}
use Rattle.tab_label.proofs.Runs.{stops_at, stops_at_end, reads_at_end}
use Rattle.tab_label.proofs.LabelOf.{says_label_of, refuses_label_of}

-- ---- escapes
undone_byte : (b : ℕ) (bytes : List ℕ) (p q : Bool) → (b == 34) ≡ p → (b == 92) ≡ q → undone (escaped_byte b ++ bytes) false ≡ b ∷ undone bytes false
undone_byte b bytes true q h k = simp h
undone_byte b bytes false true h k = simp (h, k)
undone_byte b bytes false false h k = simp (h, k)

-- Escapes that are written can be undone.
pub unescaped-escaped : (bytes : List ℕ) → unescaped (escaped bytes) ≡ bytes
unescaped-escaped [] = refl
unescaped-escaped (b ∷ bytes) = undone_byte b (escaped bytes) _ _ refl refl ∙ ap (λ (bs : List ℕ). b ∷ bs) (unescaped-escaped bytes)

module _ (auths : List (List ℕ)) where
  -- what an open level comes to
  abbrev pub level_of : machine.Frame → Level
  level_of machine.Fresh = Empty
  level_of (machine.Joined And xs) = Joined And (all_hold xs auths)
  level_of (machine.Joined Or xs) = Joined Or (some_holds xs auths)

  -- what the phase in it comes to
  abbrev pub phase_of : machine.Phase → Phase
  phase_of machine.Awaiting = Awaiting
  phase_of (machine.InPlain bytes) = InPlain bytes
  phase_of (machine.InQuotes bytes) = InQuotes (escaped bytes)
  phase_of (machine.Escaping bytes) = Escaping (escaped bytes ++ 92 ∷ [])
  phase_of (machine.Behind e) = Behind (expr_holds e auths)

  -- what a state of the builder comes to
  abbrev pub shown : machine.State → Judgement
  shown s = record { below = map level_of s.below; level = level_of s.frame; phase = phase_of s.phase }

  abbrev pub shown_or_none : Option machine.State → Option Judgement
  shown_or_none = option_map shown

  shown_closed : (frame : machine.Frame) (e : Expr) → expr_holds (machine.closed frame e) auths ≡ closed (level_of frame) (expr_holds e auths)
  shown_closed machine.Fresh e = refl
  shown_closed (machine.Joined And xs) e = refl
  shown_closed (machine.Joined Or xs) e = refl

  shown_joined : (below : List machine.Frame) (j : Joiner) (frame : machine.Frame) (e : Expr)
      → shown_or_none (option_and_then (machine.await below) (machine.joined j frame e)) ≡ option_and_then (await (map level_of below)) (joined j (level_of frame) (expr_holds e auths))
  shown_joined below And machine.Fresh e = refl
  shown_joined below Or machine.Fresh e = refl
  shown_joined below And (machine.Joined And xs) e = refl
  shown_joined below Or (machine.Joined Or xs) e = refl
  shown_joined below And (machine.Joined Or xs) e = refl
  shown_joined below Or (machine.Joined And xs) e = refl

  shown_up : (below : List machine.Frame) (frame : machine.Frame) (e : Expr) → shown_or_none (machine.up below (machine.closed frame e)) ≡ up (map level_of below) (closed (level_of frame) (expr_holds e auths))
  shown_up [] frame e = refl
  shown_up (f ∷ below) frame e = ap (λ (v : Bool). at (map level_of below) (level_of f) (Behind v)) (shown_closed frame e)

  shown_after : (below : List machine.Frame) (frame : machine.Frame) (e : Expr) (b : ℕ) (p q r : Bool) → (b == 38) ≡ p → (b == 124) ≡ q → (b == 41) ≡ r
      → shown_or_none (machine.after below frame e b) ≡ after (map level_of below) (level_of frame) (expr_holds e auths) b
  shown_after below frame e b true q r is_and is_or is_close = rw is_and (shown_joined below And frame e)
  shown_after below frame e b false true r is_and is_or is_close = rw (is_and, is_or) (shown_joined below Or frame e)
  shown_after below frame e b false false true is_and is_or is_close = rw (is_and, is_or, is_close) (shown_up below frame e)
  shown_after below frame e b false false false is_and is_or is_close = rw (is_and, is_or, is_close) refl

  Steps : List machine.Frame → machine.Frame → machine.Phase → ℕ → Type 0
  Steps below frame p b = shown_or_none (machine.step_in below frame p b) ≡ step_in auths (map level_of below) (level_of frame) (phase_of p) b

  from_awaiting : (below : List machine.Frame) (frame : machine.Frame) (b : ℕ) (p q r t : Bool) → is_term_byte b ≡ p → (b == 34) ≡ q → (b == 40) ≡ r → nat_lt (length below) 64 ≡ t → Steps below frame machine.Awaiting b
  unfolding Steps
  from_awaiting below frame b true q r t is_term is_quote is_open is_room = rw is_term refl
  from_awaiting below frame b false true r t is_term is_quote is_open is_room = rw (is_term, is_quote) refl
  from_awaiting below frame b false false true true is_term is_quote is_open is_room = rw (is_term, is_quote, is_open, length-map below level_of, is_room) refl
  from_awaiting below frame b false false true false is_term is_quote is_open is_room = rw (is_term, is_quote, is_open, length-map below level_of, is_room) refl
  from_awaiting below frame b false false false t is_term is_quote is_open is_room = rw (is_term, is_quote, is_open) refl

  from_plain : (below : List machine.Frame) (frame : machine.Frame) (bytes : List ℕ) (b : ℕ) (p : Bool) → is_term_byte b ≡ p → Steps below frame (machine.InPlain bytes) b
  unfolding Steps
  from_plain below frame bytes b true is_term = rw is_term refl
  from_plain below frame bytes b false is_term = rw is_term (shown_after below frame (TermOf bytes) b _ _ _ refl refl refl)

  -- a term between quotes that has a byte
  behind_term : (raw bytes : List ℕ) → raw ≢ [] → unescaped raw ≡ bytes → behind_quotes auths raw ≡ Some (Behind (has auths bytes))
  behind_term [] bytes n is = absurd (n refl)
  behind_term (r ∷ raw) bytes n is = ap (λ (bs : List ℕ). Some (Behind (has auths bs))) is

  escaped-nonempty : (b : ℕ) (bytes : List ℕ) → escaped (b ∷ bytes) ≢ []
  escaped-nonempty b bytes h = let none : [] ≡ b ∷ bytes = ap unescaped (sym h) ∙ unescaped-escaped (b ∷ bytes) in cc

  at_quote : (below : List machine.Frame) (frame : machine.Frame) (bytes : List ℕ)
      → shown_or_none (option_and_then (machine.at below frame) (machine.nonempty_term bytes)) ≡ option_and_then (at (map level_of below) (level_of frame)) (behind_quotes auths (escaped bytes))
  at_quote below frame [] = refl
  at_quote below frame (b ∷ bytes) = sym (ap (λ (o : Option Phase). option_and_then (at (map level_of below) (level_of frame)) o) (behind_term (escaped (b ∷ bytes)) (b ∷ bytes) (escaped-nonempty b bytes) (unescaped-escaped (b ∷ bytes))))

  from_quotes : (below : List machine.Frame) (frame : machine.Frame) (bytes : List ℕ) (b : ℕ) (p q : Bool) → (b == 92) ≡ p → (b == 34) ≡ q → Steps below frame (machine.InQuotes bytes) b
  unfolding Steps
  from_quotes below frame bytes b true q is_back is_quote = rw is_back (ap (λ (x : ℕ). at (map level_of below) (level_of frame) (Escaping (escaped bytes ++ x ∷ []))) (sym (eqb-true b 92 is_back)))
  from_quotes below frame bytes b false true is_back is_quote = rw (is_back, is_quote) (at_quote below frame bytes)
  from_quotes below frame bytes b false false is_back is_quote =
      rw (is_back, is_quote) (ap (λ (bs : List ℕ). at (map level_of below) (level_of frame) (InQuotes bs)) (escaped_push bytes b ∙ ap (λ (bs : List ℕ). escaped bytes ++ bs) (escaped_self b is_back is_quote)))

  from_escape : (below : List machine.Frame) (frame : machine.Frame) (bytes : List ℕ) (b : ℕ) (p : Bool) → (b == 34 || b == 92) ≡ p → Steps below frame (machine.Escaping bytes) b
  unfolding Steps
  from_escape below frame bytes b true is_escape =
      rw is_escape (ap (λ (bs : List ℕ). at (map level_of below) (level_of frame) (InQuotes bs)) (escaped_push bytes b ∙ ap (λ (bs : List ℕ). escaped bytes ++ bs) (escaped_escape b is_escape) ∙ sym (append_assoc (escaped bytes) (92 ∷ []) (b ∷ []))))
  from_escape below frame bytes b false is_escape = rw is_escape refl

  from_each : (below : List machine.Frame) (frame : machine.Frame) (p : machine.Phase) (b : ℕ) → Steps below frame p b
  unfolding Steps
  from_each below frame machine.Awaiting b = from_awaiting below frame b _ _ _ _ refl refl refl refl
  from_each below frame (machine.InPlain bytes) b = from_plain below frame bytes b _ refl
  from_each below frame (machine.InQuotes bytes) b = from_quotes below frame bytes b _ _ refl refl
  from_each below frame (machine.Escaping bytes) b = from_escape below frame bytes b _ refl
  from_each below frame (machine.Behind e) b = shown_after below frame e b _ _ _ refl refl refl

  -- The judge steps as the builder does.
  pub step_shown : (s : machine.State) (b : ℕ) → shown_or_none (machine.step s b) ≡ step auths (shown s) b
  unfolding machine.step step Steps
  step_shown s b = from_each s.below s.frame s.phase b

  next_shown : (o : Option machine.State) (b : ℕ) → shown_or_none (option_and_then (λ s. machine.step s b) o) ≡ option_and_then (λ s. step auths s b) (shown_or_none o)
  next_shown None b = refl
  next_shown (Some s) b = step_shown s b

  -- So does a run.
  pub run_shown : (bytes : List ℕ) (o : Option machine.State) → shown_or_none (machine.run o bytes) ≡ run auths (shown_or_none o) bytes
  unfolding machine.run run
  run_shown [] o = refl
  run_shown (b ∷ bytes) o = run_shown bytes _ ∙ ap (λ (q : Option Judgement). run auths q bytes) (next_shown o b)

  settled_shown : (frame : machine.Frame) (p : machine.Phase)
      → option_map (λ m. holds m auths) (option_and_then (λ e. Some (Only_if (machine.closed frame e))) (machine.settled p)) ≡ option_map (closed (level_of frame)) (settled auths (phase_of p))
  settled_shown frame machine.Awaiting = refl
  settled_shown frame (machine.InPlain bytes) = ap (λ (v : Bool). Some v) (shown_closed frame (TermOf bytes))
  settled_shown frame (machine.InQuotes bytes) = refl
  settled_shown frame (machine.Escaping bytes) = refl
  settled_shown frame (machine.Behind e) = ap (λ (v : Bool). Some v) (shown_closed frame e)

  outermost_shown : (below : List machine.Frame) (frame : machine.Frame) (p : machine.Phase) → option_map (λ m. holds m auths) (machine.outermost below frame p) ≡ outermost auths (map level_of below) (level_of frame) (phase_of p)
  outermost_shown [] machine.Fresh machine.Awaiting = refl
  outermost_shown [] machine.Fresh (machine.InPlain bytes) = refl
  outermost_shown [] machine.Fresh (machine.InQuotes bytes) = refl
  outermost_shown [] machine.Fresh (machine.Escaping bytes) = refl
  outermost_shown [] machine.Fresh (machine.Behind e) = refl
  outermost_shown [] (machine.Joined And xs) p = settled_shown (machine.Joined And xs) p
  outermost_shown [] (machine.Joined Or xs) p = settled_shown (machine.Joined Or xs) p
  outermost_shown (f ∷ below) frame p = refl

  -- And so does an end.
  pub ending_shown : (s : machine.State) → option_map (λ m. holds m auths) (machine.ending s) ≡ ending auths (shown s)
  unfolding machine.ending ending
  ending_shown s = outermost_shown s.below s.frame s.phase

  -- the builder's state of which the judge's tells
  told : (o : Option machine.State) (j : Judgement) → shown_or_none o ≡ Some j → (s : machine.State) × (o ≡ Some s) × (shown s ≡ j)
  told None j h = absurd cc
  told (Some s) j h = (s, refl, cc)

  none_shown : {X Y : Type 0} (f : X → Y) (o : Option X) → option_map f o ≡ None → o ≡ None
  none_shown f None h = refl
  none_shown f (Some x) h = absurd cc

  module _ (text : List ℕ) (byte : (k : ℕ) → get_or text k 0 < 256) where
    refused : (n : ℕ) → IsNoLabel text × IsOffset text n → judged text auths ≡ Err n
    refused n (none, offset) = ap (λ (r : Result Label ℕ). read_judged r auths) (refuses_label_of text n byte none offset)

    -- Where the judge can't go on, the text is no label, and this is its offset.
    pub judge_stops : (i : ℕ) (j : Judgement) → i < length text → run auths (Some start) (take i text) ≡ Some j → step auths j (get_or text i 0) ≡ None → judged text auths ≡ Err i
    judge_stops i j lt h dead =
        let (s, is, tells) = told (machine.run (Some machine.start) (take i text)) j (run_shown (take i text) (Some machine.start) ∙ h) in
        let no_step : shown_or_none (machine.step s (get_or text i 0)) ≡ None = step_shown s (get_or text i 0) ∙ ap (λ (k : Judgement). step auths k (get_or text i 0)) tells ∙ dead in
        refused i (stops_at text i s byte lt is (none_shown shown (machine.step s (get_or text i 0)) no_step))

    at_end : (s : machine.State) (n : ℕ) → length text ≤ n → machine.run (Some machine.start) (take n text) ≡ Some s → (o : Option Label) → machine.ending s ≡ o → judged text auths ≡ or_length (option_map (λ m. holds m auths) o) (length text)
    at_end s n le is None e = refused (length text) (stops_at_end text n s byte le is e)
    at_end s n le is (Some m) e = ap (λ (r : Result Label ℕ). read_judged r auths) (says_label_of text m byte (reads_at_end text n s m byte le is e))

    -- Where the text ends, the judge knows its value, or that it is no label.
    pub judge_ends : (n : ℕ) (j : Judgement) → length text ≤ n → run auths (Some start) (take n text) ≡ Some j → judged text auths ≡ or_length (ending auths j) (length text)
    judge_ends n j le h =
        let (s, is, tells) = told (machine.run (Some machine.start) (take n text)) j (run_shown (take n text) (Some machine.start) ∙ h) in
        at_end s n le is (machine.ending s) refl ∙ ap (λ (o : Option Bool). or_length o (length text)) (ending_shown s ∙ ap (λ (k : Judgement). ending auths k) tells)

  -- one byte more
  run_append : (xs ys : List ℕ) (o : Option Judgement) → run auths o (xs ++ ys) ≡ run auths (run auths o xs) ys
  unfolding run
  run_append [] ys o = refl
  run_append (x ∷ xs) ys o = run_append xs ys _

  pub judge_goes_on : (text : List ℕ) (i : ℕ) (j : Judgement) → i < length text → run auths (Some start) (take i text) ≡ Some j → run auths (Some start) (take (i + 1) text) ≡ step auths j (get_or text i 0)
  unfolding run
  judge_goes_on text i j lt h = rw (take_more text i 0 lt) (run_append (take i text) (get_or text i 0 ∷ []) (Some start) ∙ ap (λ (o : Option Judgement). run auths o (get_or text i 0 ∷ [])) h)
