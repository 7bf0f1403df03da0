-- From worlds of which one refines the other the same histories are legal.
use Rattle.std.proofs.Common.{◌≡◌, ◌⊎◌, inl, inr, ℕ, List, [], ◌∷◌, ◌++◌, true, false, cond, ◌||◌, ◌&&◌, refl, sym, ◌∙◌, ap, subst, arith}
use Rattle.std.specs.Prelude.{ℤ, nat_le, int_le, int_lt, bytes_eq, Option, Some, None, is_some}
use Rattle.std.specs.Int.{int_max}
use Rattle.std.proofs.lemmas.Int.{ints}
use Rattle.tab_key.specs.declared.limited_part.LimitedPart.TheVariants.{Sessions}
use Rattle.tab_history.specs.declared.event.Act.{Act}
use Rattle.tab_history.specs.declared.event.Act.TheVariants.{Open, Write, CreateTable, CreateUser}
use Rattle.tab_history.specs.declared.event.Event.{Event as TheEvent}
use Rattle.tab_history.specs.declared.event.Step.{Step}
use Rattle.tab_history.specs.declared.event.Step.TheVariants.{Event, Next, Many, Close, Merge}
use Rattle.tab_history.specs.declared.reply.Refusal.TheVariants.{NoMemory, TooLarge, NoSession, NoJob}
use Rattle.tab_history.specs.declared.reply.Reply.TheVariants.{Done, Refused, Opened, Batch}
use Rattle.tab_history.specs.Answers.{Told, granted, told, are_used_up, numbered, event_answer, is_open, empty_slot, slotted, answer, IsReply, query_of, listed, session_list, changes_by, moves_by}
use Rattle.tab_cells.specs.Cells.{cells}
use Rattle.tab_history.specs.Changes.{changes_of}
use Rattle.tab_history.specs.Checks.{standing, user_named, exists_in, refusal_of}
use Rattle.tab_history.specs.Held.{floor_of, RefinesTable}
use Rattle.tab_history.specs.Histories.{Entry, World, clock_after, clock_of, clock_at, journal, world_after, user_of, is_by, moves_of, jobs_of}
use Rattle.tab_history.specs.Legal.{answer_at, IsAnswer, LacksMemory, Legal, LegalAlone}
use Rattle.tab_policy.specs.Roots.{root}
use Rattle.tab_history.specs.Readings.{settings_of, next_number, updates_of}
use Rattle.tab_history.specs.Sessions.{Move, Opening, is_full}
use Rattle.tab_history.specs.Jobs.{JobMove}
use Rattle.tab_history.specs.Settings.{Settings}
use Rattle.tab_history.specs.Refinement.{Refines, GoOnAlike}
use Rattle.tab_history.proofs.Fitting.{fits_legal}
use Rattle.tab_cells.proofs.Lists.{by_bool}
use Rattle.tab_history.proofs.Held.{cells_held}
use Rattle.tab_history.proofs.Refines.{FitAll, at_clock, add_all, later}

-- ---- the clock only rises
pub le_self : (x : ℤ) → int_le x x ≡ true
le_self x = grind (arith, ints)

not_under : (x y : ℤ) → int_lt x y ≡ false → int_le y x ≡ true
not_under x y e = grind (arith, ints)

pub max_left : (c m : ℤ) → int_le c (int_max c m) ≡ true
max_left c m = by_bool (int_lt m c) (λ e. rw e (le_self c)) (λ e. rw e (not_under m c e))

pub clock_grows : (step : Step) (r : Told) (c : ℤ) → int_le c (clock_after step r c) ≡ true
clock_grows (Event e) (Refused NoMemory) c = le_self c
clock_grows (Event e) (Refused (TooLarge Sessions)) c = le_self c
clock_grows (Event e) (Refused (NoSession slot)) c = le_self c
clock_grows (Event e) (Refused (NoJob slot)) c = le_self c
clock_grows (Event e) _ c = max_left c e.moment
clock_grows _ r c = le_self c

-- ---- one entry on both sides
abbrev pub went : ℤ → Step → Told → World → World
went c step r w = record { base = w.base; changes = changes_by (clock_at c step) step r ++ w.changes; clock = clock_after step r c }

went_event : (v w : World) (e : TheEvent) (r : Told) → Refines v w → FitAll w.base w.changes (int_max w.clock e.moment) (changes_by (int_max w.clock e.moment) (Event e) r) → Refines (went w.clock (Event e) r v) (went w.clock (Event e) r w)
went_event v w e (Refused x) h fit = later v w (clock_after (Event e) (Refused x) w.clock) (clock_grows (Event e) (Refused x) w.clock) h
went_event v w e _ h fit = add_all (at_clock (int_max w.clock e.moment) v) (at_clock (int_max w.clock e.moment) w) (changes_of (int_max w.clock e.moment) e.user e.act) fit (later v w (int_max w.clock e.moment) (max_left w.clock e.moment) h)

went_stands : (v w : World) (step : Step) (r : Told) → Refines v w → FitAll w.base w.changes (clock_at w.clock step) (changes_by (clock_at w.clock step) step r) → Refines (went w.clock step r v) (went w.clock step r w)
went_stands v w (Event e) r h fit = went_event v w e r h fit
went_stands v w _ r h fit = later v w w.clock (le_self w.clock) h

-- ---- what both answer
module _ (v w : World) (h : Refines v w) where
  pub standing_same : (user : List ℕ) → standing v.base v.changes user ≡ standing w.base w.changes user
  unfolding standing
  standing_same user = λ i. record {
    policy = record { known = h.reads.known user i; system = λ p. bytes_eq user root || h.reads.system user p i; table = λ p t. h.reads.rights user p t i; exists = λ t. is_some (h.reads.settings t i) };
    auths = h.reads.auths user i;
    settings = λ t. h.reads.settings t i;
  }

  exists_same : (o : Option (List ℕ)) → exists_in v.base v.changes o ≡ exists_in w.base w.changes o
  exists_same None = refl
  exists_same (Some n) = h.reads.known n

  used_up_same : (act : Act) → are_used_up v.base v.changes act ≡ are_used_up w.base w.changes act
  used_up_same (Write t m) = ap (nat_le 18446744073709551615) h.reads.next
  used_up_same (CreateTable t time n) = ap (nat_le 4294967295) h.reads.tables
  used_up_same (CreateUser n) = ap (nat_le 4294967295) h.reads.users
  used_up_same _ = refl

  event_same : (now : ℤ) (user : List ℕ) (act : Act) → event_answer v.base v.changes now user act ≡ event_answer w.base w.changes now user act
  event_same now user act = λ i. told (refusal_of (standing_same user i) (exists_same (user_named act) i) now user act) (numbered (used_up_same act i) (granted (standing_same user i) act))

  pub answer_same : (moves : List Move) (jobs : List JobMove) (now : ℤ) (step : Step) → answer v.base v.changes moves jobs now step ≡ answer w.base w.changes moves jobs now step
  unfolding answer
  answer_same moves jobs now (Event e) = λ i. cond (is_open e.act && is_full moves) (Refused (TooLarge Sessions)) (slotted (empty_slot jobs e.act) (event_same now e.user e.act i))
  answer_same moves jobs now _ = refl

  pub list_same : (act : Act) → session_list v.base v.changes act ≡ session_list w.base w.changes act
  unfolding session_list
  list_same (Open scan) = ap (listed (updates_of v.base v.changes scan.table) (query_of scan)) (h.reads.settings scan.table) ∙ go (settings_of w.base w.changes scan.table) (h.tables scan.table)
    where
      go : (o : Option Settings) → ((s : Settings) → o ≡ Some s → RefinesTable (updates_of v.base v.changes scan.table) (updates_of w.base w.changes scan.table) (next_number w.base w.changes) s.versions (floor_of s.time w.clock s.horizon))
          → listed (updates_of v.base v.changes scan.table) (query_of scan) o ≡ listed (updates_of w.base w.changes scan.table) (query_of scan) o
      go None f = refl
      go (Some s) f = let k = f s refl in cells_held (updates_of v.base v.changes scan.table) (updates_of w.base w.changes scan.table) s.versions (floor_of s.time w.clock s.horizon) k.refines k.updates_once k.held_once (query_of scan)
  list_same _ = refl

  pub moves_same : (step : Step) (r : Told) → moves_by v.base v.changes step r ≡ moves_by w.base w.changes step r
  moves_same (Event e) (Opened s) = λ i. cond (is_open e.act) (Opening (list_same e.act i) ∷ []) []
  moves_same (Event e) _ = refl
  moves_same (Next user slot n) (Batch cells) = refl
  moves_same (Next user slot n) _ = refl
  moves_same (Many user slot ranges) _ = refl
  moves_same (Close user slot) Done = refl
  moves_same (Close user slot) _ = refl
  moves_same (Merge slot) _ = refl

-- ---- an answer of the one is an answer of the other
record Agreeing (v w : World) (es own : List Entry) : Type 0 where
  clock : clock_of v es ≡ clock_of w es
  moves : (user : List ℕ) → moves_of v user own ≡ moves_of w user own
  answers : (moves : List Move) (jobs : List JobMove) (now : ℤ) (step : Step) → answer v.base (journal v es) moves jobs now step ≡ answer w.base (journal w es) moves jobs now step

agreeing_back : (v w : World) (es own : List Entry) → Agreeing v w es own → Agreeing w v es own
agreeing_back v w es own a = record { clock = sym a.clock; moves = λ u. sym (a.moves u); answers = λ ms jobs now step. sym (a.answers ms jobs now step) }

answer_too : (v w : World) (es own : List Entry) → Agreeing v w es own → (step : Step) (r : Told) → IsAnswer v es own step r → IsAnswer w es own step r
answer_too v w es own a step r h = subst (λ x. IsReply step x r) both h
  where
    both : answer_at v es own step ≡ answer_at w es own step
    both = (λ i. answer v.base (journal v es) (a.moves (user_of step) i) (jobs_of own) (clock_at (a.clock i) step) step) ∙ a.answers (moves_of w (user_of step) own) (jobs_of own) (clock_at (clock_of w es) step) step

either_too : (v w : World) (es own : List Entry) → Agreeing v w es own → (step : Step) (r : Told) → IsAnswer v es own step r ⊎ LacksMemory step r → IsAnswer w es own step r ⊎ LacksMemory step r
either_too v w es own a step r (inl h) = inl (answer_too v w es own a step r h)
either_too v w es own a step r (inr x) = inr x

agree_after : (v w : World) (es own : List Entry) → Refines (world_after v es) (world_after w es) → ((user : List ℕ) → moves_of v user own ≡ moves_of w user own) → Agreeing v w es own
agree_after v w es own h moves = record { clock = h.reads.clock; moves = moves; answers = answer_same (world_after v es) (world_after w es) h }

-- ---- going on
stands_on : (v w : World) (e : Entry) (es own : List Entry) → Refines (world_after v es) (world_after w es) → IsAnswer w es own e.step e.reply ⊎ LacksMemory e.step e.reply → Refines (world_after v (e ∷ es)) (world_after w (e ∷ es))
unfolding journal clock_of
stands_on v w e es own h a =
    subst (λ c. Refines (went c e.step e.reply (world_after v es)) (went (clock_of w es) e.step e.reply (world_after w es))) (sym h.reads.clock)
    (went_stands (world_after v es) (world_after w es) e.step e.reply h (fits_legal w es own e.step e.reply a))

on_begin : (v w : World) → Refines v w → GoOnAlike v w []
unfolding journal clock_of moves_of
on_begin v w h = record { refines = h; sessions = λ u. refl }

on_more : (v w : World) (e : Entry) (es : List Entry) → GoOnAlike v w es → IsAnswer w es es e.step e.reply ⊎ LacksMemory e.step e.reply → GoOnAlike v w (e ∷ es)
unfolding moves_of
on_more v w e es g a = record {
  refines = stands_on v w e es es g.refines a;
  sessions = λ u. λ i. cond (is_by u e.step) (moves_same (world_after v es) (world_after w es) g.refines e.step e.reply i ++ g.sessions u i) (g.sessions u i);
}

pub histories_down : (v w : World) → Refines v w → (es : List Entry) → Legal v es → Legal w es × GoOnAlike v w es
histories_down v w h [] l = (tt, on_begin v w h)
histories_down v w h (e ∷ es) l =
    let r = histories_down v w h es l.0 in
    let a = either_too v w es es (agree_after v w es es r.1.refines r.1.sessions) e.step e.reply l.1 in
    ((r.0, a), on_more v w e es r.1 a)

pub histories_up : (v w : World) → Refines v w → (es : List Entry) → Legal w es → Legal v es × GoOnAlike v w es
histories_up v w h [] l = (tt, on_begin v w h)
histories_up v w h (e ∷ es) l =
    let r = histories_up v w h es l.0 in
    let a = either_too w v es es (agreeing_back v w es es (agree_after v w es es r.1.refines r.1.sessions)) e.step e.reply l.1 in
    ((r.0, a), on_more v w e es r.1 l.1)

pub events_down : (v w : World) → Refines v w → (es : List Entry) → LegalAlone v es → LegalAlone w es × Refines (world_after v es) (world_after w es)
events_down v w h [] l = (tt, (on_begin v w h).refines)
events_down v w h (e ∷ es) l =
    let r = events_down v w h es l.0 in
    let a = either_too v w es [] (agree_after v w es [] r.1 (on_begin v w h).sessions) e.step e.reply l.1 in
    ((r.0, a), stands_on v w e es [] r.1 a)

pub events_up : (v w : World) → Refines v w → (es : List Entry) → LegalAlone w es → LegalAlone v es × Refines (world_after v es) (world_after w es)
events_up v w h [] l = (tt, (on_begin v w h).refines)
events_up v w h (e ∷ es) l =
    let r = events_up v w h es l.0 in
    let a = either_too w v es [] (agreeing_back v w es [] (agree_after v w es [] r.1 (on_begin v w h).sessions)) e.step e.reply l.1 in
    ((r.0, a), stands_on v w e es [] r.1 l.1)
