-- To be believed. Histories: lists of entries, the newest first, and what there is after them.
use Rattle.std.specs.Prelude.{ℕ, ℤ, List, [], ◌∷◌, ◌++◌, Bool, cond, bytes_eq, map, reverse}
use Rattle.std.specs.Int.{int_max}
use Rattle.tab_history.specs.Bases.{Base}
use Rattle.tab_history.specs.Changes.{Change}
use Rattle.tab_history.specs.Sessions.{Move}
use Rattle.tab_history.specs.Jobs.{JobMove}
use Rattle.tab_history.specs.Answers.{Told, changes_by, moves_by, job_moves_by}
use Rattle.tab_key.specs.declared.limited_part.LimitedPart.TheVariants.{Sessions}
use Rattle.tab_history.specs.declared.event.Step.{Step}
use Rattle.tab_history.specs.declared.event.Step.TheVariants.{Event, Next, Many, Close, Merge}
use Rattle.tab_history.specs.declared.reply.Refusal.TheVariants.{NoMemory, TooLarge, NoSession, NoJob}
use Rattle.tab_history.specs.declared.reply.Reply.TheVariants.{Refused}

-- a step and what was answered
pub record Entry : Type 0 where
  pub step : Step
  pub reply : Told

-- what a history goes on from: a base, the changes made since, the newest first, and the clock
pub record World : Type 0 where
  pub base : Base
  pub changes : List Change
  pub clock : ℤ

-- a base, before any change
abbrev pub world_of : Base → World
world_of b = record { base = b; changes = []; clock = b.clock }

-- ---- the clock
-- An event moves the clock up to its moment, also where it is refused. What was refused for memory, by the list of sessions or by that of jobs
-- was no event.
abbrev pub clock_after : Step → Told → ℤ → ℤ
clock_after (Event e) (Refused NoMemory) clock = clock
clock_after (Event e) (Refused (TooLarge Sessions)) clock = clock
clock_after (Event e) (Refused (NoSession slot)) clock = clock
clock_after (Event e) (Refused (NoJob slot)) clock = clock
clock_after (Event e) reply clock = int_max clock e.moment
clock_after step reply clock = clock

-- the greatest moment so far
unfoldable pub clock_of : World → List Entry → ℤ
clock_of w [] = w.clock
clock_of w (e ∷ es) = clock_after e.step e.reply (clock_of w es)

-- the clock that an event meets, its own moment in it
abbrev pub clock_at : ℤ → Step → ℤ
clock_at clock (Event e) = int_max clock e.moment
clock_at clock _ = clock

-- ---- changes
-- the changes so far
unfoldable pub journal : World → List Entry → List Change
journal w [] = w.changes
journal w (e ∷ es) = changes_by (clock_at (clock_of w es) e.step) e.step e.reply ++ journal w es

-- what the entries leave
abbrev pub world_after : World → List Entry → World
world_after w es = record { base = w.base; changes = journal w es; clock = clock_of w es }

-- ---- sessions
-- Whose step it is. The merge of a job is nobody's: no name is empty.
abbrev pub user_of : Step → List ℕ
user_of (Event e) = e.user
user_of (Next user slot n) = user
user_of (Many user slot ranges) = user
user_of (Close user slot) = user
user_of (Merge slot) = []

-- whether the step is the user's
abbrev pub is_by : List ℕ → Step → Bool
is_by user step = bytes_eq (user_of step) user

-- what one user did with sessions in these entries
unfoldable pub moves_of : World → List ℕ → List Entry → List Move
moves_of w user [] = []
moves_of w user (e ∷ es) = cond (is_by user e.step) (moves_by w.base (journal w es) e.step e.reply ++ moves_of w user es) (moves_of w user es)

-- ---- jobs
-- what was done with jobs in these entries, by whomever
unfoldable pub jobs_of : List Entry → List JobMove
jobs_of [] = []
jobs_of (e ∷ es) = job_moves_by e.step e.reply ++ jobs_of es

-- ---- lists of steps
-- the steps of the entries, the first one first
abbrev pub steps_of : List Entry → List Step
steps_of es = reverse (map (λ e. e.step) es)
