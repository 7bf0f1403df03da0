-- To be believed by whoever relies on it. Two runs compared by what one user is told in them.
use Rattle.std.specs.Prelude.{◌≡◌, ℕ, List, [], ◌∷◌, Bool, cond, filter, map, reverse}
use Rattle.tab_history.specs.Bases.{new_core}
use Rattle.tab_history.specs.Answers.{Told}
use Rattle.tab_history.specs.Histories.{Entry, world_of, is_by, steps_of}
use Rattle.tab_history.specs.Legal.{Legal, IsAmple}
use Rattle.tab_history.specs.declared.event.Step.{Step}
use Rattle.tab_store.specs.Chains.{IsExactRun}
use Rattle.tab_noninterference.specs.Views.{view}
use Rattle.tab_noninterference.specs.Hearing.{is_covered, heard}

-- ---- one run
-- all replies to the user's steps in a history, the first one first
abbrev pub replies_to : List ℕ → List Entry → List Told
replies_to user h = reverse (map (λ e. e.reply) (filter (λ e. is_by user e.step) h))

-- The history is a run of these steps: from a new core each of them once, in order, legally answered and exactly done. What was told are all replies to the user in it.
pub record IsToldIn (h : List Entry) (user : List ℕ) (steps : List Step) (told : List Told) : Type 0 where
  pub steps_are : steps_of h ≡ steps
  pub legal : Legal (world_of new_core) h
  pub exact : IsExactRun h
  pub replies : replies_to user h ≡ told

-- in some run of these steps this is what the user was told
abbrev pub IsTold : List ℕ → List Step → List Told → Type 0
IsTold user steps told = (h : List Entry) × IsToldIn h user steps told

-- ---- two runs
-- the user sees the same of both histories, and nothing ran out in either
pub record LookAlike (user : List ℕ) (h k : List Entry) : Type 0 where
  pub views : view new_core user h ≡ view new_core user k
  pub first_ample : IsAmple h
  pub second_ample : IsAmple k

-- of replies, one to each of the steps in order, those to the steps that pass the test
abbrev pub those_of : (Step → Bool) → List Step → List Told → List Told
those_of test [] replies = []
those_of test (step ∷ steps) [] = []
those_of test (step ∷ steps) (reply ∷ replies) = cond (test step) (reply ∷ those_of test steps replies) (those_of test steps replies)

-- of what the user was told in a run of these steps, the replies to his scans, batches, writes and questions for his rights
abbrev pub covered_replies : List ℕ → List Step → List Told → List Told
covered_replies user steps told = those_of is_covered (filter (is_by user) steps) told

-- He hears the same in both histories, each scan with its whole list; and the covered ones of the replies that are given are equal.
pub record TellAlike (h k : List Entry) (user : List ℕ) (first second : List Step) (told_first told_second : List Told) : Type 0 where
  pub heard_same : heard user (world_of new_core) h ≡ heard user (world_of new_core) k
  pub covered_same : covered_replies user first told_first ≡ covered_replies user second told_second

-- There is a run of each list of steps in which this is what the user was told; and where the two runs look alike to him, they tell him the same.
abbrev pub Compares : List ℕ → List Step → List Step → List Told → List Told → Type 0
Compares user first second told_first told_second = (h k : List Entry)
    × IsToldIn h user first told_first
    × IsToldIn k user second told_second
    × (LookAlike user h k → TellAlike h k user first second told_first told_second)
