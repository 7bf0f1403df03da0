-- To be believed. The jobs of one run or script, which all its users share: compactions that were begun.
use Rattle.std.specs.Prelude.{ℕ, List, [], ◌∷◌, ◌+◌, Bool, true, false, ◌==◌, cond}

-- what was done with the jobs, the newest first
pub data JobMove : Type 0 where
  -- a job was begun
  Beginning : JobMove
  -- the merge of the job in the slot was made
  Merging : ℕ → JobMove
  -- an Install named the slot
  Installing : ℕ → JobMove

-- what a slot holds
pub data JobSlot : Type 0 where
  -- nothing: no job was begun in it yet, or its merge is used up
  Free : JobSlot
  -- a job whose merge is to be made
  Waiting : JobSlot
  -- a finished merge
  Merged : JobSlot

-- how many jobs were begun
unfoldable pub begun : List JobMove → ℕ
begun [] = 0
begun (Beginning ∷ moves) = begun moves + 1
begun (Merging slot ∷ moves) = begun moves
begun (Installing slot ∷ moves) = begun moves

-- what an Install leaves in the slot that it named: it uses a finished merge up, and a job whose merge is to be made waits on
abbrev pub used_up : JobSlot → JobSlot
used_up Free = Free
used_up Waiting = Waiting
used_up Merged = Free

-- what a slot holds; the k-th job begun, counted from 0, has the slot k
unfoldable pub job_in : List JobMove → ℕ → JobSlot
job_in [] slot = Free
job_in (Beginning ∷ moves) slot = cond (begun moves == slot) Waiting (job_in moves slot)
job_in (Merging k ∷ moves) slot = cond (k == slot) Merged (job_in moves slot)
job_in (Installing k ∷ moves) slot = cond (k == slot) (used_up (job_in moves slot)) (job_in moves slot)

-- whether its merge can be made
abbrev pub is_waiting : JobSlot → Bool
is_waiting Free = false
is_waiting Waiting = true
is_waiting Merged = false

-- whether it can be installed
abbrev pub is_merged : JobSlot → Bool
is_merged Free = false
is_merged Waiting = false
is_merged Merged = true
