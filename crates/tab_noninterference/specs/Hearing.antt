-- To be believed. What a user is told in a history.
use Rattle.std.specs.Prelude.{ℕ, List, [], ◌∷◌, ◌++◌, Bool, true, false, cond}
use Rattle.tab_key.specs.Records.{Cell}
use Rattle.tab_history.specs.Bases.{Base}
use Rattle.tab_history.specs.Changes.{Change}
use Rattle.tab_history.specs.Answers.{Told, session_list}
use Rattle.tab_history.specs.Histories.{Entry, World, journal, is_by}
use Rattle.tab_history.specs.declared.event.Act.{Act}
use Rattle.tab_history.specs.Kinds.{kind_of, is_heard}
use Rattle.tab_history.specs.declared.event.Step.{Step}
use Rattle.tab_history.specs.declared.event.Step.TheVariants.{Event, Next, Many, Close, Merge}
use Rattle.tab_history.specs.declared.reply.Reply.TheVariants.{Opened}

-- a reply, with the whole answer of the session that it opens
pub record Heard : Type 0 where
  pub reply : Told
  pub list : List Cell

-- the covered events: scans, writes, and the question for one's own rights
abbrev pub is_covered_act : Act → Bool
is_covered_act act = is_heard (kind_of act)

-- the steps of that kind: these events, batches, and what is asked for in ranges
abbrev pub is_covered : Step → Bool
is_covered (Event e) = is_covered_act e.act
is_covered (Next user slot n) = true
is_covered (Many user slot ranges) = true
is_covered (Close user slot) = false
is_covered (Merge slot) = false

-- the whole answer of the session that a step opens, after these changes
abbrev pub list_opened : Base → List Change → Step → Told → List Cell
list_opened b j (Event e) (Opened session) = session_list b j e.act
list_opened b j step reply = []

-- what is heard of a step and its reply, if it is covered
abbrev pub heard_of : Base → List Change → Step → Told → List Heard
heard_of b j step reply = cond (is_covered step) (record { reply = reply; list = list_opened b j step reply } ∷ []) []

-- the covered replies to the user, the newest first
unfoldable pub heard : List ℕ → World → List Entry → List Heard
heard user w [] = []
heard user w (e ∷ es) = cond (is_by user e.step) (heard_of w.base (journal w es) e.step e.reply ++ heard user w es) (heard user w es)
