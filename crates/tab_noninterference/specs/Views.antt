-- To be believed. All that a user can see of a history.
use Rattle.std.specs.Prelude.{ℕ, ℤ, List, [], ◌∷◌, ◌++◌, Bool, true, false, cond, ◌&&◌, Option, Some, None, map}
use Rattle.tab_history.specs.Bases.{Base}
use Rattle.tab_history.specs.Changes.{Change}
use Rattle.tab_history.specs.Sessions.{Move, is_full}
use Rattle.tab_history.specs.Answers.{Told, changes_by, is_open}
use Rattle.tab_history.specs.Histories.{Entry, World, world_of, clock_of, clock_at, journal, moves_of, is_by}
use Rattle.tab_history.specs.declared.event.Act.{Act}
use Rattle.tab_history.specs.Kinds.{kind_of, is_unread}
use Rattle.tab_history.specs.declared.event.Step.{Step}
use Rattle.tab_history.specs.declared.event.Step.TheVariants.{Event, Merge}
use Rattle.tab_noninterference.specs.Given.{auths_given}
use Rattle.tab_noninterference.specs.Concerns.{visible}

-- what a user sees happen
pub data Sight : Type 0 where
  -- he takes this step; and if it is an event, this is the clock after it
  Asked : Step → Option ℤ → Sight
  -- an event of somebody else makes this change
  Changed : Change → Sight

-- the clock after an event of his; an Open past the limit of sessions is none
abbrev pub clock_shown : List Move → ℤ → Step → Option ℤ
clock_shown moves now (Event e) = cond (is_open e.act && is_full moves) None (Some now)
clock_shown moves now step = None

-- whether the event only asks where records lie or whether an image may be saved or loaded, or lays records otherwise: it changes nothing that a
-- history reads but the clock
abbrev pub is_inner : Act → Bool
is_inner act = is_unread (kind_of act)

-- the steps of that kind; the merge of a job is one
abbrev pub is_aside : Step → Bool
is_aside (Event e) = is_inner e.act
is_aside (Merge slot) = true
is_aside step = false

-- what he sees of a step of his own: the step, without its reply, and nothing of one that is aside
abbrev pub own_sight : List Move → ℤ → Step → List Sight
own_sight moves now step = cond (is_aside step) [] (Asked step (clock_shown moves now step) ∷ [])

-- what he sees of a step of somebody else: not who took it and when, but what it changes that concerns him
abbrev pub other_sight : List (List ℕ) → List ℕ → ℤ → Step → Told → List Sight
other_sight held user now step reply = map Changed (visible held user (changes_by now step reply))

-- what he sees of one entry, before which the clock was this and his sessions went through these moves
abbrev pub sight : List (List ℕ) → List ℕ → List Move → ℤ → Entry → List Sight
sight held user moves clock e = cond (is_by user e.step) (own_sight moves (clock_at clock e.step) e.step) (other_sight held user (clock_at clock e.step) e.step e.reply)

-- what he sees of the entries, the newest first, if he ever holds these authorizations
unfoldable pub sights : List (List ℕ) → List ℕ → World → List Entry → List Sight
sights held user w [] = []
sights held user w (e ∷ es) = sight held user (moves_of w user es) (clock_of w es) e ++ sights held user w es

-- all that a user can see of a history: the authorizations that he ever holds, and what he sees happen
pub record View : Type 0 where
  pub held : List (List ℕ)
  pub sights : List Sight

-- what the user sees of a history that begins with this base
abbrev pub view : Base → List ℕ → List Entry → View
view b user es =
    let held = auths_given b user (journal (world_of b) es) in
    record { held = held; sights = sights held user (world_of b) es }
