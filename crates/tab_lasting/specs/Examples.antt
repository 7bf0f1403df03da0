-- Worked examples, computed: what is kept of small histories.
use Rattle.std.specs.Prelude.{ℕ, pos, ◌≡◌, List, [], ◌∷◌, codes, refl}
use Rattle.tab_history.specs.Answers.{Told}
use Rattle.tab_history.specs.Bases.{new_core}
use Rattle.tab_history.specs.Histories.{Entry, world_of, clock_of}
use Rattle.tab_history.specs.declared.event.Act.{Act}
use Rattle.tab_history.specs.declared.event.Act.TheVariants.{AddSplit, CreateTable, DropTable, Flush, Status}
use Rattle.tab_history.specs.declared.event.Step.TheVariants.{Event, Close}
use Rattle.tab_history.specs.declared.event.TimeMode.TheVariants.{Any}
use Rattle.tab_history.specs.declared.reply.Refusal.TheVariants.{NoTable}
use Rattle.tab_history.specs.declared.reply.Reply.TheVariants.{Done, Refused}
use Rattle.tab_lasting.specs.Lasting.{lasting}

-- root's event, and what it was told
abbrev asked : ℕ → Act → Told → Entry
asked moment act reply = record { step = Event (record { user = codes "root"; moment = pos moment; act = act }); reply = reply }

abbrev made : ℕ → Entry
made moment = asked moment (CreateTable (codes "t") Any 1) Done

abbrev dropped : ℕ → Entry
dropped moment = asked moment (DropTable (codes "t")) Done

-- what is kept of entries of a new core, the newest first
abbrev kept : List Entry → List Entry
kept es = lasting (world_of new_core) es

-- all of it where each leaves something, a split among them
all_kept : kept (asked 9 (AddSplit (codes "t") (codes "m")) Done ∷ made 7 ∷ []) ≡ asked 9 (AddSplit (codes "t") (codes "m")) Done ∷ made 7 ∷ []
unfolding lasting clock_of
all_kept = refl

-- nothing of a refusal, but the clock that it left goes with the next one
clock_kept : kept (dropped 50 ∷ asked 100 (DropTable (codes "u")) (Refused (NoTable (codes "u"))) ∷ made 7 ∷ []) ≡ dropped 100 ∷ made 7 ∷ []
unfolding lasting clock_of
clock_kept = refl

-- nothing of what only asks or lays records otherwise, and nothing of what is no event
asking_left_out : kept (record { step = Close (codes "root") 0; reply = Done } ∷ asked 8 (Flush (codes "t")) Done ∷ asked 8 (Status (codes "t")) Done ∷ made 7 ∷ []) ≡ made 7 ∷ []
unfolding lasting clock_of
asking_left_out = refl
