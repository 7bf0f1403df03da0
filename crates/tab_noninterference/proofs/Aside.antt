-- A step of a user's own that only asks where records lie or whether an image may be saved or loaded, or lays records otherwise: it changes
-- nothing, and nothing is heard of it.
use Rattle.std.proofs.Common.{◌≡◌, ℕ, ℤ, List, [], true, false, refl, sym}
use mathlib.Core.Bool.{true≢false}
use Rattle.tab_history.specs.Bases.{Base}
use Rattle.tab_history.specs.Changes.{Change, changes_of}
use Rattle.tab_history.specs.Answers.{Told, leaves_open, is_open, changes_by, moves_by}
use Rattle.tab_history.specs.Runs.{is_left_open}
use Rattle.tab_history.specs.declared.event.Act.{Act}
use Rattle.tab_history.specs.declared.event.Act.TheVariants.{Status, Flush, Compact, AddSplit, SplitBySize, Splits, Save, Rotate, Load, Begin, Install}
use Rattle.tab_history.specs.declared.event.Step.{Step}
use Rattle.tab_history.specs.declared.event.Step.TheVariants.{Event, Next, Many, Close, Merge}
use Rattle.tab_noninterference.specs.Views.{is_inner, is_aside}
use Rattle.tab_noninterference.specs.Hearing.{is_covered_act, heard_of}
use Rattle.tab_noninterference.proofs.Effects.{no_changes, no_moves}

-- it changes nothing, opens no session, and its reply isn't covered
record DoesNothing (act : Act) : Type 0 where
  changes : (now : ℤ) (user : List ℕ) → changes_of now user act ≡ []
  opens : is_open act ≡ false
  uncovered : is_covered_act act ≡ false

inner_does_nothing : (act : Act) → is_inner act ≡ true → DoesNothing act
inner_does_nothing (Status t) e = record { changes = λ now user. refl; opens = refl; uncovered = refl }
inner_does_nothing (Flush t) e = record { changes = λ now user. refl; opens = refl; uncovered = refl }
inner_does_nothing (Compact t extent) e = record { changes = λ now user. refl; opens = refl; uncovered = refl }
inner_does_nothing (AddSplit t row) e = record { changes = λ now user. refl; opens = refl; uncovered = refl }
inner_does_nothing (SplitBySize t row limit) e = record { changes = λ now user. refl; opens = refl; uncovered = refl }
inner_does_nothing (Splits t) e = record { changes = λ now user. refl; opens = refl; uncovered = refl }
inner_does_nothing Save e = record { changes = λ now user. refl; opens = refl; uncovered = refl }
inner_does_nothing Rotate e = record { changes = λ now user. refl; opens = refl; uncovered = refl }
inner_does_nothing Load e = record { changes = λ now user. refl; opens = refl; uncovered = refl }
inner_does_nothing (Begin t row kind) e = record { changes = λ now user. refl; opens = refl; uncovered = refl }
inner_does_nothing (Install t given) e = record { changes = λ now user. refl; opens = refl; uncovered = refl }
inner_does_nothing act e = absurd (true≢false (sym e))

pub aside_changes : (now : ℤ) (step : Step) (r : Told) → is_aside step ≡ true → changes_by now step r ≡ []
aside_changes now (Event e) r a = no_changes now e.user e.moment e.act r ((inner_does_nothing e.act a).changes now e.user)
aside_changes now (Merge slot) r a = refl
aside_changes now step r a = absurd (true≢false (sym a))

pub aside_moves : (b : Base) (j : List Change) (step : Step) (r : Told) → is_aside step ≡ true → moves_by b j step r ≡ []
aside_moves b j (Event e) r a = no_moves b j e.user e.moment e.act r (inner_does_nothing e.act a).opens
aside_moves b j (Merge slot) r a = refl
aside_moves b j step r a = absurd (true≢false (sym a))

pub aside_heard : (b : Base) (j : List Change) (step : Step) (r : Told) → is_aside step ≡ true → heard_of b j step r ≡ []
aside_heard b j (Event e) r a = rw (inner_does_nothing e.act a).uncovered refl
aside_heard b j (Next u slot n) r a = absurd (true≢false (sym a))
aside_heard b j (Many u slot ranges) r a = absurd (true≢false (sym a))
aside_heard b j (Close u slot) r a = refl
aside_heard b j (Merge slot) r a = refl

-- what is told of the other steps isn't left open
outer_closed : (act : Act) → is_inner act ≡ false → leaves_open act ≡ false
outer_closed (Status t) e = absurd (true≢false e)
outer_closed (AddSplit t row) e = absurd (true≢false e)
outer_closed (SplitBySize t row limit) e = absurd (true≢false e)
outer_closed (Splits t) e = absurd (true≢false e)
outer_closed (Begin t row kind) e = absurd (true≢false e)
outer_closed (Install t given) e = absurd (true≢false e)
outer_closed act e = refl

pub outside_closed : (step : Step) → is_aside step ≡ false → is_left_open step ≡ false
outside_closed (Event e) a = outer_closed e.act a
outside_closed step a = refl
