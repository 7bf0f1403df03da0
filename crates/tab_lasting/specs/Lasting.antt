-- To be believed by whoever relies on it. What of a history is to outlive a crash: the events that were done and left something, each at the clock that it met.
use Rattle.std.specs.Prelude.{◌≡◌, ℤ, List, [], ◌∷◌, ◌++◌, Bool, true, false, cond, int_le}
use Rattle.tab_history.specs.Answers.{Told}
use Rattle.tab_history.specs.Histories.{Entry, World, clock_of, clock_at, journal}
use Rattle.tab_history.specs.Legal.{LegalAlone}
use Rattle.tab_history.specs.declared.event.Act.{Act}
use Rattle.tab_history.specs.declared.event.Act.TheVariants.{Open, Write, CreateTable, DropTable, SetConstraints, SetVersions, SetHorizon, CreateUser, DropUser, SetAuths, Grant, Revoke, Rights, Status, Flush, Compact, AddSplit, SplitBySize, Splits, Save, Rotate, Load, Begin, Install}
use Rattle.tab_history.specs.declared.event.Step.{Step}
use Rattle.tab_history.specs.declared.event.Step.TheVariants.{Event}
use Rattle.tab_history.specs.declared.reply.Reply.TheVariants.{Refused}

-- whether an act that was done leaves something that outlives a crash: what histories read, or an end row that was asked for
abbrev pub leaves_trace : Act → Bool
leaves_trace (Write t m) = true
leaves_trace (CreateTable t time n) = true
leaves_trace (DropTable t) = true
leaves_trace (SetConstraints t cs) = true
leaves_trace (SetVersions t many) = true
leaves_trace (SetHorizon t low) = true
leaves_trace (CreateUser n) = true
leaves_trace (DropUser n) = true
leaves_trace (SetAuths n auths) = true
leaves_trace (Grant n p) = true
leaves_trace (Revoke n p) = true
leaves_trace (AddSplit t row) = true
leaves_trace (Open scan) = false
leaves_trace (Rights t) = false
leaves_trace (Status t) = false
leaves_trace (Flush t) = false
leaves_trace (Compact t extent) = false
leaves_trace (SplitBySize t row limit) = false
leaves_trace (Splits t) = false
leaves_trace Save = false
leaves_trace Load = false
leaves_trace Rotate = false
leaves_trace (Begin t row kind) = false
leaves_trace (Install t given) = false

-- an entry that was done where the clock was then this, its moment that clock; nothing of a refused one, or of one that leaves nothing
abbrev pub lasting_of : ℤ → Step → Told → List Entry
lasting_of now (Event e) (Refused r) = []
lasting_of now (Event e) reply = cond (leaves_trace e.act) (record { step = Event (record e { moment = now }); reply = reply } ∷ []) []
lasting_of now step reply = []

-- those of a history
unfoldable pub lasting : World → List Entry → List Entry
lasting w [] = []
lasting w (e ∷ es) = lasting_of (clock_at (clock_of w es) e.step) e.step e.reply ++ lasting w es

-- ---- The law: they make all changes that the history makes, by themselves legally, and leave no later a clock.
pub record Lasts (w : World) (es : List Entry) : Type 0 where
  pub changes : journal w (lasting w es) ≡ journal w es
  pub clock : int_le (clock_of w (lasting w es)) (clock_of w es) ≡ true
  pub legal : LegalAlone w es → LegalAlone w (lasting w es)

abbrev pub LastingIsAll : Type 0
LastingIsAll = (w : World) (es : List Entry) → Lasts w es
