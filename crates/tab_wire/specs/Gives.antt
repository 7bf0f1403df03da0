-- For proofs. What is left of a frame, and what reading a whole one gives.
use Rattle.std.specs.Prelude.{◌≡◌, Result, Ok, Err}
pub use Rattle.tab_codec.specs.Gives.{bytes_left}
use Rattle.tab_wire.specs.declared.request.Request.{Request}
use Rattle.tab_wire.specs.declared.reason.Reason.{Reason}
use Rattle.tab_wire.specs.declared.read.Stop.{Stop}
use Rattle.tab_wire.specs.declared.read.Stop.TheVariants as stop

-- a reason is the one that is asked; want of memory says nothing
abbrev pub SaysWhy : Stop → Result Request Reason → Type 0
SaysWhy stop.NoMemory asked = Unit {0}
SaysWhy (stop.Bad reason) asked = asked ≡ Err reason

-- what the code returned is what is asked, unless memory ran out
abbrev pub Asks : Result Request Stop → Result Request Reason → Type 0
Asks (Ok request) asked = asked ≡ Ok request
Asks (Err why) asked = SaysWhy why asked
