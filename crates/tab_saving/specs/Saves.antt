-- To be believed by whoever relies on it. What writing parts of an image does, where memory may lack.
use Rattle.std.specs.Prelude.{ℕ, ◌≡◌, ◌<◌, ◌^◌, List, length, Result, Ok, Err, true}
use Rattle.tab_io.specs.Streams.{GathersPart}
use Rattle.tab_io.specs.Writing.{HasPut, HasPutPart}
use Rattle.tab_io.specs.declared.writing.Output.{Ghosts}
use Rattle.tab_policy.specs.Holders.{AreUsers}
use Rattle.tab_policy.specs.Roots.{root}
use Rattle.tab_policy.specs.State.{State, system_granted}
use Rattle.tab_policy.specs.declared.permission.SystemPermission.{SystemPermission}
use Rattle.tab_store.specs.ByRow.{LieApart}
use Rattle.tab_store.specs.Tablets.{Tablet}
use Rattle.tab_saving.specs.declared.fault.SaveFault.{SaveFault}
use Rattle.tab_saving.specs.declared.fault.SaveFault.TheVariants as fault

-- a beginning of the text was put, and no write failed
pub record HasBegun {W : Type 0} (g : Ghosts W) (old new : W) (text : List ℕ) : Type 0 where
  pub bytes : GathersPart (g.contents old) (g.held old) (g.contents new) (g.held new) text
  pub faults : g.faults new ≡ g.faults old

-- the text was put; or a beginning of it, and a write failed or memory lacked
abbrev pub Saves : {W : Type 0} → Ghosts W → W → W → List ℕ → Result (Unit {0}) SaveFault → Type 0
Saves g old new text (Ok u) = HasPut g old new text
Saves g old new text (Err fault.Write) = HasPutPart g old new text
Saves g old new text (Err fault.NoMemory) = HasBegun g old new text

-- root was granted all system permissions
abbrev pub RootHasAll : State → Type 0
RootHasAll s = (p : SystemPermission) → system_granted s root p ≡ true

-- so for every list of the users that there are
abbrev pub ForUsers : State → (List (List ℕ) → Type 0) → Type 0
ForUsers s P = (names : List (List ℕ)) → AreUsers s names → P names

-- tablets that are listed in the order of their records, and of which there are fewer than 2^64
pub record AreListed (ts : List Tablet) : Type 0 where
  pub apart : LieApart ts
  pub few : length ts < 2 ^ 64
