-- To be believed by whoever relies on it. Whole connections over a core: what becomes of the core, of the moments, and of what is read and written.
use Rattle.std.specs.Prelude.{ℕ, ℤ, ◌≡◌, List, [], ◌∷◌, ◌++◌, IfSome, Result, Ok, Err}
use Rattle.tab_io.specs.declared.reading.Input.{Ghosts as InputGhosts}
use Rattle.tab_io.specs.declared.writing.Output.{Ghosts as OutputGhosts}
use Rattle.tab_history.specs.Histories.{Entry, World, world_of, world_after}
use Rattle.tab_history.specs.Legal.{Legal}
use Rattle.tab_history.specs.Refinement.{Refines}
use Rattle.tab_history.specs.Chains.{IsChain}
use Rattle.tab_core.specs.Stores.{CoreContents, base_of}
use Rattle.tab_core.specs.Chains.{ServedGoes}
use Rattle.tab_wire.specs.Stream.{Piece, pieces_of, AtFront}
use Rattle.tab_wire.specs.Talking.{Talk, new_talk, Exchange, Talks, entries_of, moments_of, replied}
use Rattle.tab_wire.specs.TalkLaws.{KnowsSessions}
use Rattle.tab_serve.specs.declared.fault.ServeFault.{ServeFault}
use Rattle.tab_serve.specs.declared.fault.ServeFault.TheVariants.{Read, Write}
use Rattle.tab_serve.specs.Progress.{IsLeftButPart, IsWritten, IsWrittenPart}

-- ---- moments
-- a source gave these moments, one after another
abbrev pub Gave : {M : Type 0} → (M → ℤ → M → Type 0) → M → List ℤ → M → Type 0
Gave gives old [] new = new ≡ old
Gave {M} gives old (moment ∷ moments) new = (mid : M) × gives old moment mid × Gave gives mid moments new

-- ---- what some pieces of a stream came to
-- From this world on the entries are a legal history. The core left refines what they leave, and the sessions of the connection are those of its user.
pub record IsHistoryFrom (w : World) (es : List Entry) (new : CoreContents) (last : Talk) : Type 0 where
  pub legal : Legal w es
  pub refines : Refines (world_of (base_of new)) (world_after w es)
  pub sessions : KnowsSessions w es last

-- These pieces were answered, and their replies are this text.
pub record ServesPieces {M : Type 0} (gives : M → ℤ → M → Type 0) (old : CoreContents) (m : M) (pieces : List Piece) (text : List ℕ) (new : CoreContents) (m' : M) : Type 0 where
  -- what each of them asked, which step that was, and what was told; a connection begins without a user and without sessions
  pub exchanges : List Exchange
  pub last : Talk
  pub talks : Talks new_talk pieces exchanges last
  pub replies : text ≡ replied exchanges
  -- the moments of the events, in order
  pub moments : Gave gives m (moments_of exchanges) m'
  -- the events are a chain of exact steps, from the core before to the core left; no merge comes with any of them
  pub exact : IsChain ServedGoes old (entries_of exchanges) new
  -- from each world that the core refined, whatever history led there, the entries are a legal history; no session that was opened before counts in it
  pub histories : (w : World) → Refines (world_of (base_of old)) w → IsHistoryFrom w (entries_of exchanges) new last

-- ---- whole connections
-- All pieces of the stream were answered, and all replies written, with nothing held. Where reading failed, all pieces in front of what is left
-- were answered, but for a part of one that is dropped, and all their replies are written, with nothing held. Where writing failed, the first
-- pieces were, and a beginning of their replies is written.
abbrev pub ServesAll : {R W M : Type 0} → InputGhosts R → OutputGhosts W → (M → ℤ → M → Type 0) → CoreContents → M → R → W → CoreContents → M → R → W → Result (Unit {0}) ServeFault → Type 0
ServesAll i o gives old m input output new m' input' output' (Ok u) =
    IfSome (i.remaining input) (λ bytes. (text : List ℕ) × ServesPieces gives old m (pieces_of bytes) text new m' × IsWritten o output output' text) × (o.held output' ≡ [])
ServesAll i o gives old m input output new m' input' output' (Err Read) =
    IfSome (i.remaining input) (λ bytes. (pieces : List Piece) × (behind : List ℕ) × (text : List ℕ)
    × IsLeftButPart (i.remaining input') behind × (pieces_of bytes ≡ pieces ++ pieces_of behind) × AtFront bytes pieces behind × ServesPieces gives old m pieces text new m' × IsWritten o output output' text) × (o.held output' ≡ [])
ServesAll i o gives old m input output new m' input' output' (Err Write) =
    IfSome (i.remaining input) (λ bytes. (pieces : List Piece) × (more : List Piece) × (text : List ℕ)
    × (pieces_of bytes ≡ pieces ++ more) × ServesPieces gives old m pieces text new m' × IsWrittenPart o output output' text)
