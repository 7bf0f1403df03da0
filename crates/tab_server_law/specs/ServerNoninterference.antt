-- To be believed by whoever relies on it. Noninterference over the histories of a server, in which each event stands alone: nobody has a list of sessions there.
use Rattle.std.specs.Prelude.{◌≡◌, ℕ, List, ◌∷◌, true}
use Rattle.tab_key.specs.Records.{Cell}
use Rattle.tab_history.specs.Bases.{Base}
use Rattle.tab_history.specs.Histories.{Entry, World, world_of, journal, is_by}
use Rattle.tab_history.specs.Legal.{LegalAlone, IsAmple}
use Rattle.tab_history.specs.Refinement.{Refines, IsSound}
use Rattle.tab_noninterference.specs.Views.{view}
use Rattle.tab_noninterference.specs.Hearing.{is_covered, list_opened, heard}

-- ---- from one base
-- Two such histories from this base, in which nothing ran out, and of which a user sees the same, tell them the same.
abbrev pub IsNoninterferingAlone : Base → Type 0
IsNoninterferingAlone b = (user : List ℕ) (h k : List Entry) → LegalAlone (world_of b) h → LegalAlone (world_of b) k → IsAmple h → IsAmple k
    → view b user h ≡ view b user k → heard user (world_of b) h ≡ heard user (world_of b) k

-- The law: so it is from each sound base.
abbrev pub NoninterferenceOfEvents : Type 0
NoninterferenceOfEvents = (b : Base) → IsSound (world_of b) → IsNoninterferingAlone b

-- ---- from two bases
-- The history h from the base b and the history k from the base c look alike to the user: both bases refine one, as what two cores hold
-- that began alike; nothing ran out in either; and the user sees the same of both.
pub record LookAlike (user : List ℕ) (b : Base) (h : List Entry) (c : Base) (k : List Entry) : Type 0 where
  pub origin : Base
  pub first_begins : Refines (world_of b) (world_of origin)
  pub second_begins : Refines (world_of c) (world_of origin)
  pub first_ample : IsAmple h
  pub second_ample : IsAmple k
  pub views : view b user h ≡ view c user k

-- The law: two such histories tell the user the same.
abbrev pub NoninterferenceOver : Type 0
NoninterferenceOver = (user : List ℕ) (b : Base) (h : List Entry) (c : Base) (k : List Entry) → LegalAlone (world_of b) h → LegalAlone (world_of c) k
    → LookAlike user b h c k → heard user (world_of b) h ≡ heard user (world_of c) k

-- ---- of the newest event alone
-- the user asked it, and its reply is covered
abbrev pub IsHeardBy : List ℕ → Entry → Type 0
IsHeardBy user e = (is_by user e.step ≡ true) × (is_covered e.step ≡ true)

-- the whole list of the session that the entry opens behind these
abbrev pub list_in : World → Entry → List Entry → List Cell
list_in w e es = list_opened w.base (journal w es) e.step e.reply

-- The law: where the newest events of two such histories are the user's and covered, they are told the same, with the same whole list.
abbrev pub LastAlike : Type 0
LastAlike = (user : List ℕ) (b : Base) (e : Entry) (h : List Entry) (c : Base) (f : Entry) (k : List Entry) → LegalAlone (world_of b) (e ∷ h) → LegalAlone (world_of c) (f ∷ k)
    → LookAlike user b (e ∷ h) c (f ∷ k) → IsHeardBy user e → IsHeardBy user f
    → (e.reply ≡ f.reply) × (list_in (world_of b) e h ≡ list_in (world_of c) f k)
