-- Histories from two bases that refine one, and that look alike to a user, answer them alike.
use Rattle.std.proofs.Common.{◌≡◌, List, sym, ◌∙◌}
use Rattle.tab_history.specs.Bases.{Base}
use Rattle.tab_history.specs.Histories.{Entry, world_of}
use Rattle.tab_history.specs.Legal.{LegalAlone}
use Rattle.tab_history.specs.Refinement.{Refines}
use Rattle.tab_history.proofs.GoOn.{events_down}
use Rattle.tab_noninterference.specs.Views.{view}
use Rattle.tab_server_law.specs.ServerNoninterference.{NoninterferenceOver}
use Rattle.tab_server_law.proofs.EqualEvents.{two_worlds_of_events}
use Rattle.tab_server_law.proofs.Same.{same_view, same_heard}
use Rattle.tab_server_law.proofs.Sound.{refined_is_sound}

-- what is legal from a base is legal from the one that it refines
down : (b a : Base) → Refines (world_of b) (world_of a) → (es : List Entry) → LegalAlone (world_of b) es → LegalAlone (world_of a) es
down b a r es legal = (events_down (world_of b) (world_of a) r es legal).0

pub two_worlds_over : NoninterferenceOver
two_worlds_over user b h c k p q alike =
    let a : Base = alike.origin in
    let r : Refines (world_of b) (world_of a) = alike.first_begins in
    let s : Refines (world_of c) (world_of a) = alike.second_begins in
    let views : view a user h ≡ view a user k = sym (same_view b a r user h p) ∙ alike.views ∙ same_view c a s user k q in
    same_heard b a r user h p
    ∙ two_worlds_of_events a (refined_is_sound a (world_of b) r) user h k (down b a r h p) (down c a s k q) alike.first_ample alike.second_ample views
    ∙ sym (same_heard c a s user k q)
