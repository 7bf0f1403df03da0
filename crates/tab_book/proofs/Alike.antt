-- Parts one after another are one history, and histories that look alike tell the same.
use Rattle.std.proofs.Common.{List, [], ◌∷◌}
use Rattle.std.specs.Prelude.{All}
use Rattle.std.specs.List.{AllByRecursion}
use Rattle.std.proofs.lemmas.List.Elements.{recursion_from_All}
use Rattle.tab_history.specs.Bases.{Base}
use Rattle.tab_history.specs.Histories.{Entry}
use Rattle.tab_core.specs.Recording.{IsLegalFrom}
use Rattle.tab_server_law.proofs.TwoBases.{two_worlds_over}
use Rattle.tab_book.specs.Entries.{past}
use Rattle.tab_book.specs.Rotating.{Portion, FollowsOn}
use Rattle.tab_book.specs.Telling.{TellAlike, AreInTurn, entries_in}
use Rattle.tab_book.proofs.OneHistory.{one_history}

abbrev pub IsLegalPart : Portion → Type 0
IsLegalPart p = IsLegalFrom p.base (past p.entries)

-- ---- parts in turn
-- the part with the entries of those that follow
abbrev joined : Portion → List Portion → Portion
joined p ps = record p { entries = entries_in p ps }

-- from the last part on, each is joined to all that follow it
all_joined : (p : Portion) (ps : List Portion) → IsLegalPart p → AllByRecursion IsLegalPart ps → AreInTurn p ps → IsLegalPart (joined p ps)
all_joined p [] legal all turn = legal
all_joined p (q ∷ ps) legal all turn =
    let later : IsLegalPart (joined q ps) = all_joined q ps all.0 all.1 turn.1 in
    let on : FollowsOn p (joined q ps) = record { number = turn.0.number; refines = turn.0.refines } in
    one_history p (joined q ps) legal later on

pub in_turn : (p : Portion) (ps : List Portion) → IsLegalPart p → All IsLegalPart ps → AreInTurn p ps → IsLegalFrom p.base (past (entries_in p ps))
in_turn p ps legal all turn = all_joined p ps legal (recursion_from_All IsLegalPart ps all) turn

-- ---- what they tell
pub tell_alike : (b : Base) (h : List Entry) (c : Base) (k : List Entry) → IsLegalFrom b h → IsLegalFrom c k → TellAlike b h c k
unfolding IsLegalFrom
tell_alike b h c k legal legal' user alike = two_worlds_over user b h c k legal legal' alike
